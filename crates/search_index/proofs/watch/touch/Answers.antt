use mathlib.Core.Path.{sym, subst}
use mathlib.Core.List.{List}
use Prim.Native.Nat.{ℕ, ◌<◌, ◌≤◌}
use native.Mathlib.Omega.{arith}
use lib.IntN.{ℤ}
use lib.ListN.{length, get_or, set, length-set}
use Rattle.clause_list.specs.ClauseList.{clauses_of}
use Rattle.search_index.specs.Index.{Chains, Gains, Indexed, Due, unwatched, watched}
use Rattle.search_index.proofs.Touching.{Walk, walk_first, here-low, falls, owner-low, due-here, asks-here, walk-on}
use Rattle.search_index.proofs.Touching.{walk_end, indexed}
use Rattle.search_index.proofs.watch.touch.Goals as goal
use Rattle.search_index.proofs.watch.touch.Lts as lts
use Rattle.search_index.proofs.watch.touch.Tie as tie
use Rattle.search_index.proofs.watch.touch.Reads as reads

abbrev At-After-owner : Type 0
At-After-owner =
    lts.After-owner tie.the-claims reads.Pre reads.Post goal.the-invariant-loop-i goal.the-decreases-loop-i
    tie.handed_clauses

abbrev At-Else1 : Type 0
At-Else1 =
    lts.Else1 tie.the-claims reads.Pre reads.Post goal.the-invariant-loop-i goal.the-decreases-loop-i tie.handed_clauses

abbrev At-In-loop : Type 0
At-In-loop =
    lts.In-loop tie.the-claims reads.Pre reads.Post goal.the-invariant-loop-i goal.the-decreases-loop-i
    tie.handed_clauses

abbrev At-Start : Type 0
At-Start =
    lts.Start tie.the-claims reads.Pre reads.Post goal.the-invariant-loop-i goal.the-decreases-loop-i tie.handed_clauses

pub returns-then-weights-eq0 : goal.returns-then-weights-eq0
returns-then-weights-eq0 c = unwatched c.if-weights-eq0.true

-- at the call, where there are weights
module _ (c : At-Else1) where
  abbrev s : At-Start
  s = c.before.before.before.before

  abbrev clauses : List (List ℤ)
  clauses = clauses_of s.args.list.now

  index : Indexed clauses (set s.args.values.now s.args.p s.args.was) s.args.chains.now s.args.weights.now
  index = indexed _ _ _ _ s.requires.watched c.if-weights-eq0.false

  static : Chains clauses s.args.chains.now
  static = index.chains_are

  few : length s.args.values.now ≤ 16384
  few = omega (arith, index.few, length-set s.args.values.now s.args.p s.args.was)

-- in a turn of the loop
module _ (c : At-In-loop) where
  abbrev k : At-Else1
  k = c.before.before.before.before.before

  abbrev walk : Walk (clauses k) (s k).args.values.now (s k).args.p (s k).args.was c.loop-i.weights c.loop-i.i
  walk = c.loop-i.invariant

  positive : 1 ≤ c.loop-i.i
  positive = omega (arith, c.loop-i-test.true)

  word_low : c.loop-i.i < 16384
  word_low = here-low (clauses k) _ _ _ _ (static k) _ _ walk positive

  -- what the byte's change comes to
  abbrev gained : List ℕ
  gained = c.gains-gains.result

  gains-are : Gains (s k).args.was (get_or (s k).args.values.now (s k).args.p 0) gained
  gains-are = c.gains-gains.ensures

-- the clause of the word
module _ (c : At-After-owner) where
  abbrev q : At-In-loop
  q = c.before

  below : c.owner-c.result < 16384
  below = owner-low (clauses (k q)) _ _ _ _ (static (k q)) _ _ (walk q) (positive q) _ c.owner-c.ensures _ (gains-are q)

  due : Due (clauses (k q)) (s (k q)).args.values.now (gained q) q.loop-i.i
      (get_or q.loop-i.weights c.owner-c.result 0)
  due = due-here (clauses (k q)) _ _ _ _ (static (k q)) _ _ (walk q) (positive q) _ c.owner-c.ensures _ (gains-are q)

pub loop-i-init : goal.loop-i-init
loop-i-init c =
    let k = c.before.before.before.before in
    rw c.first-i.ensures
    (walk_first (clauses k) _ _ _ _ (static k) _ (index k) (omega (arith, (s k).requires.p_in_bounds, few k)))

pub owner-c-requires : goal.owner-c-requires
owner-c-requires c = ((static (k c.before)).linked.long, word_low c.before)

pub bounds-weights-c : goal.bounds-weights-c
bounds-weights-c c = let o = c.before.before.before in omega (arith, below o, (walk (q o)).tallied.long)

pub renewed-w-requires : goal.renewed-w-requires
renewed-w-requires c =
    let o = c.before.before.before in record {
      fine = (s (k (q o))).requires.fine;
      values_len_bound = (s (k (q o))).requires.values_len_bound;
      chains = static (k (q o));
      due = due o;
    }

pub put-requires : goal.put-requires
put-requires c =
    let o = c.before.before.before.before.before in
    let i = q o in record {
      weights_len = ((walk i).tallied.long, below o);
      c_bound =
          asks-here (clauses (k i)) _ _ _ _ (static (k i)) _ _ (walk i) (positive i) _ o.owner-c.ensures _
          (gains-are i);
    }

pub link-i-requires : goal.link-i-requires
link-i-requires c = let i = q c.before.before.before.before.before.before.before.before in
    ((static (k i)).linked.long, word_low i)

pub loop-i-smaller : goal.loop-i-smaller
loop-i-smaller c =
    let i = q c.before.before.before.before.before.before.before.before.before in omega (
      arith,
      c.link-i.ensures,
      falls (clauses (k i)) _ _ _ _ (static (k i)) _ _ (walk i) (positive i),
    )

pub loop-i-preserved : goal.loop-i-preserved
loop-i-preserved c =
    let o = c.before.before.before.before.before.before.before.before.before in
    let i = q o in
    let a = (s (k i)).args in
    subst (λ j. Walk (clauses (k i)) a.values.now a.p a.was c.put.new.weights j) (sym c.link-i.ensures)
    (walk-on (clauses (k i)) _ _ _ _ (static (k i)) _ _ (walk i) (positive i) _ o.owner-c.ensures _ (gains-are i) _ _
    c.put.ensures c.renewed-w.ensures)

pub returns : goal.returns
returns c =
    let k = c.before.before.before.before.before.before in
    watched (walk_end (clauses k) _ _ _ _ (static k) _ _ c.loop-i.invariant c.loop-i-test.false (few k))
