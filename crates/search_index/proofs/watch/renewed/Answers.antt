-- `search_index::watch::renewed` meets its contract. Assumes nothing.
use mathlib.Core.Path.{◌≡◌, ap}
use mathlib.Core.List.{List}
use Prim.Native.Nat.{ℕ, ◌<◌, ◌≤◌}
use native.Mathlib.Omega.{arith}
use lib.IntN.{ℤ, pos}
use lib.ListN.{length, get_or}
use mir.Syntax.{w32}
use mir.Val.{to_z, of_z}
use Rattle.literal.proofs.Signs.{back}
use borrow.Author.Rules.{sfits_of}
use Rattle.clause_list.specs.ClauseList.{clauses_of}
use Rattle.search_index.specs.Index.{IsHead, Chains, looked, Due}
use Rattle.search_index.proofs.Renewing.{word-within, head-found, owner-within, sign_low, gain-high, renewed-stands}
use Rattle.search_index.proofs.Words.{words_are, clauses-within}
use Rattle.search_index.proofs.watch.renewed.Goals as goal
use Rattle.search_index.proofs.watch.renewed.Lts as lts
use Rattle.search_index.proofs.watch.renewed.Tie as tie
use Rattle.search_index.proofs.watch.renewed.Reads as reads

abbrev At-After-head : Type 0
At-After-head = lts.After-head tie.the-claims reads.Pre reads.Post tie.handed_clauses

abbrev At-After-sign : Type 0
At-After-sign = lts.After-sign tie.the-claims reads.Pre reads.Post tie.handed_clauses

abbrev At-Start : Type 0
At-Start = lts.Start tie.the-claims reads.Pre reads.Post tie.handed_clauses

-- what is due, and the chains
module _ (c : At-Start) where
  abbrev list : List ℤ
  list = c.args.list.now

  abbrev values : List ℕ
  values = c.args.values.now

  abbrev Dues : Type 0
  Dues = Due (clauses_of list) values c.args.gains.now c.args.i c.args.w

  static : Chains (clauses_of list) c.args.chains.now
  static = c.requires.chains

  short : length list ≤ 16384
  short = omega (arith, ap length (words_are _ list c.requires.fine), static.short)

  inside : c.args.i < length list
  inside = word-within list values c.requires.fine _ _ _ c.requires.due

pub owner-c-requires : goal.owner-c-requires
owner-c-requires c =
    let s = c.before.before.before.before in ((static s).linked.long, omega (arith, inside s, short s))

pub head-at-requires : goal.head-at-requires
head-at-requires c =
    let s = c.before.before.before.before.before in (
      (static s).linked.long,
      omega (
        arith,
        owner-within (list s) _ s.requires.fine _ _ _ s.requires.due _ (static s) _ c.owner-c.ensures,
        clauses-within _ (list s) s.requires.fine,
        short s,
      ),
    )

-- the head of the clause
module _ (c : At-After-head) where
  abbrev s : At-Start
  s = c.before.before.before.before.before

  at_head : (d : Dues s) → IsHead (clauses_of (list s)) c.head-at.result
  at_head d = record {
    c = d.spot.c;
    within = d.spot.within;
    at = head-found (list s) _ s.requires.fine _ _ _ d _ (static s) _ _ c.owner-c.ensures c.head-at.ensures;
  }

pub look_up-requires : goal.look_up-requires
look_up-requires c = record {
  fine = (s c.before).requires.fine;
  values_len_bound = (s c.before).requires.values_len_bound;
  head = at_head c.before (s c.before).requires.due;
}

pub returns-then-w-ge-MIXED : goal.returns-then-w-ge-MIXED
unfolding at_head
returns-then-w-ge-MIXED c d = looked (c.look_up.ensures (at_head c.before.before d))

pub offset_bounds-list-i : goal.offset_bounds-list-i
offset_bounds-list-i c = let s = c.before.before.before.before in omega (arith, inside s, short s)

pub bounds-list-i : goal.bounds-list-i
bounds-list-i c = inside c.before.before.before.before

-- the sign of the literal, and what its weight changes by
module _ (c : At-After-sign) where
  abbrev r : At-Start
  r = c.before.before.before.before.before

  abbrev word : ℤ
  word = get_or (list r) r.args.i (pos 0)

  literal-is : to_z w32 (of_z w32 word) ≡ word
  literal-is = back word (sfits_of c.sign-arg-1.given)

  plain : r.args.w < 32768
  plain = omega (arith, c.if-w-ge-MIXED.false)

  below : c.sign-s.result < 2
  below =
      sign_low (list r) (values r) r.requires.fine _ _ _ r.requires.due plain (short r) _ literal-is _ c.sign-s.ensures

pub bounds-gains-s : goal.bounds-gains-s
bounds-gains-s c = below c.before.before

pub overflow_sub-result : goal.overflow_sub-result
overflow_sub-result c =
    let q = c.before.before.before in
    let s = r q in
    gain-high (list s) (values s) s.requires.fine _ _ _ s.requires.due (plain q) (short s) _ (literal-is q) _
    q.sign-s.ensures

pub returns : goal.returns
returns c d =
    let q = c.before.before.before in
    let s = r q in
    renewed-stands (list s) (values s) s.requires.fine _ _ _ d (plain q) (short s) _ (literal-is q) _ q.sign-s.ensures
