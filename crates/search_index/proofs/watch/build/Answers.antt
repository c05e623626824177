use mathlib.Core.Path.{◌≡◌, sym, ◌∙◌, ap}
use mathlib.Core.List.{List}
use Prim.Native.Nat.{ℕ, suc, ◌+◌, ◌<◌, ◌≤◌}
use native.Mathlib.Omega.{arith}
use lib.ListN.{length, get_or, length-set}
use lib.IntN.{ℤ, pos}
use borrow.Author.Rules.{sfits_of}
use Rattle.clause_list.specs.ClauseList.{clauses_of, words_of}
use Rattle.literal.specs.Words.{count_of}
use Rattle.literal.proofs.Signs.{read, back}
use Rattle.search_index.specs.Index.{limit, clause_at, head_of, IsHead, Spot, Linked, Roomy, Stands, weighed, looked}
use Rattle.search_index.specs.Index.{falses_at, one}
use Rattle.search_index.proofs.Parts.{count-is, high}
use Rattle.search_index.proofs.Words.{words_are, head_step, clauses-within}
use Rattle.search_index.proofs.Entering.{spot-low}
use Rattle.search_index.proofs.Building.{Built, built-first, built-more, noted-linked, built-next, built-end}
use Rattle.search_index.proofs.Tallies.{put-more-asks}
use Rattle.search_index.proofs.watch.build.Goals as goal
use Rattle.search_index.proofs.watch.build.Goals.{then-apart, else-apart}
use Rattle.search_index.proofs.watch.build.Lts as lts
use Rattle.search_index.proofs.watch.build.Tie as tie
use Rattle.search_index.proofs.watch.build.Reads as reads

abbrev At-After-enter : Type 0
At-After-enter =
    lts.After-enter tie.the-claims reads.Pre reads.Post goal.the-invariant-loop-at goal.the-decreases-loop-at
    tie.handed_clauses

abbrev At-After-known_count : Type 0
At-After-known_count =
    lts.After-known_count tie.the-claims reads.Pre reads.Post goal.the-invariant-loop-at goal.the-decreases-loop-at
    tie.handed_clauses

abbrev At-After-known_count-arg : Type 0
At-After-known_count-arg =
    lts.After-known_count-arg tie.the-claims reads.Pre reads.Post goal.the-invariant-loop-at goal.the-decreases-loop-at
    tie.handed_clauses

abbrev At-After-note_head : Type 0
At-After-note_head =
    lts.After-note_head tie.the-claims reads.Pre reads.Post goal.the-invariant-loop-at goal.the-decreases-loop-at
    tie.handed_clauses

abbrev At-After-put : Type 0
At-After-put =
    lts.After-put tie.the-claims reads.Pre reads.Post goal.the-invariant-loop-at goal.the-decreases-loop-at
    tie.handed_clauses

abbrev At-In-loop : Type 0
At-In-loop =
    lts.In-loop tie.the-claims reads.Pre reads.Post goal.the-invariant-loop-at goal.the-decreases-loop-at
    tie.handed_clauses

abbrev At-Joined1 : Type 0
At-Joined1 =
    lts.Joined1 tie.the-claims reads.Pre reads.Post goal.the-invariant-loop-at goal.the-decreases-loop-at
    tie.handed_clauses

abbrev At-Start : Type 0
At-Start =
    lts.Start tie.the-claims reads.Pre reads.Post goal.the-invariant-loop-at goal.the-decreases-loop-at
    tie.handed_clauses

module _ (s : At-Start) where
  abbrev list : List ℤ
  list = s.args.list.now

  abbrev values : List ℕ
  values = s.args.values.now

  abbrev clauses : List (List ℤ)
  clauses = clauses_of list

  roomy : Roomy list
  roomy = record {
    v = length values;
    fine = s.requires.fine;
    few = s.requires.values_len_bound.0;
    short =
        s.requires.values_len_bound.1;
  }

  words : list ≡ words_of clauses
  words = words_are _ list s.requires.fine

  spots : (q j : ℕ) → Spot clauses q j → q < limit
  spots = spot-low list roomy

  short : length (words_of clauses) ≤ limit
  short = omega (arith, ap length words, s.requires.values_len_bound.1)

  few : length clauses ≤ limit
  few = omega (arith, clauses-within _ list s.requires.fine, s.requires.values_len_bound.1)

module _ (q : At-In-loop) where
  abbrev s : At-Start
  s = q.before.before.before.before.before

  abbrev at : ℕ
  at = q.loop-at.at

  abbrev n : ℕ
  n = q.loop-at.c

  abbrev inv : Built (clauses s) (values s) q.loop-at.chains q.loop-at.weights n at
  inv = q.loop-at.invariant

  more : n < length (clauses s)
  more = built-more _ _ (spots s) (short s) _ _ _ _ inv (omega (arith, q.loop-at-test.true, ap length (words s)))

  low : n < limit
  low = omega (arith, more, few s)

  at_low : at < limit
  at_low = omega (arith, q.loop-at-test.true, s.requires.values_len_bound.1)

  head : IsHead (clauses s) at
  head = record { c = n; within = more; at = inv.place }

  ends : at + suc (length (clause_at (clauses s) n)) ≤ length (list s)
  unfolding head
  ends = high _ (list s) s.requires.fine at head

  counts : get_or (list s) at (pos 0) ≡ pos (length (clause_at (clauses s) n))
  unfolding head
  counts = count-is _ (list s) s.requires.fine at head

  clean : get_or q.loop-at.weights n 0 ≡ 0
  clean = inv.clean n (omega arith) low

  put-asks : (one (get_or q.loop-at.weights n 0) ≤ falses_at q.loop-at.weights) × (falses_at q.loop-at.weights ≤ limit)
  put-asks = put-more-asks q.loop-at.weights n inv.tallied low clean

pub loop-at-init : goal.loop-at-init
loop-at-init c =
    let s = c.before.before.before.before in
    built-first (clauses s) (values s) _ _ s.requires.chains_len.0 s.requires.chains_len.1 s.requires.weights_len.0
    s.requires.weights_len.1

pub note_head-requires : goal.note_head-requires
note_head-requires c = let q = c.before.before in ((inv q).linked.long, low q, at_low q)

-- its head is noted
module _ (c : At-After-note_head) where
  abbrev noting : At-In-loop
  noting = c.before.before

  entry : Linked (clauses (s noting)) c.note_head.new.chains (at noting)
  entry = noted-linked _ _ (spots (s noting)) (short (s noting)) _ _ _ _ (inv noting) (more noting) (low noting) _
      c.note_head.ensures

pub enter-apart-requires : goal.enter-apart-requires
enter-apart-requires c =
    let h = c.before.before.before.before in record {
      roomy = roomy (s (noting h));
      c_in_bounds = (more (noting h), (inv (noting h)).place);
      linked = entry h;
    }

pub weigh-w-requires : goal.weigh-w-requires
weigh-w-requires c =
    let q = c.before.before.before.before.before.before.before.before.before.before in record {
      fine = (s q).requires.fine;
      values_len_bound = omega (arith, (s q).requires.values_len_bound.0);
      list_len_bound = (s q).requires.values_len_bound.1;
      head = head q;
    }

pub look_up-w-requires : goal.look_up-w-requires
look_up-w-requires c =
    let q = c.before.before.before.before.before.before.before.before.before.before in record {
      fine = (s q).requires.fine;
      values_len_bound = omega (arith, (s q).requires.values_len_bound.0);
      head = head q;
    }

-- it is weighed
module _ (c : At-Joined1) where
  abbrev entered : At-After-enter
  entered = c.before.before.before

  abbrev weighing : At-In-loop
  weighing = noting entered.before.before.before.before

  stands : Stands (values (s weighing)) (clause_at (clauses (s weighing)) (n weighing)) c.if-apart.w
  unfolding head
  stands =
      elim c.if-apart.branch [
        | then-apart w ↦
            weighed (entered.enter-apart.ensures.apart w.if-apart.true) (w.w-is ∙ w.weigh-w.ensures (head weighing))
        | else-apart w ↦ looked (w.w-is ∙ w.look_up-w.ensures (head weighing))
      ]

pub put-requires : goal.put-requires
put-requires c =
    let q = weighing c.before.before in record {
      weights_len = ((inv q).tallied.long, low q);
      c_bound = put-asks q;
    }

module _ (c : At-After-put) where
  abbrev joined : At-Joined1
  joined = c.before.before

  abbrev putting : At-In-loop
  putting = weighing joined

module _ (c : At-After-known_count-arg) where
  abbrev counting : At-In-loop
  counting = putting c.before.before.before

  word-is : read (get_or (list (s counting)) (at counting) (pos 0))
      ≡ pos (length (clause_at (clauses (s counting)) (n counting)))
  word-is = back _ (sfits_of c.known_count-arg-1.given) ∙ counts counting

pub known_count-requires : goal.known_count-requires
known_count-requires c = word-is c.before ∙ ap (λ (z : ℤ). pos (count_of z)) (sym (word-is c.before))

module _ (c : At-After-known_count) where
  abbrev was-put : At-After-put
  was-put = c.before.before.before.before

  abbrev q : At-In-loop
  q = putting was-put

  size_is : c.known_count.result ≡ length (clause_at (clauses (s q)) (n q))
  size_is = c.known_count.ensures ∙ ap count_of (word-is c.before)

  next-is : at q + 1 + c.known_count.result ≡ head_of (clauses (s q)) (suc (n q))
  next-is = omega (arith, size_is, (inv q).place, head_step (clauses (s q)) (n q) (more q))

pub overflow_add-c : goal.overflow_add-c
overflow_add-c c = omega (arith, low (q c.before))

pub loop-at-preserved : goal.loop-at-preserved
loop-at-preserved c =
    let k = q c.before in
    let j = joined (was-put c.before) in
    let e = entered j in
    built-next (clauses (s k)) (values (s k)) (spots (s k)) (short (s k)) _ _ _ _ (inv k) (more k) (low k)
    _ e.note_head.ensures _ e.enter-apart.ensures.linked_2 e.enter-apart.ensures.by_index
    _ (stands j) _ (was-put c.before).put.ensures _ (next-is c.before)

pub note_count-requires : goal.note_count-requires
note_count-requires c =
    let h = c.loop-at.invariant in
    (h.linked.long, omega (arith, h.upto, few c.before.before.before.before.before.before.before))

pub shape_of-chains : goal.shape_of-chains
shape_of-chains c =
    let s = c.before.before.before.before.before.before.before.before.before.before in
    ap length c.note_count.ensures ∙ simp length-set (c.loop-at.invariant.linked.long
    ∙ sym s.requires.chains_len.0)

pub returns : goal.returns
returns c =
    let l = c.before.before.before.before.before.before in
    let s = l.before.before.before.before in
    built-end (clauses s) (values s) (spots s) (short s) _ _ _ _ l.loop-at.invariant
    (omega (arith, c.loop-at-test.false, ap length (words s))) s.requires.values_len_bound.0
    _ c.note_count.ensures
