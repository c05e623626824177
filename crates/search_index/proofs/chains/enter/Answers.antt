use mathlib.Core.Path.{◌≡◌, refl, sym, ◌∙◌, ap}
use mathlib.Core.Bool.{true}
use mathlib.Core.List.{List}
use Prim.Native.Nat.{ℕ, suc, ◌+◌, ◌<◌, ◌≤◌}
use native.Mathlib.Omega.{arith}
use lib.ListN.{length, get_or, length-set}
use lib.IntN.{ℤ, pos}
use borrow.Author.Rules.{sfits_of}
use Rattle.prelude.proofs.Laws.{clash}
use Rattle.clause_list.specs.ClauseList.{clauses_of, words_of}
use Rattle.literal.specs.Words.{count_of}
use Rattle.literal.proofs.Signs.{read, back}
use Rattle.search_rules.specs.Rules.{place_of}
use Rattle.search_rules.specs.Held.{InRange}
use Rattle.search_rules.proofs.Found.{place-below}
use Rattle.search_scan.proofs.Words.{place-of}
use Rattle.search_index.specs.Index.{limit, clause_at, head_of, first_at, IsHead}
use Rattle.search_index.proofs.Parts.{count-is, high}
use Rattle.search_index.proofs.Words.{words_are, head_step, clauses-within}
use Rattle.search_index.proofs.Entering.{Entered, spot-low, enter-first, enter-next, enter-end, enter-apart}
use Rattle.search_index.proofs.Entering.{word-within}
use Rattle.search_index.proofs.Entering.{literal-range}
use Rattle.search_index.proofs.chains.enter.Goals as goal
use Rattle.search_index.proofs.chains.enter.Goals.{then-head-wide, else-head-wide}
use Rattle.search_index.proofs.chains.enter.Lts as lts
use Rattle.search_index.proofs.chains.enter.Tie as tie
use Rattle.search_index.proofs.chains.enter.Reads as reads

abbrev At-After-known_count : Type 0
At-After-known_count =
    lts.After-known_count tie.the-claims reads.Pre reads.Post goal.the-invariant-loop-i goal.the-decreases-loop-i
    tie.handed_clauses

abbrev At-After-known_count-arg : Type 0
At-After-known_count-arg =
    lts.After-known_count-arg tie.the-claims reads.Pre reads.Post goal.the-invariant-loop-i goal.the-decreases-loop-i
    tie.handed_clauses

abbrev At-After-place : Type 0
At-After-place =
    lts.After-place tie.the-claims reads.Pre reads.Post goal.the-invariant-loop-i goal.the-decreases-loop-i
    tie.handed_clauses

abbrev At-In-loop : Type 0
At-In-loop =
    lts.In-loop tie.the-claims reads.Pre reads.Post goal.the-invariant-loop-i goal.the-decreases-loop-i
    tie.handed_clauses

abbrev At-Joined1 : Type 0
At-Joined1 =
    lts.Joined1 tie.the-claims reads.Pre reads.Post goal.the-invariant-loop-i goal.the-decreases-loop-i
    tie.handed_clauses

abbrev At-Start : Type 0
At-Start =
    lts.Start tie.the-claims reads.Pre reads.Post goal.the-invariant-loop-i goal.the-decreases-loop-i tie.handed_clauses

module _ (c : At-Start) where
  abbrev list : List ℤ
  list = c.args.list.now

  abbrev clauses : List (List ℤ)
  clauses = clauses_of list

  abbrev head : IsHead clauses c.args.head
  head = record { c = c.args.c; within = c.requires.c_in_bounds.0; at = c.requires.c_in_bounds.1 }

  ends : c.args.head + suc (length (clause_at clauses c.args.c)) ≤ length list
  ends = high _ list c.requires.roomy.fine c.args.head head

  counts : get_or list c.args.head (pos 0) ≡ pos (length (clause_at clauses c.args.c))
  counts = count-is _ list c.requires.roomy.fine c.args.head head

module _ (c : At-After-known_count-arg) where
  abbrev word : ℤ
  word = get_or (list c.before.before) c.args.head (pos 0)

  word-is : read word ≡ pos (length (clause_at (clauses c.before.before) c.args.c))
  word-is = back word (sfits_of c.known_count-arg-1.given) ∙ counts c.before.before

module _ (c : At-After-known_count) where
  abbrev start : At-Start
  start = c.before.before.before

  size_is : c.known_count.result ≡ length (clause_at (clauses start) start.args.c)
  size_is = c.known_count.ensures ∙ ap count_of (word-is c.before)

  end_is : start.args.head + 1 + c.known_count.result ≡ head_of (clauses start) (suc start.args.c)
  end_is = omega (
    arith,
    size_is,
    start.requires.c_in_bounds.1,
    head_step (clauses start) start.args.c
        start.requires.c_in_bounds.0,
  )

module _ (c : At-In-loop) where
  abbrev s : At-Start
  s = c.before.before.before.before.before

  abbrev i : ℕ
  i = c.loop-i.i

  abbrev inv : Entered (clauses s) s.args.chains.now c.loop-i.chains s.args.c i c.loop-i.apart
  inv = c.loop-i.invariant

  short : i < head_of (clauses s) (suc s.args.c)
  short = omega (arith, c.loop-i-test.true, end_is c.before.before)

  words : list s ≡ words_of (clauses s)
  words = words_are _ _ s.requires.roomy.fine

  inside : i < length (list s)
  inside = omega (arith, ap length words, word-within (clauses s) s.args.c s.requires.c_in_bounds.0 _ _ _ _ inv short)

  below : i < limit
  below = omega (arith, inside, s.requires.roomy.short)

  number : s.args.c < limit
  number = omega (arith, s.requires.c_in_bounds.0, clauses-within _ _ s.requires.roomy.fine, s.requires.roomy.short)

  abbrev here : ℤ
  here = get_or (list s) i (pos 0)

  here-is : here ≡ get_or (words_of (clauses s)) i (pos 0)
  here-is = ap (λ (ws : List ℤ). get_or ws i (pos 0)) words

  ranged : InRange s.requires.roomy.v here
  ranged =
      let r = literal-range (clauses s) s.args.c s.requires.c_in_bounds.0 _ _ _ _ inv short _ (list s)
      s.requires.roomy.fine refl in
      rw here-is r

module _ (c : At-After-place) where
  abbrev q : At-In-loop
  q = c.before.before

  place_is : c.place-p.result ≡ place_of (here q)
  place_is = c.place-p.ensures ∙ place-of (read (here q)) ∙ ap place_of (back (here q) (sfits_of c.place-arg-1.given))

  place-low : c.place-p.result < limit
  place-low = omega (arith, place_is, place-below (s q).requires.roomy.v (here q) (ranged q), (s q).requires.roomy.few)

pub overflow_add-end : goal.overflow_add-end
overflow_add-end c = omega (arith, ends c.before.before, c.requires.roomy.short)

pub offset_bounds-list-head : goal.offset_bounds-list-head
offset_bounds-list-head c = omega (arith, ends c.before.before, c.requires.roomy.short)

pub bounds-list-head : goal.bounds-list-head
bounds-list-head c = omega (arith, ends c.before.before)

pub known_count-requires : goal.known_count-requires
known_count-requires c = word-is c.before ∙ ap (λ (z : ℤ). pos (count_of z)) (sym (word-is c.before))

pub overflow_add-end-2 : goal.overflow_add-end-2
overflow_add-end-2 c = omega (arith, size_is c.before, ends (start c.before), (start c.before).requires.roomy.short)

pub overflow_add-i : goal.overflow_add-i
overflow_add-i c = omega (arith, ends (start c.before), (start c.before).requires.roomy.short)

pub loop-i-init : goal.loop-i-init
loop-i-init c =
    let s = start c.before in
    enter-first (clauses s) s.args.c s.requires.c_in_bounds.0 _ _ s.requires.c_in_bounds.1 s.requires.linked

pub bounds-list-i : goal.bounds-list-i
bounds-list-i c = inside c

pub place-p-requires : goal.place-p-requires
place-p-requires c =
    let r = ranged c.before in
    rw (back (here c.before) (sfits_of c.place-arg-1.given))
    (r.0, (let h = r.1 in omega (arith, h, (s c.before).requires.roomy.few)))

pub bounds-chains-p : goal.bounds-chains-p
bounds-chains-p c = omega (arith, place-low c.before.before, (inv (q c.before.before)).linked.long)

-- after the test
module _ (c : At-Joined1) where
  abbrev placed : At-After-place
  placed = c.before.before.before

  abbrev word_at : At-In-loop
  word_at = q placed

  room : length word_at.loop-i.chains ≡ 65537
  room = (inv word_at).linked.long

  still-apart : c.if-head-wide.apart ≡ true
      → (word_at.loop-i.apart ≡ true)
      × (first_at word_at.loop-i.chains placed.place-p.result ≤ head_of (clauses (s word_at)) (s word_at).args.c)
  still-apart t =
      elim c.if-head-wide.branch [
        | then-head-wide w ↦ clash _ t w.apart-is
        | else-head-wide w ↦ (
          sym w.apart-is
              ∙ t,
          omega (arith, w.if-head-wide.false, c.wide.ensures, (s word_at).requires.c_in_bounds.1),
        )
      ]

pub overflow_cast-chains : goal.overflow_cast-chains
overflow_cast-chains c = omega (arith, number (word_at c))

pub bounds-chains-i : goal.bounds-chains-i
bounds-chains-i c = omega (arith, below (word_at c), room c)

pub bounds-chains-i-in-loop-i : goal.bounds-chains-i-in-loop-i
bounds-chains-i-in-loop-i c = simp length-set (omega (arith, below (word_at c), room c))

pub overflow_cast-chains-in-loop-i : goal.overflow_cast-chains-in-loop-i
overflow_cast-chains-in-loop-i c = omega (arith, below (word_at c))

pub bounds-chains-p-in-loop-i : goal.bounds-chains-p-in-loop-i
bounds-chains-p-in-loop-i c = simp length-set (omega (arith, place-low (placed c), room c))

pub loop-i-preserved : goal.loop-i-preserved
loop-i-preserved c =
    let w = word_at c in
    enter-next (clauses (s w)) (s w).args.c (s w).requires.c_in_bounds.0 _ _ _ _ (inv w) (short w) _
    (place_is (placed c) ∙ ap place_of (here-is w))
    (spot-low _ (s w).requires.roomy) (place-low (placed c)) (below w) _ (still-apart c)

pub returns : goal.returns
returns c =
    let k = c.before.before in
    let s = start k in
    let h = c.loop-i.invariant in
    let e : head_of (clauses s) (suc s.args.c) ≤ c.loop-i.i = omega (arith, c.loop-i-test.false, end_is k) in record {
      linked_2 = enter-end (clauses s) s.args.c s.requires.c_in_bounds.0 _ _ _ _ h e;
      by_index = h.heads;
      apart = enter-apart (clauses s) s.args.c s.requires.c_in_bounds.0 _ _ _ _ h e;
    }
