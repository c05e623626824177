use mathlib.Core.Path.{◌≡◌, ◌∙◌, ap}
use native.Mathlib.Omega.{arith}
use lib.ListN.{length, get_or}
use lib.IntN.{ℤ, pos}
use mir.Syntax.{w32}
use mir.Val.{to_z, of_z}
use borrow.Author.Rules.{sfits_of, scaled_Fits}
use Rattle.literal.specs.Words.{count_of}
use Rattle.literal.proofs.Signs.{read, back}
use Rattle.clause_list.specs.ClauseList.{clauses_of}
use Rattle.search_index.specs.Index.{clause_at, IsHead}
use Rattle.search_index.proofs.Parts.{count-is, high}
use Rattle.search_index.proofs.WeighLoop.{is-count, weigh-start, weigh-end, word-within, asks-place, asks-weight}
use Rattle.search_index.proofs.WeighLoop.{place-within, weight-fits, weigh-next}
use Rattle.search_index.proofs.weights.weigh.Goals as goal
use Rattle.search_index.proofs.weights.weigh.Lts as lts
use Rattle.search_index.proofs.weights.weigh.Tie as tie
use Rattle.search_index.proofs.weights.weigh.Reads as reads

abbrev At-After-known_count : Type 0
At-After-known_count =
    lts.After-known_count tie.the-claims reads.Pre reads.Post goal.the-invariant-loop-i goal.the-decreases-loop-i
    tie.handed_clauses

abbrev At-After-known_count-arg : Type 0
At-After-known_count-arg =
    lts.After-known_count-arg tie.the-claims reads.Pre reads.Post goal.the-invariant-loop-i goal.the-decreases-loop-i
    tie.handed_clauses

abbrev At-After-l : Type 0
At-After-l =
    lts.After-l tie.the-claims reads.Pre reads.Post goal.the-invariant-loop-i goal.the-decreases-loop-i
    tie.handed_clauses

module _ (c : At-After-known_count-arg) where
  word-is : read (get_or c.args.list.now c.args.head (pos 0))
      ≡ get_or c.args.list.now c.args.head (pos 0)
  word-is = back _ (sfits_of c.known_count-arg-1.given)

module _ (c : At-After-known_count) where
  size_is : (h : IsHead (clauses_of c.args.list.now) c.args.head)
      → c.known_count.result ≡ length (clause_at (clauses_of c.args.list.now) h.c)
  size_is h = c.known_count.ensures ∙ ap count_of (word-is c.before ∙ count-is _ _ c.requires.fine _ h)

module _ (c : At-After-l) where
  abbrev word : ℤ
  word = get_or c.args.list.now c.loop-i.i (pos 0)

  lit_is : to_z w32 (of_z w32 word) ≡ word
  lit_is = back word (sfits_of c.l-1.given)

pub overflow_add-end : goal.overflow_add-end
overflow_add-end c = omega (arith, high _ _ c.requires.fine _ c.requires.head, c.well_formed.0.0)

pub offset_bounds-list-head : goal.offset_bounds-list-head
offset_bounds-list-head c =
    scaled_Fits _ (length c.args.list.now) _ (omega (arith, high _ _ c.requires.fine _ c.requires.head))
    c.well_formed.0.1

pub bounds-list-head : goal.bounds-list-head
bounds-list-head c = omega (arith, high _ _ c.requires.fine _ c.requires.head)

pub known_count-requires : goal.known_count-requires
known_count-requires c =
    is-count _ _ (word-is c.before ∙ count-is _ _ c.requires.fine _ c.requires.head)

pub overflow_add-end-2 : goal.overflow_add-end-2
overflow_add-end-2 c =
    let s = c.before.before.before.before in
    omega (arith, size_is c.before s.requires.head, high _ _ s.requires.fine _ s.requires.head, s.well_formed.0.0)

pub overflow_add-i : goal.overflow_add-i
overflow_add-i c =
    let s = c.before.before.before.before in
    omega (arith, high _ _ s.requires.fine _ s.requires.head, s.well_formed.0.0)

pub loop-i-init : goal.loop-i-init
loop-i-init c = λ h. weigh-start _ _ c.requires.fine _ h _ (size_is c.before h)

pub offset_bounds-list-i : goal.offset_bounds-list-i
offset_bounds-list-i c =
    let s = c.before.before.before.before.before.before in
    let h = s.requires.head in
    scaled_Fits _ (length s.args.list.now) _
    (word-within _ _ s.requires.fine _ h _ _ _ (c.loop-i.invariant h) c.loop-i-test.true)
    s.well_formed.0.1

pub bounds-list-i : goal.bounds-list-i
bounds-list-i c =
    let s = c.before.before.before.before.before.before in
    let h = s.requires.head in
    word-within _ _ s.requires.fine _ h _ _ _ (c.loop-i.invariant h) c.loop-i-test.true

pub place-requires : goal.place-requires
place-requires c =
    let s = c.before.before.before.before.before.before.before in
    let h = s.requires.head in
    asks-place _ _ s.requires.fine _ h _ _ _ (c.loop-i.invariant h) c.loop-i-test.true _ (lit_is c.before)
    s.requires.values_len_bound

pub bounds-values-place : goal.bounds-values-place
bounds-values-place c =
    let s = c.before.before.before.before.before.before.before.before.before in
    let t = c.before.before.before.before in
    let h = s.requires.head in
    place-within _ _ s.requires.fine _ h _ _ _ (t.loop-i.invariant h) t.loop-i-test.true _
    (lit_is c.before.before.before) _ c.place.ensures

pub literal_weight-w-requires : goal.literal_weight-w-requires
literal_weight-w-requires c =
    let s = c.before.before.before.before.before.before.before.before.before in
    let t = c.before.before.before.before in
    let h = s.requires.head in
    asks-weight _ _ s.requires.fine _ h _ _ _ (t.loop-i.invariant h) t.loop-i-test.true _
    (lit_is c.before.before.before)

pub overflow_add-w : goal.overflow_add-w
overflow_add-w c =
    let s = c.before.before.before.before.before.before.before.before.before.before in
    let t = c.before.before.before.before.before in
    let h = s.requires.head in
    omega (
      arith,
      weight-fits _ _ s.requires.fine _ h _ _ _ (t.loop-i.invariant h) t.loop-i-test.true _
          (lit_is c.before.before.before.before) _
          c.place.ensures _ c.literal_weight-w.ensures s.requires.list_len_bound,
    )

pub overflow_add-i-in-loop-i : goal.overflow_add-i-in-loop-i
overflow_add-i-in-loop-i c =
    let s = c.before.before.before.before.before.before.before.before.before.before in
    let t = c.before.before.before.before.before in
    let h = s.requires.head in
    omega (
      arith,
      word-within _ _ s.requires.fine _ h _ _ _ (t.loop-i.invariant h) t.loop-i-test.true,
      s.well_formed.0.0,
    )

pub loop-i-preserved : goal.loop-i-preserved
loop-i-preserved c = λ h.
    let s = c.before.before.before.before.before.before.before.before.before.before in
    let t = c.before.before.before.before.before in
    weigh-next _ _ s.requires.fine _ h _ _ _ (t.loop-i.invariant h) t.loop-i-test.true _
    (lit_is c.before.before.before.before) _
    c.place.ensures _ c.literal_weight-w.ensures

pub returns : goal.returns
returns c = λ h. weigh-end _ _ c.requires.fine _ h _ _ _ (c.loop-i.invariant h) c.loop-i-test.false
