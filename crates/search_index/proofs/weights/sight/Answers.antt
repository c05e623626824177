-- `search_index::weights::sight` meets its contract. Assumes nothing.
use mathlib.Core.Path.{◌≡◌, ◌∙◌, ap}
use mathlib.Core.List.{List, [], ◌∷◌}
use Prim.Native.Nat.{ℕ, suc, ◌+◌, ◌-◌, ◌≤◌}
use native.Mathlib.Omega.{arith}
use lib.ListN.{length, get_or, take, drop}
use lib.IntN.{ℤ, pos}
use borrow.Author.Rules.{sfits_of, scaled_Fits}
use Rattle.literal.specs.Words.{count_of}
use Rattle.literal.proofs.Signs.{read, back}
use Rattle.clause_list.specs.ClauseList.{clauses_of, words_of}
use Rattle.search_scan.specs.Seen.{seen}
use Rattle.search_index.specs.Index.{clause_at, IsHead}
use Rattle.search_index.proofs.Parts.{count-is, high, part, part-fine, part-is-one}
use Rattle.search_index.proofs.WeighLoop.{is-count}
use Rattle.search_index.proofs.weights.sight.Goals as goal
use Rattle.search_index.proofs.weights.sight.Lts as lts
use Rattle.search_index.proofs.weights.sight.Tie as tie
use Rattle.search_index.proofs.weights.sight.Reads as reads

abbrev At-After-known_count : Type 0
At-After-known_count = lts.After-known_count tie.the-claims reads.Pre reads.Post tie.handed_clauses

abbrev At-After-known_count-arg : Type 0
At-After-known_count-arg = lts.After-known_count-arg tie.the-claims reads.Pre reads.Post tie.handed_clauses

module _ (c : At-After-known_count-arg) where
  word-is : read (get_or c.args.list.now c.args.head (pos 0))
      ≡ get_or c.args.list.now c.args.head (pos 0)
  word-is = back _ (sfits_of c.known_count-arg-1.given)

module _ (c : At-After-known_count) where
  abbrev list : List ℤ
  list = c.args.list.now

  abbrev at : ℕ
  at = c.args.head

  abbrev Heads : Type 0
  Heads = IsHead (clauses_of list) at

  size_is : (h : Heads) → c.known_count.result ≡ length (clause_at (clauses_of list) h.c)
  size_is h = c.known_count.ensures ∙ ap count_of (word-is c.before ∙ count-is _ list c.requires.fine at h)

  past : (h : Heads) → at + 1 + c.known_count.result ≤ length list
  past h = omega (arith, size_is h, high _ list c.requires.fine at h)

  taken : (h : Heads) → take ((at + 1 + c.known_count.result) - at) (drop at list)
      ≡ words_of (clause_at (clauses_of list) h.c ∷ [])
  taken h =
      let e : (at + 1 + c.known_count.result) - at ≡ suc (length (clause_at (clauses_of list) h.c)) =
      omega (arith, size_is h) in
      ap (λ (n : ℕ). take n (drop at list)) e ∙ part _ list c.requires.fine at h

pub overflow_add-end : goal.overflow_add-end
overflow_add-end c = omega (arith, high _ _ c.requires.fine _ c.requires.head, c.well_formed.0.0)

pub offset_bounds-list-head : goal.offset_bounds-list-head
offset_bounds-list-head c =
    scaled_Fits _ (length c.args.list.now) _ (omega (arith, high _ _ c.requires.fine _ c.requires.head))
    c.well_formed.0.1

pub bounds-list-head : goal.bounds-list-head
bounds-list-head c = omega (arith, high _ _ c.requires.fine _ c.requires.head)

pub known_count-requires : goal.known_count-requires
known_count-requires c =
    is-count _ _ (word-is c.before ∙ count-is _ _ c.requires.fine _ c.requires.head)

pub overflow_add-end-2 : goal.overflow_add-end-2
overflow_add-end-2 c = omega (arith, past c.before c.requires.head, c.well_formed.0.0)

pub offset_bounds-list-head-2 : goal.offset_bounds-list-head-2
offset_bounds-list-head-2 c =
    let s = c.before.before.before.before in
    scaled_Fits _ (length s.args.list.now) _ (omega (arith, high _ _ s.requires.fine _ s.requires.head))
    s.well_formed.0.1

pub scan-requires : goal.scan-requires
scan-requires c =
    let s = c.before.before.before.before.before in record {
      fine = rw (taken c.before.before s.requires.head) (part-fine _ _ s.requires.fine _ s.requires.head);
      values_len_bound = s.requires.values_len_bound;
    }

pub returns : goal.returns
returns c h =
    let s = c.before.before.before.before.before.before in
    c.scan.ensures
    ∙ ap (λ (ws : List ℤ). seen s.args.values.now (clauses_of ws)) (taken c.before.before.before h)
    ∙ ap (seen s.args.values.now) (part-is-one _ _ s.requires.fine _ h)

pub slice_bounds-scan-end : goal.slice_bounds-scan-end
slice_bounds-scan-end c = past c.before c.requires.head
