-- What the boolean evaluation answers is what the definition asks.
use mathlib.Core.Path.{◌≡◌, refl, sym, ap, subst, ◌∙◌}
use mathlib.Core.Logic.{◌↔◌}
use mathlib.Core.Bool.{Bool, true, false, cond, true≢false}
use mathlib.Core.List.{List}
use Prim.Native.Nat.{ℕ}
use native.Mathlib.Omega.{arith}
use lib.Dec.{leb}
use lib.ListN.{length}
use borrow.Author.Tests.{eq-eqb, ne_eqb}
use Rattle.prelude.specs.Tests.{all}
use Rattle.sheet_rules.specs.declared.Layout.{Layout}
use Rattle.sheet_rules.specs.Blocks.{sheet_of}
use Rattle.sheet_rules.specs.Reading as sheets
use Rattle.sheet_rules.specs.Reading.{reading}
use Rattle.relational.specs.Cells.{cell_count, has_cells}
use Rattle.relational.specs.Meaning.{WithinScopes, Satisfies}
use Rattle.relational.specs.Evaluation.{holds}
use Rattle.relational.proofs.Accepted.{accepted-holds}
use Rattle.instance.specs.Answers.{Answer, yes, no, refused, Answers, CheckAnswers}
use Rattle.instance.specs.Held.{held_answer, check_after, check_answer}

by-truth : (layout : Layout) (within truth : Bool) (statement : Type 0) → (within ≡ true → (truth ≡ true) ↔ statement)
    → Answers (sheets.accepted layout) within statement (cond within (cond truth yes no) (refused 11))
by-truth layout false truth statement h = refl
by-truth layout true true statement h = (
  ((λ e. (h refl).0 refl), λ s. refl),
  ((λ e. absurd (let z : ◌≡◌ {A = ℕ} 0 1 = cc in omega arith)), λ f. absurd (f ((h refl).0 refl))),
)
by-truth layout true false statement h = (
  ((λ e. absurd (let z : ◌≡◌ {A = ℕ} 0 1 = cc in omega arith)), λ s. absurd (true≢false (sym ((h refl).1 s)))),
  ((λ e s. true≢false (sym ((h refl).1 s))), λ f. refl),
)

-- an instance of the right bytes is within the scopes when its cells are of members
evaluated-within : (sheet instance : List ℕ) (layout : Layout) → reading sheet ≡ sheets.accepted layout
    → has_cells (sheet_of sheet) instance ≡ true
    → (holds (sheet_of sheet) instance ≡ true) ↔ (WithinScopes (sheet_of sheet) instance × Satisfies
    (sheet_of sheet) instance)
evaluated-within sheet instance layout e fine =
    let h = accepted-holds sheet layout e instance in (
      (λ t. let x = h.0 t in (record { bytes = fine; of_atoms = x.0 }, x.1)),
      λ x. h.1 (x.0.of_atoms, x.1),
    )

by-reading : (sheet instance : List ℕ) (judged : sheets.Answer) → reading sheet ≡ judged
    → Answers judged (has_cells (sheet_of sheet) instance)
    (WithinScopes (sheet_of sheet) instance × Satisfies (sheet_of sheet) instance)
    (check_after judged (sheet_of sheet) instance)
unfolding held_answer
by-reading sheet instance (sheets.refused n) e = refl
by-reading sheet instance (sheets.accepted layout) e =
    by-truth layout (has_cells (sheet_of sheet) instance) (holds (sheet_of sheet) instance)
    (WithinScopes (sheet_of sheet) instance × Satisfies (sheet_of sheet) instance)
    (evaluated-within sheet instance layout e)

-- the value is the answer that is meant, for every sheet and instance
pub answers : (sheet instance : List ℕ) → CheckAnswers sheet instance (check_answer sheet instance)
unfolding CheckAnswers check_answer
answers sheet instance = by-reading sheet instance (reading sheet) refl

-- what `check` ensures, from the value
pub ensured : (sheet instance : List ℕ) {answer : Answer} → answer ≡ check_answer sheet instance
    → CheckAnswers sheet instance answer × (answer ≡ check_answer sheet instance)
ensured sheet instance e = (subst (CheckAnswers sheet instance) (sym e) (answers sheet instance), e)

-- ---- of an accepted sheet: the two tests of 11, and then the evaluation
module _ (sheet instance : List ℕ) {layout : Layout} (taken : reading sheet ≡ sheets.accepted layout) where
  held : held_answer (sheet_of sheet) instance ≡ check_answer sheet instance
  unfolding check_answer
  held = ap (λ a. check_after a (sheet_of sheet) instance) (sym taken)

  module _ {count : ℕ} (e : count ≡ cell_count (sheet_of sheet)) where
    pub other_length : (length instance ≡ count → ⊥) → refused 11 ≡ check_answer sheet instance
    unfolding held_answer has_cells
    other_length h = rw (ne_eqb (length instance) (cell_count (sheet_of sheet)) (λ q. h (q ∙ sym e))) at held

    module _ {fine : Bool} (l : length instance ≡ count) (bits : fine ≡ all (λ (b : ℕ). leb b 1) instance) where
      pub other-cells : fine ≡ false → refused 11 ≡ check_answer sheet instance
      unfolding held_answer has_cells
      other-cells f = rw (eq-eqb (length instance) (cell_count (sheet_of sheet)) (l ∙ e), ← bits, f) at held

      pub evaluated : fine ≡ true → {truth : Bool} → truth ≡ holds (sheet_of sheet) instance → cond truth yes no ≡ check_answer sheet instance
      unfolding held_answer has_cells
      evaluated f t = rw (eq-eqb (length instance) (cell_count (sheet_of sheet)) (l ∙ e), ← bits, f, ← t) at held
