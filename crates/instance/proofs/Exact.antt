-- The answer is exact: a call has one answer, and a refusal, yes and no come just where the definition says.
use mathlib.Core.Path.{◌≡◌, refl, sym, ◌∙◌}
use mathlib.Core.Bool.{Bool, true, false}
use mathlib.Core.List.{List}
use Prim.Native.Nat.{ℕ}
use native.Mathlib.Omega.{arith}
use Rattle.sheet_rules.specs.Blocks.{sheet_of}
use Rattle.sheet_rules.specs.Reading as sheets
use Rattle.sheet_rules.specs.Reading.{reading}
use Rattle.relational.specs.Cells.{has_cells}
use Rattle.relational.specs.Meaning.{WithinScopes, Satisfies}
use Rattle.instance.specs.Answers.{Answer, yes, no, refused, Answers, CheckAnswers}

one_answer : (judged : sheets.Answer) (within : Bool) (statement : Type 0) (a b : Answer) → Answers judged within statement a
    → Answers judged within statement b → a ≡ b
one_answer (sheets.refused m) within statement a b p q = p ∙ sym q
one_answer (sheets.accepted layout) false statement a b p q = p ∙ sym q
one_answer (sheets.accepted layout) true statement yes b p q = sym (q.0.1 (p.0.0 refl))
one_answer (sheets.accepted layout) true statement no b p q = sym (q.1.1 (p.1.0 refl))
one_answer (sheets.accepted layout) true statement (refused n) b p q =
    let apart-yes : refused n ≡ yes → ⊥ = λ e. let z : ◌≡◌ {A = ℕ} 0 1 = cc in omega arith in
    let apart-no : refused n ≡ no → ⊥ = λ e. let z : ◌≡◌ {A = ℕ} 0 1 = cc in omega arith in
    absurd (apart-no (p.1.1 (λ s. apart-yes (p.0.1 s))))

-- for every sheet and instance
pub unique : (sheet instance : List ℕ) (a b : Answer) → CheckAnswers sheet instance a → CheckAnswers sheet instance b → a ≡ b
unfolding CheckAnswers
unique sheet instance a b p q =
    one_answer (reading sheet) (has_cells (sheet_of sheet) instance)
    (WithinScopes (sheet_of sheet) instance × Satisfies (sheet_of sheet) instance) a b p q
