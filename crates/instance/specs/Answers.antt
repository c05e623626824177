-- What `check` answers (document 01, "Answers that decline" and "The words of demand 3").
use Rattle.std.specs.Prelude.{◌≡◌, ◌↔◌, Bool, true, false, cond, List, ℕ, Result, Ok, Err}
use Rattle.refusal.specs.declared.Refusal.{Refusal}
use Rattle.refusal.specs.Refusals.{number_of}
use Rattle.sheet_rules.specs.Blocks.{sheet_of}
use Rattle.sheet_rules.specs.Reading as sheets
use Rattle.sheet_rules.specs.Reading.{reading}
use Rattle.relational.specs.Cells.{has_cells}
use Rattle.relational.specs.Meaning.{WithinScopes, Satisfies}

-- an answer in the paper's terms: yes, no, or the number of a refusal
pub data Answer : Type 0 where
  yes no : Answer
  refused : ℕ → Answer

abbrev pub answer_of : Result Bool Refusal → Answer
answer_of (Ok satisfies) = cond satisfies yes no
answer_of (Err refusal) = refused (number_of refusal)

-- "The check takes 1 to 9 and 11": those of reading, then 11 CELLS, here "an instance .. of the wrong length, or a cell
-- not 0 or 1"; else yes exactly when the statement holds, and no exactly when it does not
abbrev pub Answers : sheets.Answer → Bool → Type 0 → Answer → Type 0
Answers (sheets.refused n) fine statement answer = answer ≡ refused n
Answers (sheets.accepted layout) false statement answer = answer ≡ refused 11
Answers (sheets.accepted layout) true statement answer = ((answer ≡ yes) ↔ statement) × ((answer ≡ no) ↔ (statement → ⊥))

-- is the instance within the scopes ("The check says no where a cell of a non-member is 1"), and does it satisfy?
unfoldable pub CheckAnswers : List ℕ → List ℕ → Answer → Type 0
CheckAnswers sheet instance answer =
    Answers (reading sheet) (has_cells (sheet_of sheet) instance)
    (WithinScopes (sheet_of sheet) instance × Satisfies (sheet_of sheet) instance) answer
