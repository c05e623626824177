-- The answer of `check` as a value: by the boolean evaluation (relational, specs/Evaluation). What it means is said by `CheckAnswers`.
use Rattle.std.specs.Prelude.{cond, List, ℕ}
use Rattle.sheet_rules.specs.Blocks.{Sheet, sheet_of}
use Rattle.sheet_rules.specs.Reading as sheets
use Rattle.sheet_rules.specs.Reading.{reading}
use Rattle.relational.specs.Cells.{has_cells}
use Rattle.relational.specs.Evaluation.{holds}
use Rattle.instance.specs.Answers.{Answer, yes, no, refused}

-- of an accepted sheet
unfoldable pub held_answer : Sheet → List ℕ → Answer
held_answer sheet instance = cond (has_cells sheet instance) (cond (holds sheet instance) yes no) (refused 11)

abbrev pub check_after : sheets.Answer → Sheet → List ℕ → Answer
check_after (sheets.refused n) sheet instance = refused n
check_after (sheets.accepted layout) sheet instance = held_answer sheet instance

unfoldable pub check_answer : List ℕ → List ℕ → Answer
check_answer sheet instance = check_after (reading sheet) (sheet_of sheet) instance
