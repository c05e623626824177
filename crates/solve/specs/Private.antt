-- Read-back and the whole run, step by step.
-- No public contract reaches this file: nothing here needs belief.
use Rattle.std.specs.Prelude.{◌≡◌, ◌&&◌, cond, List, map, ℕ, eqb, leb, length, take, drop}
use Rattle.prelude.specs.Tests.{all}
use Rattle.sheet_rules.specs.Blocks.{sheet_of}
use Rattle.relational.specs.Cells.{cell_count}
use Rattle.clauses.specs.declared.answer.Size.{Size}
use Rattle.clauses_rules.specs.Whole.{variable_total, word_total}
use Rattle.search_rules.specs.Rules.{settle}
use Rattle.search.specs.Answers as searched
use Rattle.solve_rules.specs.Answers.{Answer, copied, refused, instance_by}
use Rattle.solve_rules.specs.Finding.{Slices, finding}
use Rattle.solve_rules.specs.Demand3.{FitsLimits, FitSlices}

-- read-back over values of v variables, and so many cells
abbrev pub cells_answer : ℕ → ℕ → List ℕ → ℕ → Answer
cells_answer v cells values room =
    cond (eqb (length values) v && all (λ (b : ℕ). leb b 1) (take cells (drop 1 (map settle values))))
    (cond (leb cells room) (copied cells) (refused 13))
    (refused 11)

abbrev pub cells_left : ℕ → ℕ → List ℕ → List ℕ → List ℕ
cells_left v cells values instance = instance_by (cells_answer v cells values (length instance)) (take cells (drop 1 (map settle values))) instance

-- the sheet fits the limits, the slices fit, and these are its numbers
pub record Fitting (s : List ℕ) (size : Size) (cells : ℕ) (lent : Slices) : Type 0 where
  pub limits : FitsLimits s
  pub room : FitSlices s lent
  pub variables : size.variables ≡ variable_total (sheet_of s)
  pub words : size.words ≡ word_total (sheet_of s)
  pub cells_are : cells ≡ cell_count (sheet_of s)

-- the answer and what is left are the definition's
pub record Left (s : List ℕ) (lent : Slices) (budget : ℕ) (answer : searched.Answer) (left : Slices) : Type 0 where
  pub answer_is : answer ≡ (finding s lent budget).answer
  pub left_is : left ≡ (finding s lent budget).left
