-- What `read_back` answers, and what it leaves in the lent slice (document 01, "Answers that decline"; document 02,
-- Change 6).
use Rattle.std.specs.Prelude.{Bool, ◌&&◌, cond, List, ◌++◌, map, ℕ, eqb, leb, length, drop}
use Rattle.prelude.specs.Tests.{all}
use Rattle.sheet_rules.specs.Blocks.{Sheet, sheet_of}
use Rattle.relational.specs.Cells.{cell_count}
use Rattle.clauses_rules.specs.Whole.{read_back}
use Rattle.search_rules.specs.Rules.{settle}
use Rattle.clauses.specs.Answers as count
use Rattle.clauses.specs.Answers.{count_answer}

-- an answer in the paper's terms: the number of cells copied, or the number of a refusal
pub data Answer : Type 0 where
  copied refused : ℕ → Answer

-- the cells' values, where "read-back takes 3 as 0"
abbrev pub read_bits : Sheet → List ℕ → List ℕ
read_bits sheet values = read_back sheet (map settle values)

-- 11 CELLS, unless: "values of the wrong length, or a cell not 0 or 1"; "one value for each variable, only the cells'
-- values tested"; "11 no longer covers" a 3
abbrev pub has_values : Sheet → ℕ → List ℕ → Bool
has_values sheet v values = eqb (length values) v && all (λ (b : ℕ). leb b 1) (read_bits sheet values)

-- "read-back 1 to 11 .. and 13": those of counting, then 11, then 13 SHORT, "a lent slice is too short"
abbrev pub read_back_after : count.Answer → Sheet → List ℕ → ℕ → Answer
read_back_after (count.refused n) sheet values room = refused n
read_back_after (count.fits v c w) sheet values room =
    cond (has_values sheet v values) (cond (leb (cell_count sheet) room) (copied (cell_count sheet)) (refused 13))
    (refused 11)

unfoldable pub read_back_answer : List ℕ → List ℕ → List ℕ → Answer
read_back_answer sheet values instance = read_back_after (count_answer sheet) (sheet_of sheet) values (length instance)

-- the lent slice afterwards: "read-back copies the cells' values there. Bytes after an instance .. are unchanged."; a
-- refusal changes nothing
abbrev pub instance_by : Answer → List ℕ → List ℕ → List ℕ
instance_by (copied cells) read instance = read ++ drop cells instance
instance_by (refused n) read instance = instance

unfoldable pub instance_after : List ℕ → List ℕ → List ℕ → List ℕ
instance_after sheet values instance =
    instance_by (read_back_answer sheet values instance) (read_bits (sheet_of sheet) values) instance
