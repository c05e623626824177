-- The translation of a whole sheet, step by step.
-- No public contract reaches this file: nothing here needs belief.
use Rattle.std.specs.Prelude.{◌≡◌, cond, List, map, ℕ, pred, ◌+◌, ◌≤◌, ◌<◌, leb, ℤ, length, take}
use Rattle.prelude.specs.Stores.{put_all}
use Rattle.literal.specs.Literals.{positive}
use Rattle.sheet_rules.specs.Blocks.{Sheet}
use Rattle.relational.specs.Cells.{most_cells}
use Rattle.relational.specs.Matrices.{upto}
use Rattle.clauses_rules.specs.Whole.{words, variable_total, clause_total, word_total}
use Rattle.clauses_emission.specs.declared.Tape.{Tape}
use Rattle.clauses_emission.specs.Emission.{literals_of, Within, Over}
use Rattle.clauses.specs.Answers.{Answer, fits, refused}

-- the first n words are the literals of n cells
pub record CellWords (n : ℕ) (ws : List ℤ) : Type 0 where
  pub room : length ws ≡ most_cells
  pub cells : literals_of (take n ws) ≡ map (λ (i : ℕ). positive (2 + i)) (upto n)

-- within the limit of variables, all is as defined; past it, the definition is past it too
pub record Translates (sheet : Sheet) (old new : List ℤ) (after : Tape) : Type 0 where
  pub kept : length new ≡ length old
  pub some : 1 ≤ after.next
  pub variable_count_ok : Within after.next → pred after.next ≡ variable_total sheet
  pub clause_count : Within after.next → after.clauses ≡ clause_total sheet
  pub word_count : Within after.next → after.words ≡ word_total sheet
  pub list : Within after.next → new ≡ put_all old 0 (words sheet)
  pub over : Over after.next → 16000 < variable_total sheet

-- the answer by the numbers of a whole translation
pub record Numbered (tape : Tape) : Type 0 where
  pub some : 1 ≤ tape.next

abbrev pub size_answer : Tape → Answer
size_answer tape = cond (leb tape.next 16001) (fits (pred tape.next) tape.clauses tape.words) (refused 10)
