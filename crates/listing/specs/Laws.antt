-- What the printed text of `every` has to do with the instances of demand 3.
use Rattle.std.specs.Prelude.{◌≡◌, List, ◌++◌, ℕ}
use Rattle.text.specs.Texts.{bytes_of, end_line}
use Rattle.sheet_rules.specs.Blocks.{sheet_of}
use Rattle.sheet_rules.specs.Reading.{reading}
use Rattle.search_rules.specs.declared.Steps.{Steps}
use Rattle.search_rules.specs.Run.{total}
use Rattle.search.specs.Answers.{found}
use Rattle.solve_rules.specs.Answers.{instance_after}
use Rattle.solve_rules.specs.Demand3.{FitsLimits, ReadsBack}
use Rattle.report.specs.Printed.{instance_lines, report, lines_of}

-- the lines printed of a case are those of the instance that read-back answers, which is the one that
-- `every_call` of demand 3 speaks of
abbrev pub ShowsRead : Type 0
ShowsRead = (s values lent instance : List ℕ) (steps : Steps) → FitsLimits s → ReadsBack s values lent instance
    → report (found steps) (lines_of (reading s) (sheet_of s) (instance_after s values lent))
    ≡ end_line (bytes_of "found ") (total steps) ++ instance_lines (sheet_of s) instance
