-- The loop adds up the cells of the relations before, and stores where each starts.
use Rattle.sheet_rules.specs.Blocks.{sheet_of}
use Rattle.cells.proofs.Layouts.{Stored}
use Rattle.cells.proofs.sheets.Sheet.cells.Given as goal

abbrev pub invariant-loop-r : goal.invariant-loop-r
invariant-loop-r l = Stored (sheet_of l.self.bytes.now) l.count l.starts l.r
