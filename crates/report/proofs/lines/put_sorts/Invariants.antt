-- The loop puts the lines of the sorts before k.
use Rattle.sheet_rules.specs.Blocks.{sheet_of}
use Rattle.report.specs.Printed.{member_line}
use Rattle.report.proofs.Pieces.{Lines}
use Rattle.report.proofs.lines.put_sorts.Given as goal

abbrev pub invariant-loop-k : goal.invariant-loop-k
invariant-loop-k l =
    Lines (member_line (sheet_of l.sheet.bytes.now) l.instance) l.initial.text l.at l.text l.end l.k
