-- The loop puts the lines of the relations before r.
use Rattle.sheet_rules.specs.Blocks.{sheet_of}
use Rattle.report.specs.Printed.{relation_line}
use Rattle.report.proofs.Pieces.{Lines}
use Rattle.report.proofs.lines.put_relations.Given as goal

abbrev pub invariant-loop-r : goal.invariant-loop-r
invariant-loop-r l =
    Lines (relation_line (sheet_of l.sheet.bytes.now) l.instance) l.initial.text l.at l.text l.end l.r
