-- The rows passed are written.
use Prim.Native.Nat.{◌*◌}
use Rattle.sheet_rules.specs.Blocks.{sheet_of}
use Rattle.clauses_rules.specs.Whole.{series}
use Rattle.clauses_emission.specs.Emission.{literals_of}
use Rattle.clauses_marks.specs.Marking.{Adds, row_marks}
use Rattle.clauses_marks.proofs.relation_marks.Given as goal

abbrev pub invariant-loop-i : goal.invariant-loop-i
invariant-loop-i l =
    Adds (178 * l.i) (series l.i (row_marks (sheet_of l.source.sheet.bytes.now) (literals_of l.source.given.now) l.r))
    l.initial.list l.initial.tape l.list l.tape
