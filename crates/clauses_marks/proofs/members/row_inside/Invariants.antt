-- The clauses of the cells passed are written.
use Prim.Native.Nat.{◌*◌}
use Rattle.sheet_rules.specs.Blocks.{sheet_of}
use Rattle.clauses_rules.specs.Whole.{series, cell_clauses}
use Rattle.clauses_emission.specs.Emission.{literals_of}
use Rattle.clauses_marks.specs.Marking.{Adds}
use Rattle.clauses_marks.proofs.members.row_inside.Given as goal

abbrev pub invariant-loop-j : goal.invariant-loop-j
invariant-loop-j l =
    Adds (6 * l.j) (series l.j (cell_clauses (sheet_of l.source.sheet.bytes.now) (literals_of l.source.given.now) l.r l.i))
    l.initial.list l.initial.tape l.list l.tape
