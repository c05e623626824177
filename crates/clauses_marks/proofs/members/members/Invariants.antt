-- The relations passed are written.
use Prim.Native.Nat.{◌*◌}
use Rattle.sheet_rules.specs.Blocks.{sheet_of}
use Rattle.clauses_rules.specs.Whole.{series}
use Rattle.clauses_emission.specs.Emission.{literals_of}
use Rattle.clauses_marks.specs.Marking.{Adds, relation_inside}
use Rattle.clauses_marks.proofs.members.members.Given as goal

abbrev pub invariant-loop-r : goal.invariant-loop-r
invariant-loop-r l =
    Adds (384 * l.r) (series l.r (relation_inside (sheet_of l.source.sheet.bytes.now) (literals_of l.source.given.now)))
    l.initial.list l.initial.tape l.list l.tape
