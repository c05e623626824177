-- The clauses of the others passed are written.
use mathlib.Core.List.{map}
use Prim.Native.Nat.{◌*◌}
use lib.ListN.{take}
use Rattle.literal.specs.Words.{literal_of}
use Rattle.clauses_rules.specs.Whole.{pair_clause}
use Rattle.clauses_emission.specs.Emission.{literals_of}
use Rattle.clauses_marks.specs.Marking.{Adds, pairs_with}
use Rattle.clauses_marks.proofs.pairs_with.Given as goal

abbrev pub invariant-loop-q : goal.invariant-loop-q
invariant-loop-q l =
    Adds (3 * l.q-index) (map pair_clause (pairs_with (literal_of l.p) (literals_of (take l.q-index l.others)))) l.initial.list
    l.initial.tape l.list l.tape
