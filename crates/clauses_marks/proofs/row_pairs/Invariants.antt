-- The pairs whose first member was passed are written.
use Rattle.clauses_emission.specs.Emission.{literals_of}
use Rattle.clauses_marks.proofs.Rows.{Paired}
use Rattle.clauses_marks.proofs.row_pairs.Given as goal

abbrev pub invariant-loop-k : goal.invariant-loop-k
invariant-loop-k l = Paired (literals_of l.row) l.k l.initial.list l.initial.tape l.list l.tape
