-- The clauses passed and the bytes of their lines were counted.
use Rattle.std.proofs.Common.{length}
use Rattle.dimacs.proofs.Walks.{Counted}
use Rattle.dimacs.proofs.measure.measure.Given as goal

abbrev pub invariant-loop-clause : goal.invariant-loop-clause
invariant-loop-clause l = Counted l.list l.left l.clauses l.lines

abbrev pub decreases-loop-clause : goal.decreases-loop-clause
decreases-loop-clause l = length l.left
