-- What is still to be put are the lines of the clauses that are left.
use Rattle.std.proofs.Common.{length}
use Rattle.text.proofs.Puts.{Left}
use Rattle.clause_list.specs.ClauseList.{clauses_of}
use Rattle.dimacs.specs.Text.{clause_lines}
use Rattle.dimacs.specs.Private.{Cut}
use Rattle.dimacs.proofs.put_clauses.Given as goal

abbrev pub invariant-loop-clause : goal.invariant-loop-clause
invariant-loop-clause l =
    Cut l.left
    × Left l.initial.text l.at (clause_lines (clauses_of l.list)) l.text l.end (clause_lines (clauses_of l.left))

abbrev pub decreases-loop-clause : goal.decreases-loop-clause
decreases-loop-clause l = length l.left
