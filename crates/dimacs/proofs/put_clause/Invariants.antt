-- What is still to be put is the line from the next literal on.
use Rattle.std.proofs.Common.{drop}
use Rattle.text.proofs.Puts.{Left}
use Rattle.dimacs.specs.Text.{clause_line}
use Rattle.dimacs.proofs.put_clause.Given as goal

abbrev pub invariant-loop-l : goal.invariant-loop-l
invariant-loop-l l = Left l.initial.text l.at (clause_line l.clause) l.text l.end (clause_line (drop l.l-index l.clause))
