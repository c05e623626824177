-- The bytes counted and those of the line from the next literal on are all, and the last two.
use Rattle.std.proofs.Common.{◌≡◌, ◌+◌, length, drop}
use Rattle.dimacs.specs.Text.{clause_line}
use Rattle.dimacs.proofs.measure.line_length.Given as goal

abbrev pub invariant-loop-l : goal.invariant-loop-l
invariant-loop-l l = l.bytes + length (clause_line (drop l.l-index l.clause)) ≡ length (clause_line l.clause) + 2
