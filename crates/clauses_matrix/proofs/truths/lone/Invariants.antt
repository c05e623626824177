-- The invariants: the pairs passed are worked out.
use Rattle.std.proofs.Common.{◌+◌}
use Rattle.clauses_matrix.specs.Matrices.{cells_of}
use Rattle.clauses_matrix.proofs.Pairs.{Passed}
use Rattle.clauses_matrix.proofs.truths.lone.Given as goal

abbrev pub invariant-loop-i : goal.invariant-loop-i
invariant-loop-i l = Passed (cells_of l.n l.p.cells) l.t l.i (l.i + 1) l.fn.list l.fn.tape l.pairs l.list l.tape

abbrev pub invariant-loop-j : goal.invariant-loop-j
invariant-loop-j l = Passed (cells_of l.n l.p.cells) l.t l.i l.j l.fn.list l.fn.tape l.pairs l.list l.tape
