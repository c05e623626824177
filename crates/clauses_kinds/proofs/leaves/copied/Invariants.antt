use Rattle.clauses_kinds.specs.Leaves.{Filled, cell_from}
use Rattle.clauses_kinds.proofs.leaves.copied.Given as goal

abbrev pub invariant-loop-k : goal.invariant-loop-k
invariant-loop-k l = Filled (cell_from l.given l.first) l.k l.cells
