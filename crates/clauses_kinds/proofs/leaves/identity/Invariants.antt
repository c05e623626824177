-- The cells passed are those of the diagonal.
use Rattle.clauses_kinds.specs.Leaves.{Filled}
use Rattle.clauses_kinds.proofs.LeafMatrices.{diagonal}
use Rattle.clauses_kinds.proofs.leaves.identity.Given as goal

abbrev pub invariant-loop-k : goal.invariant-loop-k
invariant-loop-k l = Filled (diagonal l.p) l.k l.cells
