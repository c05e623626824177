-- The invariant: `Settling`.
use Rattle.clauses_emission.proofs.InPlace.{Settling}
use Rattle.clauses_emission.proofs.inputs.settle.Given as goal

abbrev pub invariant-loop-k : goal.invariant-loop-k
invariant-loop-k l = Settling l.initial.inputs l.inputs l.n l.k
