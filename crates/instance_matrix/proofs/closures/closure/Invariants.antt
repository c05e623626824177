-- The invariant: so many rounds are done.
use Rattle.relational.specs.Evaluation.{after_rounds}
use Rattle.instance_matrix.specs.Values.{matrix_of, Gives}
use Rattle.instance_matrix.proofs.closures.closure.Given as goal

abbrev pub invariant-loop : goal.invariant-loop
invariant-loop l = Gives l.closed (after_rounds l.counter (matrix_of l.initial.closed))
