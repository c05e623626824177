-- The invariant: the rounds passed are worked out. Where a round changed nothing, all are.
use Rattle.clauses_rules.specs.Translation.{after_rounds}
use Rattle.clauses_matrix.specs.Matrices.{matrix_of, EmitsMatrix}
use Rattle.clauses_matrix.proofs.operators.closure.Given as goal

abbrev pub invariant-loop : goal.invariant-loop
invariant-loop l =
    EmitsMatrix (after_rounds l.counter (matrix_of l.initial.matrix) l.initial.tape.next) l.initial.list l.initial.tape l.matrix
    l.list l.tape
