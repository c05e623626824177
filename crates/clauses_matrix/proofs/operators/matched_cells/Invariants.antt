-- The invariant: the cells passed are worked out.
use Rattle.std.proofs.Common.{map}
use Rattle.relational.specs.Matrices.{upto}
use Rattle.clauses_rules.specs.Builder.{each}
use Rattle.clauses_emission.specs.Emission.{pairing}
use Rattle.clauses_matrix.specs.Matrices.{EmitsCells}
use Rattle.clauses_matrix.proofs.Fills.{pair_at}
use Rattle.clauses_matrix.proofs.operators.matched_cells.Given as goal

abbrev pub invariant-loop-k : goal.invariant-loop-k
invariant-loop-k l =
    EmitsCells l.k (each (pairing l.kind) (map (pair_at l.p.cells l.q.cells (λ i. i) (λ i. i)) (upto l.k)) l.initial.tape.next)
    l.initial.list l.initial.tape l.cells l.list l.tape
