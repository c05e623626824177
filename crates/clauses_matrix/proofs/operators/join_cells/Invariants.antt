-- The invariants: the cells passed are worked out.
use Rattle.std.proofs.Common.{◌+◌, ◌*◌, map}
use Rattle.relational.specs.Matrices.{upto}
use Rattle.clauses_rules.specs.Builder.{each}
use Rattle.clauses_matrix.specs.Matrices.{EmitsCells, join_cell}
use Rattle.clauses_matrix.proofs.Rows.{middles_at}
use Rattle.clauses_matrix.proofs.operators.join_cells.Given as goal

abbrev pub invariant-loop-i : goal.invariant-loop-i
invariant-loop-i l =
    EmitsCells (l.i * l.columns)
    (each join_cell (map (middles_at l.left l.right l.n l.columns) (upto (l.i * l.columns))) l.fn.tape.next)
    l.fn.list l.fn.tape l.cells l.list l.tape

abbrev pub invariant-loop-j : goal.invariant-loop-j
invariant-loop-j l =
    EmitsCells (l.i * l.columns + l.j)
    (each join_cell (map (middles_at l.left l.right l.n l.columns) (upto (l.i * l.columns + l.j))) l.fn.tape.next)
    l.fn.list l.fn.tape l.cells l.list l.tape
