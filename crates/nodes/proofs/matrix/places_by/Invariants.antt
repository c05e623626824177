-- The invariants: the cells before row i and column j are made.
use Rattle.nodes.proofs.Placed.{Placed}
use Rattle.nodes.proofs.matrix.places_by.Given as goal

abbrev pub invariant-loop-i : goal.invariant-loop-i
invariant-loop-i g l = Placed (goal.F-post g l.cell) l.fn.past l.rows l.columns l.cells l.i 0

abbrev pub invariant-loop-j : goal.invariant-loop-j
invariant-loop-j g l = Placed (goal.F-post g l.cell) l.fn.past l.rows l.columns l.cells l.i l.j
