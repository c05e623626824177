-- The invariant: the middle atoms passed are worked out.
use Rattle.clauses_matrix.proofs.Middles.{Met}
use Rattle.clauses_matrix.proofs.operators.join_cell.Given as goal

abbrev pub invariant-loop-k : goal.invariant-loop-k
invariant-loop-k l = Met l.left l.right l.columns l.j l.k l.initial.list l.initial.tape l.middles l.list l.tape
