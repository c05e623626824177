-- `search_index::watch::touch` meets its contract. Assumes nothing.
use Rattle.clause_list.specs.ClauseList.{clauses_of}
use Rattle.search_index.proofs.Touching.{Walk}
use Rattle.search_index.proofs.watch.touch.Given as goal

abbrev pub invariant-loop-i : goal.invariant-loop-i
invariant-loop-i l = Walk (clauses_of l.list) l.values l.p l.was l.weights l.i

abbrev pub decreases-loop-i : goal.decreases-loop-i
decreases-loop-i l = l.i
