-- `search_index::chains::enter` meets its contract. Assumes nothing.
use Prim.Native.Nat.{◌-◌}
use Rattle.clause_list.specs.ClauseList.{clauses_of}
use Rattle.search_index.proofs.Entering.{Entered}
use Rattle.search_index.proofs.chains.enter.Given as goal

abbrev pub invariant-loop-i : goal.invariant-loop-i
invariant-loop-i l = Entered (clauses_of l.list) l.initial.chains l.chains l.c l.i l.apart

abbrev pub decreases-loop-i : goal.decreases-loop-i
decreases-loop-i l = l.end - l.i
