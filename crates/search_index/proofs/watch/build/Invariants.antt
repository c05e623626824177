-- `search_index::watch::build` meets its contract. Assumes nothing.
use Prim.Native.Nat.{◌-◌}
use lib.ListN.{length}
use Rattle.clause_list.specs.ClauseList.{clauses_of}
use Rattle.search_index.proofs.Building.{Built}
use Rattle.search_index.proofs.watch.build.Given as goal

abbrev pub invariant-loop-at : goal.invariant-loop-at
invariant-loop-at l = Built (clauses_of l.list) l.values l.chains l.weights l.c l.at

abbrev pub decreases-loop-at : goal.decreases-loop-at
decreases-loop-at l = length l.list - l.at
