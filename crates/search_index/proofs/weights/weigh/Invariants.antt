-- `search_index::weights::weigh` meets its contract. Assumes nothing.
use Prim.Native.Nat.{◌-◌}
use Rattle.clause_list.specs.ClauseList.{clauses_of}
use Rattle.search_index.specs.Index.{clause_at, IsHead}
use Rattle.search_index.proofs.WeighLoop.{Weighed}
use Rattle.search_index.proofs.weights.weigh.Given as goal

abbrev pub invariant-loop-i : goal.invariant-loop-i
invariant-loop-i l =
    (h : IsHead (clauses_of l.list) l.head) → Weighed l.values (clause_at (clauses_of l.list) h.c) l.head l.end l.w l.i

abbrev pub decreases-loop-i : goal.decreases-loop-i
decreases-loop-i l = l.end - l.i
