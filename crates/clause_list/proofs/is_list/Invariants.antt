-- The loop's invariant: the list is well cut exactly when what is not yet passed is.
use Rattle.std.proofs.Common.{◌≡◌, length}
use Rattle.clause_list.proofs.Laws.{well_cut_words}
use Rattle.clause_list.proofs.is_list.Given as goal

abbrev pub invariant-loop-head : goal.invariant-loop-head
invariant-loop-head l = well_cut_words l.v l.list ≡ well_cut_words l.v l.rest

abbrev pub decreases-loop-head : goal.decreases-loop-head
decreases-loop-head l = length l.rest
