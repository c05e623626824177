-- The table marks the variables of the literals so far, which have no fault.
use Rattle.std.proofs.Common.{take}
use Rattle.search_state.specs.Inner.{Marked}
use Rattle.search_state.proofs.mark.Given as goal

abbrev pub invariant-loop-l : goal.invariant-loop-l
invariant-loop-l l = Marked l.values (take l.l-index l.literals) l.seen
