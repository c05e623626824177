-- `search_index::blocks::walk_blocks` meets its contract. Assumes nothing.
use Prim.Native.Nat.{◌-◌}
use Rattle.search_index.proofs.Flags.{Searched}
use Rattle.search_index.proofs.blocks.walk_blocks.Given as goal

abbrev pub invariant-loop-at : goal.invariant-loop-at
invariant-loop-at l = Searched l.initial.weights l.m l.weights l.b l.at

abbrev pub decreases-loop-at : goal.decreases-loop-at
decreases-loop-at l = l.m - l.at
