use Rattle.std.proofs.Common.{arith}
use Rattle.nodes.proofs.Placed.{placed_none, placed_row}
use Rattle.nodes.proofs.matrix.places_by.Goals as goal

pub loop-i-init : goal.loop-i-init
loop-i-init g c = placed_none _ _ _ _

pub loop-i-preserved : goal.loop-i-preserved
loop-i-preserved g c = placed_row _ _ _ _ _ _ _ c.loop-j.invariant (omega arith)
