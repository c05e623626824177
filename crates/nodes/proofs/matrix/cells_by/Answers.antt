use Rattle.std.proofs.Common.{refl, arith}
use Rattle.nodes.proofs.Placed.{default-at}
use Rattle.nodes.proofs.matrix.cells_by.Goals as goal

pub loop-k-init : goal.loop-k-init
loop-k-init g c = record { long = refl; each = λ j h. absurd (omega arith); rest = λ j h. default-at c.args.past 64 j }
