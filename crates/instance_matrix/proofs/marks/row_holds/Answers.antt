-- Mark by mark as the definition.
use Rattle.std.proofs.Common.{refl}
use Rattle.instance_matrix.proofs.marks.row_holds.Goals as goal

pub returns-in-0 : goal.returns-in-0
returns-in-0 c sheet instance = rw c.in-0.is refl

pub returns-in-1 : goal.returns-in-1
returns-in-1 c sheet instance = rw (c.in-1.is, ← c.count-n.ensures) refl
