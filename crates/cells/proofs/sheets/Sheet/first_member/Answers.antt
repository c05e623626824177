use native.Mathlib.Omega.{arith}
use Rattle.cells.proofs.Layouts.{member-none, member-more}
use Rattle.cells.proofs.sheets.Sheet.first_member.Goals as goal

pub loop-k-init : goal.loop-k-init
loop-k-init c = (member-none _, omega arith)

pub loop-k-preserved : goal.loop-k-preserved
loop-k-preserved c =
    let l = c.loop-k in (
      member-more _ l.k l.invariant.0 c.members_of-count.ensures.0,
      omega (arith, l.invariant.1, c.members_of-count.ensures.1),
    )
