-- The membership cells of a bounded sort.
use native.Mathlib.Omega.{arith}
use Rattle.cells.proofs.Layouts.{sort-low}
use Rattle.instance_evaluation.proofs.Instance.is_member.Goals as goal

pub first_member-requires : goal.first_member-requires
first_member-requires c =
    omega (arith, sort-low _ c.args.self.now.sheet.taken c.args.sort c.is_bounded.ensures c.if-is_bounded.true)

pub overflow_add-first_member : goal.overflow_add-first_member
overflow_add-first_member c =
    omega (
      arith,
      sort-low _ c.args.self.now.sheet.taken c.args.sort c.is_bounded.ensures c.if-is_bounded.true,
      c.first_member.ensures.1,
      c.requires,
    )
