-- `search_index::weights::literal_weight` meets its contract. Assumes nothing.
use mathlib.Core.Path.{sym, ◌∙◌}
use native.Mathlib.Omega.{arith}
use mir.Facts.{to_z-of_z}
use Rattle.search_index.proofs.WeightCode.{weighs-above, weighs-below}
use Rattle.search_index.proofs.weights.literal_weight.Goals as goal

pub overflow_sub-result : goal.overflow_sub-result
overflow_sub-result c =
    let s = c.before.before.before in
    omega (
      arith,
      c.byte_weight-w.ensures,
      weighs-below s.args.x _ s.args.l (to_z-of_z s.ranges.l) s.requires
          (sym c.is_positive.ensures ∙ c.if-is_positive.false),
    )

pub returns-then-is_positive : goal.returns-then-is_positive
returns-then-is_positive c =
    let s = c.before.before.before in
    c.byte_weight-w.ensures ∙ sym
    (weighs-above s.args.x _ s.args.l (to_z-of_z s.ranges.l) s.requires
    (sym c.is_positive.ensures ∙ c.if-is_positive.true))

pub returns-else-is_positive : goal.returns-else-is_positive
returns-else-is_positive c =
    let s = c.before.before.before in
    omega (
      arith,
      c.byte_weight-w.ensures,
      weighs-below s.args.x _ s.args.l (to_z-of_z s.ranges.l) s.requires
          (sym c.is_positive.ensures ∙ c.if-is_positive.false),
    )
