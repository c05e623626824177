use Rattle.sheet_rules.specs.Tables.{shape_step}
use Rattle.sheet.proofs.tables.node_shape.Goals as goal

pub returns : goal.returns
unfolding shape_step
returns c sheet x s n =
    rw (
      c.declared_shape.ensures sheet s,
      c.byte.ensures.0,
      c.entry_at.ensures,
      c.entry_at-2.ensures,
      ← x,
      c.node_at-node.ensures.reads sheet n,
    ) at c.shape_by.ensures
