use Rattle.sheet_rules.specs.Tables.{visits_step}
use Rattle.sheet.proofs.tables.node_visits.Goals as goal

pub returns : goal.returns
unfolding visits_step
returns c sheet s x n =
    rw (
      c.entry_at-p.ensures,
      c.entry_at-q.ensures,
      c.scope_at-atoms.ensures.0,
      c.byte.ensures.0,
      ← s,
      ← x,
      c.node_at-node.ensures.reads sheet n,
    ) at c.visits_by.ensures
