use Rattle.sheet_rules.specs.Tables.{free_step}
use Rattle.sheet.proofs.tables.node_free.Goals as goal

pub returns : goal.returns
unfolding free_step
returns c sheet n = rw (c.entry_at-p.ensures, c.entry_at-q.ensures, c.node_at-node.ensures.reads sheet n) at c.free_by.ensures
