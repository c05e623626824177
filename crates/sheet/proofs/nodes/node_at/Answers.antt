use Rattle.std.proofs.Common.{add-zero}
use Rattle.sheet.proofs.nodes.node_at.Goals as goal

pub returns-clause-reads : goal.returns-clause-reads
returns-clause-reads c sheet n =
    let kind = rw add-zero at c.field.ensures.0 in
    rw (n, ← kind, ← c.row_of.ensures, ← c.field-2.ensures.0, ← c.field-3.ensures.0)
