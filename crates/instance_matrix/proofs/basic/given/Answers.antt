use Rattle.std.proofs.Common.{rules}
use Rattle.instance_matrix.proofs.Results.{given-law}
use Rattle.instance_matrix.proofs.basic.given.Goals as goal

pub returns : goal.returns
returns c =
    let u = rw c.size.ensures.0 at c.cells_by.ensures in
    given-law _ _ _ _ _ _ c.requires.first_le_most_cells.1.0 c.requires.first_le_most_cells.1.1 c.requires.set_or_relation
    (record { long = u.long; done = λ k l. (let h = u.each k l in search rules); rest = u.rest })
