use Rattle.std.proofs.Common.{rules}
use Rattle.instance_matrix.proofs.Results.{matched-law}
use Rattle.instance_matrix.proofs.basic.matched.Goals as goal

pub returns : goal.returns
returns g c paired h =
    let u = rw c.size.ensures.0 at c.cells_by.ensures in
    matched-law _ _ c.requires.fine c.requires.fine_2 paired _
    (record { long = u.long; done = λ k l. (let e = u.each k l in h _ _ _ (search rules)); rest = u.rest })
