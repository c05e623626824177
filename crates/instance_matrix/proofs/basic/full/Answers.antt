use Rattle.std.proofs.Common.{refl, rules}
use Rattle.instance_matrix.proofs.Results.{upto-law}
use Rattle.instance_matrix.proofs.basic.full.Goals as goal

pub returns : goal.returns
returns c =
    let u = c.cells_by.ensures in
    upto-law c.args.n _ _ _ refl c.requires
    (record { long = u.long; done = λ k l. (let h = u.each k l in search rules); rest = u.rest })
