use Rattle.std.proofs.Common.{rules}
use Rattle.instance_matrix.proofs.Results.{inverse-law}
use Rattle.instance_matrix.proofs.inverses.inverse.Goals as goal

pub returns : goal.returns
returns c =
    let u = c.places_by.ensures in
    inverse-law _ c.requires _ (record { long = u.long; each = λ i j li lj. (let h = u.each i j li lj in search rules); rest = u.rest })
