use Rattle.std.proofs.Common.{rules}
use Rattle.instance_matrix.proofs.Results.{identity-law}
use Rattle.instance_matrix.proofs.basic.identity.Goals as goal

pub returns : goal.returns
returns c n f e =
    let u = c.places_by.ensures in
    identity-law _ c.requires n f e _
    (record { long = u.long; each = λ i j li lj. (let h = u.each i j li lj in search rules); rest = u.rest })
