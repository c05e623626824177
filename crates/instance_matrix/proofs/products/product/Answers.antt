use Rattle.std.proofs.Common.{rules}
use Rattle.instance_matrix.proofs.Results.{product_law}
use Rattle.instance_matrix.proofs.products.product.Goals as goal

pub returns : goal.returns
returns c =
    let u = c.places_by.ensures in
    product_law _ _ c.requires.fine c.requires.fine_2 _ (record { long = u.long; each = λ i j li lj. (let h = u.each i j li lj in search rules); rest = u.rest })
