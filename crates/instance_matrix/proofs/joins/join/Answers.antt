use Rattle.std.proofs.Common.{rules}
use Rattle.instance_matrix.proofs.Results.{join-relation, join-set}
use Rattle.instance_matrix.proofs.joins.join.Goals as goal

pub returns-then-p-q-eq4 : goal.returns-then-p-q-eq4
returns-then-p-q-eq4 c =
    let u = c.places_by-cells.ensures in
    join-relation _ _ c.requires.fine c.requires.fine_2 _ _ c.join_columns-columns.ensures.0 c.if-p-q-eq4.true
    (record { long = u.long; each = λ i j li lj. (let h = u.each i j li lj in search rules); rest = u.rest })

pub returns-else-p-q-eq4 : goal.returns-else-p-q-eq4
returns-else-p-q-eq4 c =
    let u = c.places_by-cells.ensures in
    join-set _ _ c.requires.fine c.requires.fine_2 _ _ _ c.join_columns-columns.ensures.0 c.size.ensures.0 c.if-p-q-eq4.false
    (record { long = u.long; each = λ i j li lj. (let h = u.each i j li lj in search rules); rest = u.rest })
