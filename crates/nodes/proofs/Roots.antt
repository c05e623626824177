-- The root of an accepted sheet is a formula.
use Rattle.sheet_rules.specs.Blocks.{Sheet, root}
use Rattle.sheet_rules.specs.Facts.{Facts}
use Rattle.relational.proofs.Satisfaction.{root_is}
use Rattle.nodes.specs.Nodes.{IsFormula}

pub root_formula : (sheet : Sheet) → Facts sheet → IsFormula sheet (root sheet)
root_formula sheet f = let r = root_is sheet f in record { it = r.0; is = r.1 }
