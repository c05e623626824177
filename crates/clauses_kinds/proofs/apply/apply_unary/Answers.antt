use Rattle.clauses_matrix.proofs.Fills.{operand-grow}
use Rattle.clauses_kinds.proofs.apply.apply_unary.Goals as goal

pub inverse-requires : goal.inverse-requires
inverse-requires c = operand-grow c.requires.bounded.last c.requires.operand

pub returns-in-Inverse : goal.returns-in-Inverse
returns-in-Inverse c = rw c.in-Inverse.is (c.inverse.ensures _ _ c.requires.bounded c.requires.operand)
