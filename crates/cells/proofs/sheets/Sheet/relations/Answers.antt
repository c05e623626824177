use mathlib.Core.Path.{◌∙◌}
use native.Mathlib.Omega.{arith}
use Rattle.cells.proofs.Parts.{placed}
use Rattle.cells.proofs.sheets.Sheet.relations.Goals as goal

pub overflow_mul-count : goal.overflow_mul-count
overflow_mul-count c = omega (arith, c.type_inv.self, (placed _ _ c.args.self.now.taken).relations.inside)

pub part-requires : goal.part-requires
part-requires c = (placed _ _ c.args.self.now.taken).relations.inside

pub returns : goal.returns
returns c = c.part.ensures ∙ (placed _ _ c.args.self.now.taken).relations.is
