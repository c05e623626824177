use mathlib.Core.Path.{◌∙◌}
use Rattle.cells.proofs.Parts.{placed}
use Rattle.cells.proofs.sheets.Sheet.variables.Goals as goal

pub part-requires : goal.part-requires
part-requires c = (placed _ _ c.args.self.now.taken).variables.inside

pub returns : goal.returns
returns c = c.part.ensures ∙ (placed _ _ c.args.self.now.taken).variables.is
