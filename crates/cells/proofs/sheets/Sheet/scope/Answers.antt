-- A scope of an accepted sheet is at most 8.
use mathlib.Core.Path.{◌∙◌, ap}
use Rattle.sheet.specs.Filling.{scope_in}
use Rattle.sheet_rules.proofs.Acceptance.{accepted-facts}
use Rattle.cells.proofs.sheets.Sheet.scope.Goals as goal

pub returns : goal.returns
returns c =
    let k = c.args.sort in
    let e = c.scope_at.ensures.0 ∙ ap (λ block. scope_in block k) c.sorts.ensures in
    (e, rw e ((accepted-facts _ _ c.args.self.now.taken).scope_few k))
