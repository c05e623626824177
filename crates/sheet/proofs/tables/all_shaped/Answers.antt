use Rattle.std.proofs.Common.{◌∙◌, rules, tests}
use Rattle.std.proofs.lemmas.Iterator.{YieldsList-from_slice}
use Rattle.std.proofs.lemmas.Iterator.Search.{all_from_yields_List}
use Rattle.shapes.specs.Shapes.{is_shaped}
use Rattle.prelude.proofs.Chains.{all-is}
use Rattle.sheet.proofs.tables.all_shaped.Goals as goal

pub returns : goal.returns
returns c =
    let shapes = c.args.shapes.now in
    all_from_yields_List is_shaped _ _ _ c.all.ensures.ran (YieldsList-from_slice shapes cc)
    (λ x b q k. search (rules, tests))
    ∙ all-is is_shaped shapes
