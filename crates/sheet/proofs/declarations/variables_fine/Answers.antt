use Rattle.std.proofs.Common.{◌∙◌, ℕ, ltb, rules, tests}
use Rattle.std.proofs.lemmas.Iterator.{YieldsList-from_slice}
use Rattle.std.proofs.lemmas.Iterator.Search.{all_from_yields_List}
use Rattle.prelude.proofs.Chains.{all-each}
use Rattle.sheet.proofs.declarations.variables_fine.Goals as goal

pub returns : goal.returns
returns c =
    let variables = c.args.variables.now in
    let fine = λ (sort : ℕ). ltb sort c.args.sorts in
    all_from_yields_List fine _ _ _ c.all.ensures.ran (YieldsList-from_slice variables cc)
    (λ x b q k. search (rules, tests))
    ∙ all-each fine 0 variables
