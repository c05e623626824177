use Rattle.std.proofs.Common.{◌∙◌, ℕ, length, refl, arith, rules, tests}
use Rattle.std.proofs.lemmas.Iterator.{YieldsList-from_range}
use Rattle.std.proofs.lemmas.Iterator.Search.{all_from_yields_List}
use Rattle.prelude.specs.Tests.{between}
use Rattle.prelude.proofs.Chains.{each-is}
use Rattle.sheet.specs.Filling.{scope_in}
use Rattle.sheet.proofs.declarations.scopes_fine.Goals as goal

pub returns : goal.returns
returns c =
    let sorts = c.args.sorts.now in
    let n = length sorts in
    let fine = λ (k : ℕ). between 1 8 (scope_in sorts k) in
    all_from_yields_List fine _ _ _ c.all.ensures.ran (YieldsList-from_range 0 n n refl (omega arith))
    (λ x b q k. search (rules, tests))
    ∙ each-is fine n
