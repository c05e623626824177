use Rattle.std.proofs.Common.{◌∙◌, ◌/◌, ap, sym, length, refl, arith, rules, tests, List, ℕ}
use Rattle.std.proofs.lemmas.Iterator.{YieldsList-from_range}
use Rattle.std.proofs.lemmas.Iterator.Search.{all_from_yields_List}
use Rattle.prelude.specs.Tests.{each}
use Rattle.prelude.proofs.Chains.{each-is}
use Rattle.sheet_rules.specs.Reading.{relation_declared}
use Rattle.sheet.proofs.declarations.relations_fine.Goals as goal

pub returns : goal.returns
returns c sheet s t =
    let n = length c.args.relations.now / 4 in
    let fine = relation_declared sheet in
    all_from_yields_List fine _ _ _ c.all.ensures.ran (YieldsList-from_range 0 n n refl (omega arith))
    (λ x b q k. search (rules, tests))
    ∙ each-is fine n
    ∙ ap (λ (xs : List ℕ). each (length xs / 4) fine) (sym s)
