-- The library's `all` is ours, of what the values settle to.
use Rattle.std.proofs.Common.{◌∙◌, ℕ, sym, leb, rules, tests}
use Rattle.std.proofs.lemmas.Iterator.{YieldsList-from_slice}
use Rattle.std.proofs.lemmas.Iterator.Search.{all_from_yields_List}
use Rattle.prelude.proofs.Laws.{all_map}
use Rattle.prelude.proofs.Chains.{all-is}
use Rattle.search_rules.specs.Rules.{settle}
use Rattle.solve.proofs.copies.give_bits.Goals as goal

pub returns : goal.returns
returns c =
    let values = c.args.values.now in
    let gives = λ (b : ℕ). leb (settle b) 1 in
    all_from_yields_List gives _ _ _ c.all.ensures.ran (YieldsList-from_slice values cc)
    (λ x b q k. search (rules, tests))
    ∙ all-is gives values
    ∙ sym (all_map (λ (b : ℕ). leb b 1) settle values)
