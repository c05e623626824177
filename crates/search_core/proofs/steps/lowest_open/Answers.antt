use Rattle.std.proofs.Common.{◌≡◌, ◌∙◌, ap, eqb, length, rules, tests, unwrap_or}
use Rattle.std.proofs.lemmas.Iterator.{YieldsList-from_slice}
use Rattle.std.proofs.lemmas.Iterator.Search.{position_from_yields_List}
use Rattle.search_core.proofs.Lowest.{low-position}
use Rattle.search_core.proofs.steps.lowest_open.Goals as goal

pub returns : goal.returns
returns c =
    let values = c.args.values.now in
    let first = position_from_yields_List (λ x. eqb x 2) c.position.new.self _ c.position.result c.position.ensures.ran
    (YieldsList-from_slice values cc) (λ x b q k. search (rules, tests)) in
    c.unwrap_or.ensures ∙ ap (λ o. unwrap_or o (length values)) first ∙ low-position values
