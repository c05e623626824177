use Rattle.std.proofs.Common.{ℕ, Bool, false, ◌||◌, eqb, get_or, length, refl, ◌∙◌, rules, tests, arith}
use Rattle.std.proofs.lemmas.Iterator.{YieldsList-from_range}
use Rattle.std.proofs.lemmas.Iterator.Search.{all_from_yields_List}
use Rattle.prelude.proofs.Chains.{each-is}
use Rattle.search_state.proofs.Tests.{all-settled}
use Rattle.search_state.proofs.open_outside.Goals as goal

pub returns : goal.returns
returns c =
    let values = c.args.values.now in
    let n = length values in
    let test : ℕ → Bool = λ i. get_or c.args.seen.now i false || eqb (get_or values i 0) 2 in
    all_from_yields_List test _ _ _ c.all.ensures.ran (YieldsList-from_range 0 n n refl (omega arith))
    (λ x b q k. search (rules, tests))
    ∙ each-is test n ∙ all-settled values c.args.seen.now
