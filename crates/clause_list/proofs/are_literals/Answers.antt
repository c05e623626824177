-- The library's `all` is ours, and every variable up to v has two literals.
use Rattle.std.proofs.Common.{◌≡◌, ℕ, ◌≤◌, min, ap, ◌∙◌, arith, rules, tests}
use Rattle.std.specs.List.{list_all}
use native.Mathlib.Nat.{min-eq_left}
use Rattle.std.proofs.lemmas.Iterator.{YieldsList-from_slice}
use Rattle.std.proofs.lemmas.Iterator.Search.{all_from_yields_List}
use Rattle.prelude.specs.Tests.{all}
use Rattle.prelude.proofs.Chains.{all-is}
use Rattle.literal.specs.Literals.{is_literal}
use Rattle.literal.specs.Words.{last_variable}
use Rattle.clause_list.proofs.are_literals.Goals as goal

pub returns : goal.returns
returns c =
    let words = c.args.words.now in
    let v = c.args.v in
    let h : v ≤ last_variable = omega arith in
    let test = is_literal (min v last_variable) in
    let e : c.all.result ≡ list_all test words =
    all_from_yields_List test _ _ _ c.all.ensures.ran (YieldsList-from_slice words cc) (λ x b q k. search (rules, tests)) in
    e ∙ all-is test words ∙ ap (λ (n : ℕ). all (is_literal n) words) (min-eq_left h)
