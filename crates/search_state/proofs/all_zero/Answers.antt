use Rattle.std.proofs.Common.{pos, rules, tests, ◌∙◌}
use Rattle.std.proofs.lemmas.Iterator.{YieldsList-from_slice}
use Rattle.std.proofs.lemmas.Iterator.Consumers.{YieldsList-from_copied}
use Rattle.std.proofs.lemmas.Iterator.Search.{all_from_yields_List}
use Rattle.search_rules.specs.Rules.{same_literal}
use Rattle.search_state.proofs.Tests.{all-pass}
use Rattle.search_state.proofs.all_zero.Goals as goal

pub returns : goal.returns
returns c =
    all_from_yields_List (λ w. same_literal w (pos 0)) _ _ _ c.all.ensures.ran (YieldsList-from_copied (YieldsList-from_slice c.args.words.now cc)) (λ x b q k. search (rules, tests))
    ∙ all-pass (λ w. same_literal w (pos 0)) c.args.words.now
