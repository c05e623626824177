use Rattle.std.proofs.Common.{eqb, ◌∙◌}
use Rattle.prelude.proofs.Chains.{any-is}
use Rattle.search_core.proofs.run.any_decision.Goals as goal

pub returns : goal.returns
returns c = c.contains.ensures.value ∙ any-is (λ b. eqb b 3) c.args.values.now
