-- Operator by operator as the definition.
use Rattle.std.proofs.Common.{◌≡◌, ◌∙◌, rules}
use mathlib.Core.Bool.{beq}
use Rattle.relational.specs.Evaluation.{same, implies}
use Rattle.instance_matrix.proofs.Counting.{same-is}
use Rattle.instance_matrix.proofs.truths.apply_comparison.Goals as goal

pub returns-in-Equal : goal.returns-in-Equal
returns-in-Equal c =
    rw c.in-Equal.is (c.all_matched.ensures same (λ a b r h. (let e : r ≡ beq a b = search rules in e ∙ same-is a b)))

pub returns-in-Within : goal.returns-in-Within
returns-in-Within c = rw c.in-Within.is (c.all_matched-in-Within.ensures implies (λ a b r h. search rules))
