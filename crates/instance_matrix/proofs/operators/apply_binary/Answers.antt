-- Operator by operator as the definition.
use Rattle.std.proofs.Common.{rules}
use Rattle.relational.specs.Evaluation.{either, both, without}
use Rattle.instance_matrix.proofs.operators.apply_binary.Goals as goal

pub returns-in-Union : goal.returns-in-Union
returns-in-Union c = rw c.in-Union.is (c.matched.ensures either (λ a b r h. search rules))

pub returns-in-Intersection : goal.returns-in-Intersection
returns-in-Intersection c = rw c.in-Intersection.is (c.matched-in-Intersection.ensures both (λ a b r h. search rules))

pub returns-in-Difference : goal.returns-in-Difference
returns-in-Difference c = rw c.in-Difference.is (c.matched-in-Difference.ensures without (λ a b r h. search rules))
