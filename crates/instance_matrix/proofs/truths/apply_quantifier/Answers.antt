-- For all: the atoms are within the bodies; for some: at least one of both.
use Rattle.std.proofs.Common.{Bool, ap, ◌∙◌, rules}
use lib.Dec.{leb}
use Rattle.relational.specs.Matrices.{Matrix}
use Rattle.relational.specs.Evaluation.{both, implies, count}
use Rattle.instance_matrix.proofs.truths.apply_quantifier.Goals as goal

pub count-requires : goal.count-requires
count-requires c = (c.matched.ensures both (λ a b r h. search rules)).fine

pub returns-in-All : goal.returns-in-All
returns-in-All c = rw c.in-All.is (c.all_matched.ensures implies (λ a b r h. search rules))

pub returns-in-Some : goal.returns-in-Some
returns-in-Some c =
    let x = c.matched.ensures both (λ a b r h. search rules) in
    rw c.in-Some.is (ap (leb 1) (c.count.ensures ∙ ap (λ (m : Matrix Bool). count m.cells) x.is))
