-- The intersection with the variable's atoms.
use mathlib.Core.Path.{ap}
use mathlib.Core.Bool.{Bool}
use Rattle.relational.specs.declared.Binary.TheVariants.{Intersection as intersection}
use Rattle.relational.specs.Matrices.{Matrix}
use Rattle.relational.specs.Evaluation.{value_binary}
use Rattle.instance_matrix.specs.Values.{matrix_of}
use Rattle.instance_matrix.proofs.Results.{gives_as}
use Rattle.instance_evaluation.proofs.Instance.comprehend.Goals as goal

pub apply_binary-requires-clause-fine : goal.apply_binary-requires-clause-fine
apply_binary-requires-clause-fine c = (c.range.ensures (λ x. 0)).fine

pub returns : goal.returns
returns c env =
    gives_as _ _ _
    (ap (λ (m : Matrix Bool). value_binary intersection m (matrix_of c.args.row)) (c.range.ensures env).is)
    c.apply_binary.ensures
