-- The quantifier over the variable's atoms.
use mathlib.Core.Path.{ap, ◌∙◌}
use mathlib.Core.Bool.{Bool}
use Rattle.relational.specs.Matrices.{Matrix}
use Rattle.relational.specs.Evaluation.{truth_quantifier}
use Rattle.instance_matrix.specs.Values.{matrix_of}
use Rattle.instance_evaluation.proofs.Instance.quantify_over.Goals as goal

pub apply_quantifier-requires-clause-fine : goal.apply_quantifier-requires-clause-fine
apply_quantifier-requires-clause-fine c = (c.range.ensures (λ x. 0)).fine

pub returns : goal.returns
returns c env =
    c.apply_quantifier.ensures
    ∙ ap (λ (m : Matrix Bool). truth_quantifier c.args.operator m (matrix_of c.args.row)) (c.range.ensures env).is
