-- The join, then the union with the old cells.
use Rattle.std.proofs.Common.{ap, rules}
use Rattle.relational.specs.Evaluation.{either, value_binary}
use Rattle.relational.specs.declared.Binary.TheVariants.{Union as union}
use Rattle.instance_matrix.specs.Values.{matrix_of}
use Rattle.instance_matrix.proofs.Results.{gives_as}
use Rattle.instance_matrix.proofs.closures.round.Goals as goal

pub returns : goal.returns
returns c =
    gives_as _ _ _ (ap (λ m. value_binary union (matrix_of c.args.p) m) c.join.ensures.is)
    (c.matched.ensures either (λ a b r h. search rules))
