use Rattle.relational.specs.declared.Binary.TheVariants.{Join as join, Union as union}
use Rattle.clauses_rules.specs.Translation.{translate_binary}
use Rattle.clauses_matrix.specs.Matrices.{matrix_of}
use Rattle.clauses_emission.proofs.Steps.{emits-bind}
use Rattle.clauses_matrix.proofs.Regulars.{regular-binary}
use Rattle.clauses_matrix.proofs.operators.round.Goals as goal

pub returns : goal.returns
returns c =
    let p = matrix_of c.args.p in
    emits-bind (translate_binary join p p) (translate_binary union p) (regular-binary join p p) (regular-binary union p)
    c.join-joined.ensures c.matched.ensures
