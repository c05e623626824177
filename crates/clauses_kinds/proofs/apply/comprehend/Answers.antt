-- `comprehend` meets its contract: AND with the atoms.
use mathlib.Core.Path.{ap, refl}
use Rattle.literal.specs.Literals.{Literal}
use Rattle.relational.specs.declared.Binary.TheVariants.{Intersection as intersection}
use Rattle.relational.specs.Matrices.{Matrix}
use Rattle.clauses_rules.specs.Translation.{translate_binary}
use Rattle.clauses_emission.proofs.Steps.{emits-as}
use Rattle.clauses_matrix.specs.Matrices.{matrix_of}
use Rattle.clauses_kinds.proofs.apply.comprehend.Goals as goal

pub matched-requires-clause-operand : goal.matched-requires-clause-operand
matched-requires-clause-operand c = (c.range.ensures (λ x. 0)).fine _ c.requires.inside

pub returns : goal.returns
returns c env =
    emits-as
    (ap (λ (m : Matrix Literal). translate_binary intersection m (matrix_of c.args.p) c.args.tape.now.next)
    (c.range.ensures env).matrix)
    refl c.matched.ensures
