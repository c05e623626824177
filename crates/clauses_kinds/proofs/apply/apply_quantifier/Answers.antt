-- `apply_quantifier` meets its contract: the quantifier over the variable's atoms.
use mathlib.Core.Path.{ap, refl}
use borrow.Author.Rules.{rules}
use Rattle.literal.specs.Literals.{Literal}
use Rattle.relational.specs.Matrices.{Matrix}
use Rattle.clauses_rules.specs.Translation.{translate_quantifier}
use Rattle.clauses_emission.proofs.Steps.{emits-as, emits-read}
use Rattle.clauses_matrix.specs.Matrices.{matrix_of}
use Rattle.clauses_kinds.proofs.apply.apply_quantifier.Goals as goal

pub quantify-requires-clause-operand : goal.quantify-requires-clause-operand
quantify-requires-clause-operand c = (c.range.ensures (λ x. 0)).fine _ c.requires.inside

pub returns : goal.returns
returns c env =
    emits-read (search rules)
    (emits-as
    (ap (λ (m : Matrix Literal). translate_quantifier c.args.operator m (matrix_of c.args.p) c.args.tape.now.next)
    (c.range.ensures env).matrix)
    refl c.quantify.ensures)
