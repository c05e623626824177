-- `some_matched` meets its contract: the intersection, then some.
use borrow.Author.Rules.{rules}
use Rattle.relational.specs.declared.Binary.TheVariants.{Intersection as intersection}
use Rattle.relational.specs.declared.Test.TheVariants.{Some as some}
use Rattle.clauses_rules.specs.Translation.{translate_binary, translate_test}
use Rattle.clauses_emission.proofs.Steps.{emits-bind, emits-read}
use Rattle.clauses_matrix.specs.Matrices.{matrix_of}
use Rattle.clauses_matrix.proofs.Regulars.{regular-binary, regular-test}
use Rattle.clauses_kinds.proofs.apply.some_matched.Goals as goal

pub returns : goal.returns
returns c =
    let p = matrix_of c.args.p in
    let q = matrix_of c.args.q in
    emits-read (search rules)
    (emits-bind (translate_binary intersection p q) (λ m. translate_test some m.cells) (regular-binary intersection p q)
    (λ m. regular-test some m.cells) c.matched-met.ensures
    c.some.ensures)
