-- Every step of the walk is regular: its next variable comes after its gates.
use mathlib.Core.List.{List}
use Prim.Native.Nat.{ℕ}
use Rattle.literal.specs.Literals.{Literal, opposite}
use Rattle.sheet_rules.specs.Blocks.{Sheet}
use Rattle.relational.specs.Trees.{Expression, leaf, binary, unary, comprehension, Formula, comparison, test}
use Rattle.relational.specs.Trees.{negation, connective, quantified}
use Rattle.relational.specs.declared.Binary.TheVariants.{Intersection as intersection}
use Rattle.relational.specs.Meaning.{Environment, bind}
use Rattle.clauses_rules.specs.Builder.{◌>>=◌}
use Rattle.clauses_rules.specs.Translation.{translate_binary, translate_unary, translate_comparison, translate_test, translate_connective}
use Rattle.clauses_rules.specs.Translation.{translate_quantifier, range, bodies, translate, translate_formula}
use Rattle.clauses_emission.proofs.Steps.{Regular, regular-return, regular-map, regular-bind, regular-each}
use Rattle.clauses_matrix.proofs.Regulars.{regular-binary, regular-unary, regular-comparison, regular-test, regular-connective}
use Rattle.clauses_matrix.proofs.Regulars.{regular-quantifier}
use Rattle.clauses_translation.specs.Walks.{body_walks}

module _ (sheet : Sheet) (cells : List Literal) where
  mutual
    unfolding translate

    pub regular-expression : (e : Expression) (env : Environment) → Regular (translate sheet cells e env)
    regular-expression (leaf l a) env = regular-return _
    regular-expression (binary o e f) env =
        regular-bind (translate sheet cells e env) (λ p. translate sheet cells f env >>= λ q. translate_binary o p q)
        (regular-expression e env)
        λ p. regular-bind (translate sheet cells f env) (λ q. translate_binary o p q) (regular-expression f env) λ q. regular-binary o p q
    regular-expression (unary o e) env =
        regular-bind (translate sheet cells e env) (translate_unary o) (regular-expression e env) λ p. regular-unary o p
    regular-expression (comprehension x f) env =
        regular-bind (body_walks sheet cells f env x)
        (λ ls. translate_binary intersection (range sheet cells x env) (bodies sheet cells x ls))
        (regular-each (λ v. translate_formula sheet cells f (bind env x v)) (λ v. regular-formula f (bind env x v)) _)
        λ ls. regular-binary intersection (range sheet cells x env) (bodies sheet cells x ls)

    pub regular-formula : (f : Formula) (env : Environment) → Regular (translate_formula sheet cells f env)
    regular-formula (comparison o e f) env =
        regular-bind (translate sheet cells e env) (λ p. translate sheet cells f env >>= λ q. translate_comparison o p q)
        (regular-expression e env)
        λ p. regular-bind (translate sheet cells f env) (λ q. translate_comparison o p q) (regular-expression f env)
        λ q. regular-comparison o p q
    regular-formula (test o e) env =
        regular-bind (translate sheet cells e env) (λ p. translate_test o p.cells) (regular-expression e env)
        λ p. regular-test o p.cells
    regular-formula (negation f) env = regular-map opposite (translate_formula sheet cells f env) (regular-formula f env)
    regular-formula (connective o f g) env =
        regular-bind (translate_formula sheet cells f env) (λ p. translate_formula sheet cells g env >>= λ q. translate_connective o (p, q))
        (regular-formula f env)
        λ p. regular-bind (translate_formula sheet cells g env) (λ q. translate_connective o (p, q)) (regular-formula g env)
        λ q. regular-connective o (p, q)
    regular-formula (quantified k x f) env =
        regular-bind (body_walks sheet cells f env x)
        (λ ls. translate_quantifier k (range sheet cells x env) (bodies sheet cells x ls))
        (regular-each (λ v. translate_formula sheet cells f (bind env x v)) (λ v. regular-formula f (bind env x v)) _)
        λ ls. regular-quantifier k (range sheet cells x env) (bodies sheet cells x ls)

  pub regular-bodies : (f : Formula) (env : Environment) (x : ℕ) → Regular (body_walks sheet cells f env x)
  regular-bodies f env x =
      regular-each (λ v. translate_formula sheet cells f (bind env x v)) (λ v. regular-formula f (bind env x v)) _
