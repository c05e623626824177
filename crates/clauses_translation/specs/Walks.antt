-- What the walk takes for granted, and what it does.
-- No public contract reaches this file: nothing here needs belief.
use Rattle.std.specs.Prelude.{◌≡◌, List, ℕ, ℤ}
use Rattle.literal.specs.Literals.{Literal}
use Rattle.sheet_rules.specs.Blocks.{Sheet, scope, sort_of}
use Rattle.relational.specs.Trees.{Expression, Formula, Tree, expression, formula}
use Rattle.relational.specs.Meaning.{Environment, bind}
use Rattle.relational.specs.Matrices.{upto, Matrix, set_of}
use Rattle.nodes.specs.Environments.{environment}
use Rattle.nodes.specs.Nodes.{tree_at}
use Rattle.clauses_rules.specs.Builder.{Builder, ◌<$>◌, each}
use Rattle.clauses_rules.specs.Translation.{translate, translate_formula}
use Rattle.clauses_emission.specs.declared.Tape.{Tape}
use Rattle.clauses_emission.specs.Emission.{Inside, AllInside, literals_of, Bounded, Emits}
use Rattle.clauses_matrix.specs.Matrices.{Literals}
use Rattle.clauses_matrix.specs.Matrices.{matrix_of, Operand}

-- the walk can start over the literals of the cells
pub record Ready (given : List ℤ) (tape : Tape) : Type 0 where
  pub bounded : Bounded tape
  pub inside : AllInside tape.next (literals_of given)

-- node v was walked: what its tree's translation asks was done
pub record Walks {T A : Type 0} (made : T → Tree) (translation : T → Builder A) (sheet : Sheet) (v : ℕ)
    (old : List ℤ) (before : Tape) (x : A) (new : List ℤ) (after : Tape) (Fine : ℕ → Type 0) : Type 0 where
  pub walks : (t : T) → tree_at sheet v ≡ made t → Emits (translation t before.next) old before x new after Fine

-- the walk of an expression, of a formula, and of a binder's body by atom
abbrev pub expression_walk : Sheet → List ℤ → List ℕ → Expression → Builder (Matrix Literal)
expression_walk sheet given env e = translate sheet (literals_of given) e (environment env)

abbrev pub formula_walk : Sheet → List ℤ → List ℕ → Formula → Builder Literal
formula_walk sheet given env f = translate_formula sheet (literals_of given) f (environment env)

abbrev pub body_walks : Sheet → List Literal → Formula → Environment → ℕ → Builder (List Literal)
body_walks sheet cells f env x = each (λ i. translate_formula sheet cells f (bind env x i)) (upto (scope sheet (sort_of sheet x)))

module _ (sheet : Sheet) (given : List ℤ) (env : List ℕ) (v : ℕ) (old : List ℤ) (before : Tape) where
  -- node v was walked as an expression, as a formula, as a formula once for each atom of variable x
  abbrev pub WalksExpression : Literals → List ℤ → Tape → Type 0
  WalksExpression m new after =
      Walks expression (expression_walk sheet given env) sheet v old before (matrix_of m) new after (λ n. Operand n m)

  abbrev pub WalksFormula : Literal → List ℤ → Tape → Type 0
  WalksFormula l new after = Walks formula (formula_walk sheet given env) sheet v old before l new after (λ n. Inside n l)

  abbrev pub WalksBodies : ℕ → Literals → List ℤ → Tape → Type 0
  WalksBodies x m new after =
      Walks formula (λ f. set_of (scope sheet (sort_of sheet x)) <$> body_walks sheet (literals_of given) f (environment env) x) sheet v
      old before (matrix_of m) new after (λ n. Operand n m)
