-- The walk of a node, form by form, is the translation of its tree.
use mathlib.Core.Path.{◌≡◌, refl, sym}
use mathlib.Core.List.{List}
use Prim.Native.Nat.{ℕ, ◌≤◌}
use lib.IntN.{ℤ}
use Rattle.literal.specs.Literals.{Literal, opposite}
use Rattle.sheet_rules.specs.Blocks.{Sheet, scope, sort_of}
use Rattle.relational.specs.declared.Leaf.{Leaf}
use Rattle.relational.specs.declared.Binary.{Binary}
use Rattle.relational.specs.declared.Unary.{Unary}
use Rattle.relational.specs.declared.Comparison.{Comparison}
use Rattle.relational.specs.declared.Test.{Test}
use Rattle.relational.specs.declared.Connective.{Connective}
use Rattle.relational.specs.declared.Quantifier.{Quantifier}
use Rattle.relational.specs.declared.Binary.TheVariants.{Intersection as intersection}
use Rattle.relational.specs.declared.Symbol.TheVariants.{Leaf as leaf-symbol, Binary as binary-symbol}
use Rattle.relational.specs.declared.Symbol.TheVariants.{Unary as unary-symbol, Comparison as comparison-symbol}
use Rattle.relational.specs.declared.Symbol.TheVariants.{Test as test-symbol, Connective as connective-symbol}
use Rattle.relational.specs.declared.Symbol.TheVariants.{Quantifier as quantifier-symbol, Comprehension as comprehension-symbol}
use Rattle.relational.specs.declared.Symbol.TheVariants.{Negation as negation-symbol}
use Rattle.relational.specs.Matrices.{set_of}
use Rattle.nodes.specs.declared.forms.Node.{Node}
use Rattle.nodes.specs.Environments.{environment}
use Rattle.nodes.specs.Nodes.{IsExpression, IsFormula}
use Rattle.nodes.proofs.Views.{Reached}
use Rattle.nodes.proofs.ExpressionViews.{at_leaf, at-binary, at-unary, at-comprehension}
use Rattle.nodes.proofs.FormulaViews.{at-comparison, at_test, at-negation, at-connective, at-quantifier}
use Rattle.clauses_rules.specs.Builder.{◌<$>◌}
use Rattle.clauses_rules.specs.Translation.{translate_binary, translate_unary, translate_comparison, translate_test, translate_connective}
use Rattle.clauses_rules.specs.Translation.{translate_quantifier, range, translate, absent}
use Rattle.clauses_emission.specs.declared.Tape.{Tape}
use Rattle.clauses_emission.specs.Emission.{Inside, AllInside, literals_of, Bounded, Over, Emits}
use Rattle.clauses_emission.proofs.Steps.{regular-map, emits-return, emits-bind, emits-map, emits-as}
use Rattle.clauses_emission.proofs.Ranges.{inside-opposite, inside-absent}
use Rattle.clauses_matrix.specs.Matrices.{Literals}
use Rattle.clauses_matrix.specs.Matrices.{matrix_of, Operand, EmitsMatrix, EmitsBinary, EmitsUnary}
use Rattle.clauses_matrix.proofs.Regulars.{regular-binary, regular-unary, regular-comparison, regular-test, regular-connective}
use Rattle.clauses_matrix.proofs.Regulars.{regular-quantifier}
use Rattle.clauses_kinds.specs.Leaves.{LeafIs}
use Rattle.clauses_translation.specs.Walks.{expression_walk, formula_walk, body_walks, WalksExpression, WalksFormula, WalksBodies}
use Rattle.clauses_translation.proofs.Regulars.{regular-expression, regular-formula, regular-bodies}
use Rattle.clauses_translation.proofs.Walking.{again, walk-over, one-walks, two-walks}

-- ---- given up
module _ {sheet : Sheet} (given : List ℤ) (env : List ℕ) {v : ℕ} {list : List ℤ} {tape : Tape} (bounded : Bounded tape)
    (over : Over tape.next) where
  pub expression-over : {m : Literals} → ((n : ℕ) → 2 ≤ n → Operand n m) → WalksExpression sheet given env v list tape m list tape
  expression-over fine =
      walk-over (expression_walk sheet given env) (λ e. regular-expression sheet (literals_of given) e (environment env)) bounded over
      (fine tape.next bounded.first)

  pub formula-over : WalksFormula sheet given env v list tape absent list tape
  formula-over =
      walk-over (formula_walk sheet given env) (λ f. regular-formula sheet (literals_of given) f (environment env)) bounded over
      (inside-absent tape.next bounded.first)

-- ---- expressions
module _ {sheet : Sheet} (given : List ℤ) (env : List ℕ) {v : ℕ} {node : Node} {old : List ℤ} {before : Tape}
    (h : Reached sheet v node IsExpression) where
  pub leaf-walks : {m : Literals} {l : Leaf} → node.symbol ≡ leaf-symbol l → Bounded before → AllInside before.next (literals_of given)
      → LeafIs sheet given l node.a (environment env) m
      → WalksExpression sheet given env v old before m old before
  unfolding translate
  leaf-walks p bounded inside c =
      record {
        walks = λ e t.
            rw (at_leaf (again h e t) p).is
            (emits-as refl (sym c.matrix) (emits-return _ old before bounded (c.fine before.next inside)));
      }

  pub binary-walks : {mid new out : List ℤ} {middle after end : Tape} {m q z : Literals} {o : Binary} → node.symbol ≡ binary-symbol o
      → WalksExpression sheet given env node.a old before m mid middle → WalksExpression sheet given env node.b mid middle q new after
      → (EmitsBinary (translate_binary o) m q new after z out end)
      → WalksExpression sheet given env v old before z out end
  unfolding translate
  binary-walks p =
      two-walks (expression_walk sheet given env) (expression_walk sheet given env)
      (λ e. regular-expression sheet (literals_of given) e (environment env)) translate_binary (λ o e f. refl) regular-binary
      λ e t. at-binary (again h e t) p

  pub unary-walks : {new out : List ℤ} {after end : Tape} {m z : Literals} {o : Unary} → node.symbol ≡ unary-symbol o
      → WalksExpression sheet given env node.a old before m new after
      → (EmitsUnary (translate_unary o) m new after z out end)
      → WalksExpression sheet given env v old before z out end
  unfolding translate
  unary-walks p =
      one-walks (expression_walk sheet given env) (expression_walk sheet given env)
      (λ e. regular-expression sheet (literals_of given) e (environment env)) translate_unary (λ o e. refl) regular-unary
      λ e t. at-unary (again h e t) p

  pub comprehension-walks : {new out : List ℤ} {after end : Tape} {m z : Literals}
      → node.symbol ≡ comprehension-symbol
      → WalksBodies sheet given env node.b old before node.a m new after
      → EmitsMatrix (translate_binary intersection (range sheet (literals_of given) node.a (environment env))
      (matrix_of m) after.next)
      new after z out end → WalksExpression sheet given env v old before z out end
  unfolding translate
  comprehension-walks p w c =
      record {
        walks = λ e t.
            let b = at-comprehension (again h e t) p in
            let n : ℕ = scope sheet (sort_of sheet node.a) in
            let atoms = range sheet (literals_of given) node.a (environment env) in
            let s = body_walks sheet (literals_of given) b.body.it (environment env) node.a in
            let rs = regular-map (set_of n) s (regular-bodies sheet (literals_of given) b.body.it (environment env) node.a) in
            rw b.is
            (emits-bind (set_of n <$> s) (translate_binary intersection atoms) rs (regular-binary intersection atoms)
            (w.walks b.body.it b.body.is) c);
      }

-- ---- formulas
module _ {sheet : Sheet} (given : List ℤ) (env : List ℕ) {v : ℕ} {node : Node} {old : List ℤ} {before : Tape}
    (h : Reached sheet v node IsFormula) where
  pub comparison-walks : {mid new out : List ℤ} {middle after end : Tape} {m q : Literals} {z : Literal} {o : Comparison} → node.symbol ≡ comparison-symbol o
      → WalksExpression sheet given env node.a old before m mid middle → WalksExpression sheet given env node.b mid middle q new after
      → (Emits (translate_comparison o (matrix_of m) (matrix_of q) after.next) new after z out end (λ n. Inside n z))
      → WalksFormula sheet given env v old before z out end
  unfolding translate
  comparison-walks p =
      two-walks (expression_walk sheet given env) (formula_walk sheet given env)
      (λ e. regular-expression sheet (literals_of given) e (environment env)) translate_comparison (λ o e f. refl) regular-comparison
      λ f t. at-comparison (again h f t) p

  pub test-walks : {new out : List ℤ} {after end : Tape} {m : Literals} {z : Literal} {o : Test} → node.symbol ≡ test-symbol o
      → WalksExpression sheet given env node.a old before m new after
      → (Emits (translate_test o (matrix_of m).cells after.next) new after z out end (λ n. Inside n z))
      → WalksFormula sheet given env v old before z out end
  unfolding translate
  test-walks p =
      one-walks (expression_walk sheet given env) (formula_walk sheet given env)
      (λ e. regular-expression sheet (literals_of given) e (environment env)) (λ o m. translate_test o m.cells) (λ o e. refl)
      (λ o m. regular-test o m.cells) λ f t. at_test (again h f t) p

  pub negation-walks : {new : List ℤ} {after : Tape} {l z : Literal} → node.symbol ≡ negation-symbol
      → WalksFormula sheet given env node.a old before l new after → z ≡ opposite l
      → WalksFormula sheet given env v old before z new after
  unfolding translate
  negation-walks {l = l} p w e =
      record {
        walks = λ f t.
            let b = at-negation (again h f t) p in
            let i = w.walks b.left.it b.left.is in
            rw b.is
            (emits-map opposite (formula_walk sheet given env b.left.it) i e
            (rw e (inside-opposite l i.fine)));
      }

  pub connective-walks : {mid new out : List ℤ} {middle after end : Tape} {m q z : Literal} {o : Connective} → node.symbol ≡ connective-symbol o
      → WalksFormula sheet given env node.a old before m mid middle → WalksFormula sheet given env node.b mid middle q new after
      → (Emits (translate_connective o (m, q) after.next) new after z out end (λ n. Inside n z))
      → WalksFormula sheet given env v old before z out end
  unfolding translate
  connective-walks p =
      two-walks (formula_walk sheet given env)
      (formula_walk sheet given env)
      (λ f. regular-formula sheet (literals_of given) f (environment env)) (λ o x y. translate_connective o (x, y)) (λ o e f. refl)
      (λ o x y. regular-connective o (x, y)) λ f t. at-connective (again h f t) p

  pub quantifier-walks : {new out : List ℤ} {after end : Tape} {m : Literals} {z : Literal} {o : Quantifier} → node.symbol ≡ quantifier-symbol o
      → WalksBodies sheet given env node.b old before node.a m new after
      → (Emits (translate_quantifier o (range sheet (literals_of given) node.a (environment env)) (matrix_of m)
      after.next)
      new after z out end (λ n. Inside n z))
      → WalksFormula sheet given env v old before z out end
  unfolding translate
  quantifier-walks {o = o} p w c =
      record {
        walks = λ f t.
            let b = at-quantifier (again h f t) p in
            let n : ℕ = scope sheet (sort_of sheet node.a) in
            let s = body_walks sheet (literals_of given) b.body.it (environment env) node.a in
            let rs = regular-map (set_of n) s (regular-bodies sheet (literals_of given) b.body.it (environment env) node.a) in
            let atoms = range sheet (literals_of given) node.a (environment env) in
            rw b.is
            (emits-bind (set_of n <$> s) (translate_quantifier o atoms) rs (regular-quantifier o atoms)
            (w.walks b.body.it b.body.is) c);
      }
