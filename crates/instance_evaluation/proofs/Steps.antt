-- What a node gives, from what its operands give: a lemma for each form.
use mathlib.Core.Path.{◌≡◌, refl, ap, ◌∙◌}
use mathlib.Core.Bool.{Bool, not}
use mathlib.Core.List.{List}
use Prim.Native.Nat.{ℕ}
use lib.ListN.{replicate}
use Rattle.sheet_rules.specs.Blocks.{Sheet}
use Rattle.relational.specs.Trees.{Tree, expression, formula, broken}
use Rattle.relational.specs.declared.Leaf.{Leaf}
use Rattle.relational.specs.declared.Binary.{Binary}
use Rattle.relational.specs.declared.Unary.{Unary}
use Rattle.relational.specs.declared.Comparison.{Comparison}
use Rattle.relational.specs.declared.Test.{Test}
use Rattle.relational.specs.declared.Connective.{Connective}
use Rattle.relational.specs.declared.Quantifier.{Quantifier}
use Rattle.relational.specs.declared.Binary.TheVariants.{Intersection as intersection}
use Rattle.relational.specs.declared.Symbol.TheVariants.{Leaf as leaf-symbol, Binary as binary-symbol}
use Rattle.relational.specs.declared.Symbol.TheVariants.{Unary as unary-symbol, Comparison as comparison-symbol}
use Rattle.relational.specs.declared.Symbol.TheVariants.{Test as test-symbol, Connective as connective-symbol}
use Rattle.relational.specs.declared.Symbol.TheVariants.{Quantifier as quantifier-symbol, Comprehension as comprehension-symbol}
use Rattle.relational.specs.declared.Symbol.TheVariants.{Negation as negation-symbol}
use Rattle.relational.specs.Matrices.{Matrix}
use Rattle.relational.specs.Meaning.{Environment}
use Rattle.relational.specs.Evaluation.{value_binary, value_unary, truth_comparison, truth_test, truth_connective, truth_quantifier}
use Rattle.relational.specs.Evaluation.{value_of, value_leaf, range, truth_of_tree}
use Rattle.nodes.specs.declared.forms.Node.{Node}
use Rattle.nodes.specs.Environments.{environment}
use Rattle.nodes.specs.Nodes.{tree_at, IsExpression, IsFormula}
use Rattle.nodes.proofs.Binding.{zero-atoms}
use Rattle.nodes.proofs.Views.{Reached}
use Rattle.nodes.proofs.ExpressionViews.{at_leaf, at-binary, at-unary, at-comprehension}
use Rattle.nodes.proofs.FormulaViews.{at-comparison, at_test, at-negation, at-connective, at-quantifier}
use Rattle.instance_matrix.specs.Values.{Value, Gives, matrix_of}
use Rattle.instance_matrix.proofs.Results.{gives_as}
use Rattle.instance_evaluation.specs.Walking.{value_of_tree, truth_in_tree, bodies_of}

-- ---- 2.2.1 to 2.2.5: expressions
module _ {sheet : Sheet} {v : ℕ} {node : Node} (h : Reached sheet v node IsExpression) where
  module _ (instance : List ℕ) (env : Environment) where
    abbrev value : ℕ → Matrix Bool
    value w = value_of_tree sheet instance env (tree_at sheet w)

    pub leaf-value : {r : Value} {l : Leaf} → node.symbol ≡ leaf-symbol l
        → Gives r (value_leaf sheet instance l node.a env) → Gives r (value v)
    unfolding value_of_tree value_of
    leaf-value p g = rw (h.tree.is, (at_leaf h p).is) g

    pub binary-value : {p q r : Value} {o : Binary} → node.symbol ≡ binary-symbol o → Gives p (value node.a) → Gives q (value node.b)
        → Gives r (value_binary o (matrix_of p) (matrix_of q)) → Gives r (value v)
    unfolding value_of_tree value_of
    binary-value e i j g =
        let b = at-binary h e in
        rw (h.tree.is, b.is)
        (rw (i.is, j.is, b.left.is, b.right.is) at g)

    pub unary-value : {p r : Value} {o : Unary} → node.symbol ≡ unary-symbol o → Gives p (value node.a)
        → Gives r (value_unary o (matrix_of p)) → Gives r (value v)
    unfolding value_of_tree value_of
    unary-value e i g =
        let b = at-unary h e in
        rw (h.tree.is, b.is) (rw (i.is, b.left.is) at g)

    pub comprehension-value : {p r : Value} → node.symbol ≡ comprehension-symbol
        → Gives p (bodies_of sheet instance env (tree_at sheet node.b) node.a)
        → Gives r (value_binary intersection (range sheet instance node.a env) (matrix_of p)) → Gives r (value v)
    unfolding value_of_tree truth_in_tree value_of
    comprehension-value {r} e i g =
        let b = at-comprehension h e in
        let bound = ap (λ (m : Matrix Bool). value_binary intersection (range sheet instance node.a env) m) i.is in
        rw (h.tree.is, b.is) (rw b.body.is at (gives_as r _ _ bound g))

-- ---- 2.2.6: formulas
module _ {sheet : Sheet} {v : ℕ} {node : Node} (h : Reached sheet v node IsFormula) where
  module _ (instance : List ℕ) (env : Environment) where
    abbrev operand : ℕ → Matrix Bool
    operand w = value_of_tree sheet instance env (tree_at sheet w)

    abbrev truth : ℕ → Bool
    truth w = truth_in_tree sheet instance env (tree_at sheet w)

    pub comparison-truth : {p q : Value} {r : Bool} {o : Comparison} → node.symbol ≡ comparison-symbol o → Gives p (operand node.a)
        → Gives q (operand node.b)
        → r ≡ truth_comparison o (matrix_of p) (matrix_of q) → r ≡ truth v
    unfolding value_of_tree truth_in_tree value_of
    comparison-truth e i j g =
        let b = at-comparison h e in
        rw (h.tree.is, b.is) (rw (i.is, j.is, b.left.is, b.right.is) at g)

    pub test-truth : {p : Value} {r : Bool} {o : Test} → node.symbol ≡ test-symbol o → Gives p (operand node.a)
        → r ≡ truth_test o (matrix_of p).cells → r ≡ truth v
    unfolding value_of_tree truth_in_tree value_of
    test-truth {o = o} e i g =
        let b = at_test h e in
        rw (h.tree.is, b.is)
        (rw b.left.is at (g ∙ ap (λ (m : Matrix Bool). truth_test o m.cells) i.is))

    pub negation-truth : {f : Bool} → node.symbol ≡ negation-symbol → f ≡ truth node.a → not f ≡ truth v
    unfolding truth_in_tree value_of
    negation-truth e i = let b = at-negation h e in rw (i, h.tree.is, b.is, b.left.is)

    pub connective-truth : {f g r : Bool} {o : Connective} → node.symbol ≡ connective-symbol o → f ≡ truth node.a → g ≡ truth node.b
        → r ≡ truth_connective o f g → r ≡ truth v
    unfolding truth_in_tree value_of
    connective-truth e i j k =
        let b = at-connective h e in
        rw (h.tree.is, b.is) (rw (i, j, b.left.is, b.right.is) at k)

    pub quantifier-truth : {p : Value} {r : Bool} {o : Quantifier} → node.symbol ≡ quantifier-symbol o
        → Gives p (bodies_of sheet instance env (tree_at sheet node.b) node.a)
        → r ≡ truth_quantifier o (range sheet instance node.a env) (matrix_of p) → r ≡ truth v
    unfolding truth_in_tree value_of
    quantifier-truth {o = o} e i g =
        let b = at-quantifier h e in
        let bound = ap (λ (m : Matrix Bool). truth_quantifier o (range sheet instance node.a env) m) i.is in
        rw (h.tree.is, b.is) (rw b.body.is at (g ∙ bound))

-- the walk of the root starts with atom 0 for each variable
pub root-truth : (sheet : Sheet) (instance : List ℕ) (t : Tree)
    → truth_in_tree sheet instance (environment (replicate 4 0)) t ≡ truth_of_tree sheet instance t
unfolding truth_in_tree
root-truth sheet instance (expression e) = refl
root-truth sheet instance (formula f) = ap (λ env. truth_in_tree sheet instance env (formula f)) zero-atoms
root-truth sheet instance broken = refl
