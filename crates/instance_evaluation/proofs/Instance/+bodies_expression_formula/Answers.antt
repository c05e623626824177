use mathlib.Core.Path.{◌≡◌, ap}
use mathlib.Core.Bool.{Bool}
use mathlib.Core.List.{map}
use Prim.Native.Nat.{ℕ, ◌<◌}
use native.Mathlib.Omega.{arith}
use Rattle.sheet_rules.specs.Blocks.{Sheet, sheet_of}
use Rattle.relational.specs.Matrices.{set_of, upto}
use Rattle.relational.specs.Meaning.{bind}
use Rattle.nodes.specs.declared.forms.Node.{Node}
use Rattle.nodes.specs.Environments.{environment}
use Rattle.nodes.specs.Nodes.{node_at, tree_at, IsExpression, IsFormula}
use Rattle.nodes.proofs.Views.{expression-low, formula-low, Reached}
use Rattle.nodes.proofs.ExpressionViews.{at_leaf, at-binary, at-unary, at-comprehension, expression-symbol}
use Rattle.nodes.proofs.FormulaViews.{at-comparison, at_test, at-negation, at-connective, at-quantifier}
use Rattle.nodes.proofs.FormulaViews.{formula-symbol}
use Rattle.instance_matrix.proofs.Filling.{filled_none}
use Rattle.instance_matrix.proofs.Results.{gives_as, upto-law}
use Rattle.instance_evaluation.specs.declared.Instance.{Instance}
use Rattle.instance_evaluation.specs.Walking.{truth_in_tree}
use Rattle.instance_evaluation.proofs.Layouts.{facts-of}
use Rattle.instance_evaluation.proofs.Steps.{leaf-value, binary-value, unary-value, comprehension-value}
use Rattle.instance_evaluation.proofs.Steps.{comparison-truth, test-truth, negation-truth, connective-truth}
use Rattle.instance_evaluation.proofs.Steps.{quantifier-truth}
use Rattle.instance_evaluation.proofs.Instance.+bodies_expression_formula.Goals as goal

-- ---- 2.2.6: the bodies of a binder
pub bodies-loop-k-init : goal.bodies-loop-k-init
bodies-loop-k-init t c = filled_none _

pub bodies-returns : goal.bodies-returns
bodies-returns t c =
    let i = c.args.self.now in
    let n = c.scope_of_variable-n in
    let f : ℕ → Bool
    = λ j. truth_in_tree (sheet_of i.sheet.bytes.now) i.cells.now (bind (environment c.args.env) c.args.x j)
    (tree_at (sheet_of i.sheet.bytes.now) c.args.at) in
    gives_as _ _ _ (ap (λ (m : ℕ). set_of m (map f (upto m))) n.ensures.0)
    (upto-law n.result f c.loop-k.cells c.loop-k.k (omega arith) n.ensures.1 c.loop-k.invariant)

-- the node that the walk has read
module _ (Is : Sheet → ℕ → Type 0) (i : Instance) where
  reached : {at : ℕ} {node : Node} → Is (sheet_of i.sheet.bytes.now) at
      → (node ≡ node_at (sheet_of i.sheet.bytes.now).nodes at) × (node.a < 256)
      → Reached (sheet_of i.sheet.bytes.now) at node Is
  reached p e = record { facts = facts-of i; read = e.0; tree = p }

pub expression-read_node-node-requires : goal.expression-read_node-node-requires
expression-read_node-node-requires t c = expression-low (facts-of c.args.self.now) c.requires

pub expression-leaf-requires : goal.expression-leaf-requires
expression-leaf-requires t c =
    (at_leaf (reached IsExpression c.args.self.now c.requires c.read_node-node.ensures) c.in-Leaf.is).names

pub expression-returns-in-Leaf : goal.expression-returns-in-Leaf
expression-returns-in-Leaf t c =
    let h = reached IsExpression c.args.self.now c.requires c.read_node-node.ensures in
    leaf-value h _ _ c.in-Leaf.is c.leaf.ensures

pub expression-expression-p-requires : goal.expression-expression-p-requires
expression-expression-p-requires t c =
    let b = at-binary (reached IsExpression c.args.self.now c.requires c.read_node-node.ensures) c.in-Binary.is in
    (omega (arith, b.lower_a), b.left)

pub expression-expression-q-requires : goal.expression-expression-q-requires
expression-expression-q-requires t c =
    let b = at-binary (reached IsExpression c.args.self.now c.requires c.read_node-node.ensures) c.in-Binary.is in
    (omega (arith, b.lower_b), b.right)

pub expression-returns-in-Binary : goal.expression-returns-in-Binary
expression-returns-in-Binary t c =
    let h = reached IsExpression c.args.self.now c.requires c.read_node-node.ensures in
    binary-value h _ _ c.in-Binary.is c.expression-p.ensures c.expression-q.ensures c.apply_binary.ensures

pub expression-expression-requires : goal.expression-expression-requires
expression-expression-requires t c =
    let b = at-unary (reached IsExpression c.args.self.now c.requires c.read_node-node.ensures) c.in-Unary.is in
    (omega (arith, b.lower_a), b.left)

pub expression-returns-in-Unary : goal.expression-returns-in-Unary
expression-returns-in-Unary t c =
    let h = reached IsExpression c.args.self.now c.requires c.read_node-node.ensures in
    unary-value h _ _ c.in-Unary.is c.expression.ensures c.apply_unary.ensures

pub expression-bodies-row-requires : goal.expression-bodies-row-requires
expression-bodies-row-requires t c =
    let h = reached IsExpression c.args.self.now c.requires c.read_node-node.ensures in
    let b = at-comprehension h c.in-Comprehension.is in
    (omega (arith, b.lower_b), (b.body, b.names))

pub expression-returns-in-Comprehension : goal.expression-returns-in-Comprehension
expression-returns-in-Comprehension t c =
    let h = reached IsExpression c.args.self.now c.requires c.read_node-node.ensures in
    comprehension-value h _ _ c.in-Comprehension.is c.bodies-row.ensures (c.comprehend.ensures (environment c.args.env))

pub expression-unreachable-requires : goal.expression-unreachable-requires
expression-unreachable-requires t c =
    let h = reached IsExpression c.args.self.now c.requires c.read_node-node.ensures in
    let d = c.in_default in
    expression-symbol h d.not-Leaf d.not-Binary d.not-Unary d.not-Comprehension

pub formula-read_node-node-requires : goal.formula-read_node-node-requires
formula-read_node-node-requires t c = formula-low (facts-of c.args.self.now) c.requires

pub formula-expression-p-requires : goal.formula-expression-p-requires
formula-expression-p-requires t c =
    let b = at-comparison (reached IsFormula c.args.self.now c.requires c.read_node-node.ensures) c.in-Comparison.is in
    (omega (arith, b.lower_a), b.left)

pub formula-expression-q-requires : goal.formula-expression-q-requires
formula-expression-q-requires t c =
    let b = at-comparison (reached IsFormula c.args.self.now c.requires c.read_node-node.ensures) c.in-Comparison.is in
    (omega (arith, b.lower_b), b.right)

pub formula-returns-in-Comparison : goal.formula-returns-in-Comparison
formula-returns-in-Comparison t c =
    let h = reached IsFormula c.args.self.now c.requires c.read_node-node.ensures in
    comparison-truth h _ _ c.in-Comparison.is c.expression-p.ensures c.expression-q.ensures c.apply_comparison.ensures

pub formula-expression-requires : goal.formula-expression-requires
formula-expression-requires t c =
    let b = at_test (reached IsFormula c.args.self.now c.requires c.read_node-node.ensures) c.in-Test.is in
    (omega (arith, b.lower_a), b.left)

pub formula-returns-in-Test : goal.formula-returns-in-Test
formula-returns-in-Test t c =
    let h = reached IsFormula c.args.self.now c.requires c.read_node-node.ensures in
    test-truth h _ _ c.in-Test.is c.expression.ensures c.apply_test.ensures

pub formula-formula-requires : goal.formula-formula-requires
formula-formula-requires t c =
    let b = at-negation (reached IsFormula c.args.self.now c.requires c.read_node-node.ensures) c.in-Negation.is in
    (omega (arith, b.lower_a), b.left)

pub formula-returns-in-Negation : goal.formula-returns-in-Negation
formula-returns-in-Negation t c =
    let h = reached IsFormula c.args.self.now c.requires c.read_node-node.ensures in
    negation-truth h _ _ c.in-Negation.is c.formula.ensures

pub formula-formula-p-requires : goal.formula-formula-p-requires
formula-formula-p-requires t c =
    let b = at-connective (reached IsFormula c.args.self.now c.requires c.read_node-node.ensures) c.in-Connective.is in
    (omega (arith, b.lower_a), b.left)

pub formula-formula-q-requires : goal.formula-formula-q-requires
formula-formula-q-requires t c =
    let b = at-connective (reached IsFormula c.args.self.now c.requires c.read_node-node.ensures) c.in-Connective.is in
    (omega (arith, b.lower_b), b.right)

pub formula-returns-in-Connective : goal.formula-returns-in-Connective
formula-returns-in-Connective t c =
    let h = reached IsFormula c.args.self.now c.requires c.read_node-node.ensures in
    connective-truth h _ _ c.in-Connective.is c.formula-p.ensures c.formula-q.ensures c.apply_connective.ensures

pub formula-bodies-row-requires : goal.formula-bodies-row-requires
formula-bodies-row-requires t c =
    let h = reached IsFormula c.args.self.now c.requires c.read_node-node.ensures in
    let b = at-quantifier h c.in-Quantifier.is in
    (omega (arith, b.lower_b), (b.body, b.names))

pub formula-returns-in-Quantifier : goal.formula-returns-in-Quantifier
formula-returns-in-Quantifier t c =
    let h = reached IsFormula c.args.self.now c.requires c.read_node-node.ensures in
    quantifier-truth h _ _ c.in-Quantifier.is c.bodies-row.ensures (c.quantify_over.ensures (environment c.args.env))

pub formula-unreachable-requires : goal.formula-unreachable-requires
formula-unreachable-requires t c =
    let h = reached IsFormula c.args.self.now c.requires c.read_node-node.ensures in
    let d = c.in_default in
    formula-symbol h d.not-Comparison d.not-Test d.not-Negation d.not-Connective d.not-Quantifier
