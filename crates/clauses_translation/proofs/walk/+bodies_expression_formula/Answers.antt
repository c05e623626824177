-- The walk meets its contracts: at each node the operands' walks and the operator's own step put together (NodeWalks,
-- BodyWalks).
use borrow.Author.Rules.{rules}
use mathlib.Core.Path.{◌≡◌}
use mathlib.Core.List.{List}
use Prim.Native.Nat.{ℕ}
use native.Mathlib.Omega.{arith}
use mir.Syntax.{w32}
use mir.Val.{SFits}
use Rattle.literal.proofs.Signs.{back}
use Rattle.sheet_rules.specs.declared.Layout.{Layout}
use Rattle.sheet_rules.specs.Blocks.{sheet_of}
use Rattle.sheet_rules.specs.Reading.{accepted, reading}
use Rattle.sheet_rules.proofs.Acceptance.{accepted-facts}
use Rattle.nodes.specs.declared.forms.Node.{Node}
use Rattle.nodes.specs.Environments.{environment}
use Rattle.nodes.specs.Nodes.{node_at, IsExpression, IsFormula}
use Rattle.nodes.proofs.Views.{Reached, expression-low, formula-low}
use Rattle.nodes.proofs.ExpressionViews.{at_leaf, at-binary, at-unary, at-comprehension, expression-symbol}
use Rattle.nodes.proofs.FormulaViews.{at-comparison, at_test, at-negation, at-connective, at-quantifier}
use Rattle.nodes.proofs.FormulaViews.{formula-symbol}
use Rattle.clauses_emission.proofs.Ranges.{inside-grows, opposite-read}
use Rattle.clauses_emission.proofs.Steps.{emits-read}
use Rattle.clauses_matrix.proofs.Fills.{operand-grow}
use Rattle.clauses_translation.proofs.Walking.{finished, ready-after, both-finished}
use Rattle.clauses_translation.proofs.NodeWalks.{expression-over, leaf-walks, binary-walks, unary-walks}
use Rattle.clauses_translation.proofs.NodeWalks.{comprehension-walks, formula-over, comparison-walks, test-walks}
use Rattle.clauses_translation.proofs.NodeWalks.{negation-walks, connective-walks, quantifier-walks}
use Rattle.clauses_translation.proofs.BodyWalks.{done_none, done_more, done_all}
use Rattle.clauses_translation.proofs.walk.+bodies_expression_formula.Goals as goal

-- the node that the walk has read
module _ (s : List ℕ) (layout : Layout) (taken : reading s ≡ accepted layout) {v : ℕ} {node : Node}
    (e : node ≡ node_at (sheet_of s).nodes v) where
  expression_node : IsExpression (sheet_of s) v → Reached (sheet_of s) v node IsExpression
  expression_node i = record { facts = accepted-facts s layout taken; read = e; tree = i }

  formula_node : IsFormula (sheet_of s) v → Reached (sheet_of s) v node IsFormula
  formula_node i = record { facts = accepted-facts s layout taken; read = e; tree = i }

pub bodies-loop-i-init : goal.bodies-loop-i-init
bodies-loop-i-init t c = done_none _ _ _ _ _ _ _ c.requires.ready.bounded

pub bodies-formula-requires : goal.bodies-formula-requires
bodies-formula-requires t c =
    let r = c.requires in
    (omega (arith, c.decreases), (ready-after c.loop-i.invariant.walk r.formula r.ready, r.formula))

pub bodies-loop-i-preserved : goal.bodies-loop-i-preserved
bodies-loop-i-preserved t c =
    let l : SFits w32 c.formula.result = search rules in
    done_more _ _ _ _ _ _ _ c.loop-i.invariant c.bind.result c.formula.ensures c.bind.ensures
    (omega (arith, c.scope_of_variable-columns.ensures.1, c.loop-i-test.true)) (back _ l)

pub bodies-returns : goal.bodies-returns
bodies-returns t c =
    let n = c.scope_of_variable-columns.ensures in
    rw c.set.ensures
    (done_all _ _ _ _ _ _ _ c.loop-i.invariant n.0 (omega (arith, c.loop-i.auto.i-end, c.loop-i-test.false)) n.1)

pub expression-returns-then-tape-gt-LIMIT : goal.expression-returns-then-tape-gt-LIMIT
expression-returns-then-tape-gt-LIMIT t c =
    expression-over c.args.source.now.given.now c.args.env c.requires.ready.bounded c.if-tape-gt-LIMIT.true
    c.nothing.ensures

pub formula-returns-then-tape-gt-LIMIT : goal.formula-returns-then-tape-gt-LIMIT
formula-returns-then-tape-gt-LIMIT t c =
    formula-over c.args.source.now.given.now c.args.env c.requires.ready.bounded c.if-tape-gt-LIMIT.true

pub expression-read_node-node-requires : goal.expression-read_node-node-requires
expression-read_node-node-requires t c =
    expression-low (accepted-facts _ _ c.args.source.now.sheet.taken) c.requires.expression

pub formula-read_node-node-requires : goal.formula-read_node-node-requires
formula-read_node-node-requires t c =
    formula-low (accepted-facts _ _ c.args.source.now.sheet.taken) c.requires.formula

pub expression-apply_leaf-requires : goal.expression-apply_leaf-requires
expression-apply_leaf-requires t c =
    (at_leaf (expression_node _ _ c.args.source.now.sheet.taken c.read_node-node.ensures.0 c.requires.expression) c.in-Leaf.is).names

pub expression-expression-p-requires : goal.expression-expression-p-requires
expression-expression-p-requires t c =
    let b = at-binary (expression_node _ _ c.args.source.now.sheet.taken c.read_node-node.ensures.0 c.requires.expression)
    c.in-Binary.is in
    (omega (arith, b.lower_a, c.decreases), (c.requires.ready, b.left))

pub expression-expression-q-requires : goal.expression-expression-q-requires
expression-expression-q-requires t c =
    let b = at-binary (expression_node _ _ c.args.source.now.sheet.taken c.read_node-node.ensures.0 c.requires.expression)
    c.in-Binary.is in
    (omega (arith, b.lower_b, c.decreases), (ready-after c.expression-p.ensures b.left c.requires.ready, b.right))

pub expression-apply_binary-requires : goal.expression-apply_binary-requires
expression-apply_binary-requires t c =
    let b = at-binary (expression_node _ _ c.args.source.now.sheet.taken c.read_node-node.ensures.0 c.requires.expression)
    c.in-Binary.is in
    let e = both-finished c.expression-q.ensures b.right (λ _ _. operand-grow)
    (finished c.expression-p.ensures b.left).1 in
    record { bounded = e.0; operand = e.1.0; operand_2 = e.1.1 }

pub expression-expression-p-requires-in-Unary : goal.expression-expression-p-requires-in-Unary
expression-expression-p-requires-in-Unary t c =
    let b = at-unary (expression_node _ _ c.args.source.now.sheet.taken c.read_node-node.ensures.0 c.requires.expression) c.in-Unary.is
    in
    (omega (arith, b.lower_a, c.decreases), (c.requires.ready, b.left))

pub expression-apply_unary-requires : goal.expression-apply_unary-requires
expression-apply_unary-requires t c =
    let e = finished c.expression-p-in-Unary.ensures
    (at-unary (expression_node _ _ c.args.source.now.sheet.taken c.read_node-node.ensures.0 c.requires.expression) c.in-Unary.is).left in
    record { bounded = e.0; operand = e.1 }

pub expression-bodies-row-requires : goal.expression-bodies-row-requires
expression-bodies-row-requires t c =
    let b = at-comprehension (expression_node _ _ c.args.source.now.sheet.taken c.read_node-node.ensures.0 c.requires.expression)
    c.in-Comprehension.is in
    (omega (arith, b.lower_b, c.decreases), (c.requires.ready, (b.body, b.names)))

pub expression-comprehend-requires : goal.expression-comprehend-requires
expression-comprehend-requires t c =
    let b = at-comprehension (expression_node _ _ c.args.source.now.sheet.taken c.read_node-node.ensures.0 c.requires.expression)
    c.in-Comprehension.is in
    let r = ready-after c.bodies-row.ensures b.body c.requires.ready in
    record { bounded = r.bounded; fine = (finished c.bodies-row.ensures b.body).1; inside = r.inside }

pub expression-returns-in-Leaf : goal.expression-returns-in-Leaf
expression-returns-in-Leaf t c =
    leaf-walks c.args.source.now.given.now c.args.env (expression_node _ _ c.args.source.now.sheet.taken c.read_node-node.ensures.0
    c.requires.expression) c.in-Leaf.is
    c.requires.ready.bounded c.requires.ready.inside c.apply_leaf.ensures

pub expression-returns-in-Binary : goal.expression-returns-in-Binary
expression-returns-in-Binary t c =
    binary-walks c.args.source.now.given.now c.args.env (expression_node _ _ c.args.source.now.sheet.taken c.read_node-node.ensures.0
    c.requires.expression) c.in-Binary.is
    c.expression-p.ensures c.expression-q.ensures c.apply_binary.ensures

pub expression-returns-in-Unary : goal.expression-returns-in-Unary
expression-returns-in-Unary t c =
    unary-walks c.args.source.now.given.now c.args.env (expression_node _ _ c.args.source.now.sheet.taken c.read_node-node.ensures.0
    c.requires.expression) c.in-Unary.is
    c.expression-p-in-Unary.ensures c.apply_unary.ensures

pub expression-returns-in-Comprehension : goal.expression-returns-in-Comprehension
expression-returns-in-Comprehension t c =
    comprehension-walks c.args.source.now.given.now c.args.env
    (expression_node _ _ c.args.source.now.sheet.taken c.read_node-node.ensures.0 c.requires.expression) c.in-Comprehension.is
    c.bodies-row.ensures (c.comprehend.ensures (environment c.args.env))

pub formula-expression-p-requires : goal.formula-expression-p-requires
formula-expression-p-requires t c =
    let b = at-comparison (formula_node _ _ c.args.source.now.sheet.taken c.read_node-node.ensures.0 c.requires.formula)
    c.in-Comparison.is in
    (omega (arith, b.lower_a, c.decreases), (c.requires.ready, b.left))

pub formula-expression-q-requires : goal.formula-expression-q-requires
formula-expression-q-requires t c =
    let b = at-comparison (formula_node _ _ c.args.source.now.sheet.taken c.read_node-node.ensures.0 c.requires.formula)
    c.in-Comparison.is in
    (omega (arith, b.lower_b, c.decreases), (ready-after c.expression-p.ensures b.left c.requires.ready, b.right))

pub formula-apply_comparison-requires : goal.formula-apply_comparison-requires
formula-apply_comparison-requires t c =
    let b = at-comparison (formula_node _ _ c.args.source.now.sheet.taken c.read_node-node.ensures.0 c.requires.formula)
    c.in-Comparison.is in
    let e = both-finished c.expression-q.ensures b.right (λ _ _. operand-grow)
    (finished c.expression-p.ensures b.left).1 in
    record { bounded = e.0; operand = e.1.0; operand_2 = e.1.1 }

pub formula-expression-p-requires-in-Test : goal.formula-expression-p-requires-in-Test
formula-expression-p-requires-in-Test t c =
    let b = at_test (formula_node _ _ c.args.source.now.sheet.taken c.read_node-node.ensures.0 c.requires.formula) c.in-Test.is in
    (omega (arith, b.lower_a, c.decreases), (c.requires.ready, b.left))

pub formula-apply_test-requires : goal.formula-apply_test-requires
formula-apply_test-requires t c =
    let e = finished c.expression-p-in-Test.ensures
    (at_test (formula_node _ _ c.args.source.now.sheet.taken c.read_node-node.ensures.0 c.requires.formula) c.in-Test.is).left in
    record { bounded = e.0; operand = e.1 }

pub formula-formula-requires : goal.formula-formula-requires
formula-formula-requires t c =
    let b = at-negation (formula_node _ _ c.args.source.now.sheet.taken c.read_node-node.ensures.0 c.requires.formula) c.in-Negation.is
    in
    (omega (arith, b.lower_a, c.decreases), (c.requires.ready, b.left))

pub formula-formula-p-requires : goal.formula-formula-p-requires
formula-formula-p-requires t c =
    let b = at-connective (formula_node _ _ c.args.source.now.sheet.taken c.read_node-node.ensures.0 c.requires.formula)
    c.in-Connective.is in
    (omega (arith, b.lower_a, c.decreases), (c.requires.ready, b.left))

pub formula-formula-q-requires : goal.formula-formula-q-requires
formula-formula-q-requires t c =
    let b = at-connective (formula_node _ _ c.args.source.now.sheet.taken c.read_node-node.ensures.0 c.requires.formula)
    c.in-Connective.is in
    (omega (arith, b.lower_b, c.decreases), (ready-after c.formula-p.ensures b.left c.requires.ready, b.right))

pub formula-apply_connective-requires : goal.formula-apply_connective-requires
formula-apply_connective-requires t c =
    let b = at-connective (formula_node _ _ c.args.source.now.sheet.taken c.read_node-node.ensures.0 c.requires.formula)
    c.in-Connective.is in
    let e = both-finished c.formula-q.ensures b.right (λ _ _. inside-grows) (finished c.formula-p.ensures b.left).1 in
    record {
      bounded = e.0;
      inside = rw (back c.formula-p.result (search rules)) e.1.0;
      inside_2 = rw (back c.formula-q.result (search rules)) e.1.1;
    }

pub formula-bodies-row-requires : goal.formula-bodies-row-requires
formula-bodies-row-requires t c =
    let b = at-quantifier (formula_node _ _ c.args.source.now.sheet.taken c.read_node-node.ensures.0 c.requires.formula)
    c.in-Quantifier.is in
    (omega (arith, b.lower_b, c.decreases), (c.requires.ready, (b.body, b.names)))

pub formula-apply_quantifier-requires : goal.formula-apply_quantifier-requires
formula-apply_quantifier-requires t c =
    let b = at-quantifier (formula_node _ _ c.args.source.now.sheet.taken c.read_node-node.ensures.0 c.requires.formula)
    c.in-Quantifier.is in
    let r = ready-after c.bodies-row.ensures b.body c.requires.ready in
    record { bounded = r.bounded; fine = (finished c.bodies-row.ensures b.body).1; inside = r.inside }

pub formula-returns-in-Comparison : goal.formula-returns-in-Comparison
formula-returns-in-Comparison t c =
    comparison-walks c.args.source.now.given.now c.args.env
    (formula_node _ _ c.args.source.now.sheet.taken c.read_node-node.ensures.0 c.requires.formula) c.in-Comparison.is
    c.expression-p.ensures c.expression-q.ensures (emits-read (search rules) c.apply_comparison.ensures)

pub formula-returns-in-Test : goal.formula-returns-in-Test
formula-returns-in-Test t c =
    test-walks c.args.source.now.given.now c.args.env (formula_node _ _ c.args.source.now.sheet.taken c.read_node-node.ensures.0
    c.requires.formula) c.in-Test.is
    c.expression-p-in-Test.ensures (emits-read (search rules) c.apply_test.ensures)

pub formula-returns-in-Negation : goal.formula-returns-in-Negation
formula-returns-in-Negation t c =
    let node = formula_node _ _ c.args.source.now.sheet.taken c.read_node-node.ensures.0 c.requires.formula in
    let e = finished c.formula.ensures (at-negation node c.in-Negation.is).left in
    negation-walks c.args.source.now.given.now c.args.env node c.in-Negation.is c.formula.ensures
    (opposite-read _ c.formula.result c.opposite.result e.0.last (search rules) e.1 c.opposite.ensures
    (record { sfits = c.opposite.type_inv }))

pub formula-returns-in-Connective : goal.formula-returns-in-Connective
formula-returns-in-Connective t c =
    connective-walks c.args.source.now.given.now c.args.env
    (formula_node _ _ c.args.source.now.sheet.taken c.read_node-node.ensures.0 c.requires.formula) c.in-Connective.is
    c.formula-p.ensures c.formula-q.ensures
    (emits-read (search rules)
    (rw (back c.formula-p.result (search rules), back c.formula-q.result (search rules)) at c.apply_connective.ensures))

pub formula-returns-in-Quantifier : goal.formula-returns-in-Quantifier
formula-returns-in-Quantifier t c =
    quantifier-walks c.args.source.now.given.now c.args.env
    (formula_node _ _ c.args.source.now.sheet.taken c.read_node-node.ensures.0 c.requires.formula) c.in-Quantifier.is
    c.bodies-row.ensures (emits-read (search rules) (c.apply_quantifier.ensures (environment c.args.env)))

pub expression-unreachable-requires : goal.expression-unreachable-requires
expression-unreachable-requires t c =
    let d = c.in_default in
    expression-symbol (expression_node _ _ c.args.source.now.sheet.taken c.read_node-node.ensures.0 c.requires.expression)
    d.not-Leaf d.not-Binary d.not-Unary d.not-Comprehension

pub formula-unreachable-requires : goal.formula-unreachable-requires
formula-unreachable-requires t c =
    let d = c.in_default in
    formula-symbol (formula_node _ _ c.args.source.now.sheet.taken c.read_node-node.ensures.0 c.requires.formula)
    d.not-Comparison d.not-Test d.not-Negation d.not-Connective d.not-Quantifier
