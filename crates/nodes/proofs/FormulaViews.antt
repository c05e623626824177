-- What the form of a node says of it where its tree is a formula.
use mathlib.Core.Path.{◌≡◌, refl, sym}
use Prim.Native.Nat.{ℕ}
use Rattle.sheet_rules.specs.Blocks.{Sheet, kind, field_a, field_b}
use Rattle.sheet_rules.specs.Facts.{Facts}
use Rattle.relational.specs.Trees.{Formula, comparison, test, negation, connective, quantified, expression, formula}
use Rattle.relational.specs.Trees.{symbol_of}
use Rattle.relational.specs.declared.Comparison.{Comparison}
use Rattle.relational.specs.declared.Test.{Test}
use Rattle.relational.specs.declared.Connective.{Connective}
use Rattle.relational.specs.declared.Quantifier.{Quantifier}
use Rattle.relational.specs.declared.Symbol.{Symbol}
use Rattle.relational.specs.declared.Symbol.TheVariants.{Leaf as leaf-symbol, Binary as binary-symbol}
use Rattle.relational.specs.declared.Symbol.TheVariants.{Unary as unary-symbol, Comparison as comparison-symbol}
use Rattle.relational.specs.declared.Symbol.TheVariants.{Test as test-symbol, Connective as connective-symbol}
use Rattle.relational.specs.declared.Symbol.TheVariants.{Quantifier as quantifier-symbol}
use Rattle.relational.specs.declared.Symbol.TheVariants.{Comprehension as comprehension-symbol}
use Rattle.relational.specs.declared.Symbol.TheVariants.{Negation as negation-symbol, Unknown as unknown-symbol}
use Rattle.nodes.specs.declared.forms.Node.{Node}
use Rattle.nodes.specs.Nodes.{node_at, IsFormula}
use Rattle.nodes.proofs.Views.{Reached, TwoAt, OneAt, BodyAt, expressions, formulas, no_both}
use Rattle.nodes.proofs.Views.{field-a, field-b, grown, grows_from, two_at, one_at, body_at}

module _ (sheet : Sheet) (v : ℕ) (node : Node) where
  abbrev pub ComparisonAt : Comparison → Formula → Type 0
  ComparisonAt = TwoAt sheet v node expression comparison

  abbrev pub TestAt : Test → Formula → Type 0
  TestAt = OneAt sheet v node expression test

  -- the one operator of its form
  abbrev pub NegationAt : Formula → Type 0
  NegationAt = OneAt sheet v node {O = Unit {0}} formula (λ o. negation) tt

  abbrev pub ConnectiveAt : Connective → Formula → Type 0
  ConnectiveAt = TwoAt sheet v node formula connective

  abbrev pub QuantifierAt : Quantifier → Formula → Type 0
  QuantifierAt = BodyAt sheet v node formula quantified

  -- what a symbol says of the node
  abbrev FormulaView : Formula → Symbol → Type 0
  FormulaView f (comparison-symbol o) = ComparisonAt o f
  FormulaView f (test-symbol o) = TestAt o f
  FormulaView f (connective-symbol o) = ConnectiveAt o f
  FormulaView f (quantifier-symbol o) = QuantifierAt o f
  FormulaView f negation-symbol = NegationAt f
  FormulaView f (leaf-symbol l) = ⊥
  FormulaView f (binary-symbol o) = ⊥
  FormulaView f (unary-symbol o) = ⊥
  FormulaView f comprehension-symbol = ⊥
  FormulaView f unknown-symbol = ⊥

module _ {sheet : Sheet} {v : ℕ} (fine : Facts sheet) (tree : IsFormula sheet v) where
  formula-by : (s : Symbol) → symbol_of (kind sheet v) ≡ s → FormulaView sheet v (node_at sheet.nodes v) tree.it s
  formula-by (leaf-symbol l) q = no_both _ _ (sym (grown formulas fine tree q))
  formula-by (binary-symbol o) q =
      let t = grows_from formulas fine tree expressions (field_a sheet v) _ (grown formulas fine tree q) in
      let u = grows_from formulas fine tree expressions (field_b sheet v) _ t.grown in
      no_both _ _ (sym u.grown)
  formula-by (unary-symbol o) q =
      no_both _ _ (sym (grows_from formulas fine tree expressions (field_a sheet v) _ (grown formulas fine tree q)).grown)
  formula-by (comparison-symbol o) q =
      two_at formulas fine tree expressions o comparison
      (field-a formulas fine tree q) (field-b formulas fine tree q) (grown formulas fine tree q)
  formula-by (test-symbol o) q =
      one_at formulas fine tree expressions o test (field-a formulas fine tree q) (grown formulas fine tree q)
  formula-by (connective-symbol o) q =
      two_at formulas fine tree formulas o connective
      (field-a formulas fine tree q) (field-b formulas fine tree q) (grown formulas fine tree q)
  formula-by (quantifier-symbol o) q =
      body_at formulas fine tree formulas o quantified
      (field-a formulas fine tree q) (field-b formulas fine tree q) (grown formulas fine tree q)
  formula-by comprehension-symbol q =
      no_both _ _ (sym (grows_from formulas fine tree formulas (field_b sheet v) _ (grown formulas fine tree q)).grown)
  formula-by negation-symbol q =
      one_at formulas fine tree formulas tt (λ o. negation)
      (field-a formulas fine tree q) (grown formulas fine tree q)
  formula-by unknown-symbol q = absurd (formulas.whole tree.it (sym (grown formulas fine tree q)))

module _ {sheet : Sheet} {v : ℕ} {node : Node} (h : Reached sheet v node IsFormula) where
  view : (s : Symbol) → node.symbol ≡ s → FormulaView sheet v node h.tree.it s
  view s p =
      let q : symbol_of (kind sheet v) ≡ s = rw h.read at p in
      rw h.read (formula-by h.facts h.tree s q)

  pub at-comparison : {o : Comparison} → node.symbol ≡ comparison-symbol o → ComparisonAt sheet v node o h.tree.it
  at-comparison {o} p = view (comparison-symbol o) p

  pub at_test : {o : Test} → node.symbol ≡ test-symbol o → TestAt sheet v node o h.tree.it
  at_test {o} p = view (test-symbol o) p

  pub at-negation : node.symbol ≡ negation-symbol → NegationAt sheet v node h.tree.it
  at-negation p = view negation-symbol p

  pub at-connective : {o : Connective} → node.symbol ≡ connective-symbol o → ConnectiveAt sheet v node o h.tree.it
  at-connective {o} p = view (connective-symbol o) p

  pub at-quantifier : {o : Quantifier} → node.symbol ≡ quantifier-symbol o → QuantifierAt sheet v node o h.tree.it
  at-quantifier {o} p = view (quantifier-symbol o) p

  -- a formula has one of these five
  pub formula-symbol : {A : Type 0} → ((o : Comparison) → node.symbol ≡ comparison-symbol o → A) → ((o : Test) → node.symbol ≡ test-symbol o → A)
      → (node.symbol ≡ negation-symbol → A) → ((o : Connective) → node.symbol ≡ connective-symbol o → A)
      → ((o : Quantifier) → node.symbol ≡ quantifier-symbol o → A) → A
  formula-symbol {A} c t n k q = go node.symbol refl
    where
      go : (s : Symbol) → node.symbol ≡ s → A
      go (comparison-symbol o) p = c o p
      go (test-symbol o) p = t o p
      go negation-symbol p = n p
      go (connective-symbol o) p = k o p
      go (quantifier-symbol o) p = q o p
      go (leaf-symbol x) p = absurd (view (leaf-symbol x) p)
      go (binary-symbol o) p = absurd (view (binary-symbol o) p)
      go (unary-symbol o) p = absurd (view (unary-symbol o) p)
      go comprehension-symbol p = absurd (view comprehension-symbol p)
      go unknown-symbol p = absurd (view unknown-symbol p)
