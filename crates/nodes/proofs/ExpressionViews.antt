-- What the form of a node says of it where its tree is an expression.
use mathlib.Core.Path.{◌≡◌, refl, sym}
use Prim.Native.Nat.{ℕ, ◌<◌}
use borrow.Author.Tests.{ltb-true}
use Rattle.sheet_rules.specs.Blocks.{Sheet, relation_count, kind, field_a, field_b}
use Rattle.sheet_rules.specs.Facts.{Facts}
use Rattle.relational.specs.Trees.{Expression, leaf, binary, unary, comprehension, expression, formula, symbol_of}
use Rattle.relational.specs.declared.Leaf.{Leaf}
use Rattle.relational.specs.declared.Binary.{Binary}
use Rattle.relational.specs.declared.Unary.{Unary}
use Rattle.relational.specs.declared.Symbol.{Symbol}
use Rattle.relational.specs.declared.Leaf.TheVariants.{Relation as relation, Variable as variable, Atoms as atoms}
use Rattle.relational.specs.declared.Leaf.TheVariants.{Identity as identity}
use Rattle.relational.specs.declared.Binary.TheVariants.{Union as union, Intersection as intersection}
use Rattle.relational.specs.declared.Binary.TheVariants.{Difference as difference, Join as join, Product as product}
use Rattle.relational.specs.declared.Unary.TheVariants.{Inverse as inverse, Closure as closure}
use Rattle.relational.specs.declared.Symbol.TheVariants.{Leaf as leaf-symbol, Binary as binary-symbol}
use Rattle.relational.specs.declared.Symbol.TheVariants.{Unary as unary-symbol, Comparison as comparison-symbol}
use Rattle.relational.specs.declared.Symbol.TheVariants.{Test as test-symbol, Connective as connective-symbol}
use Rattle.relational.specs.declared.Symbol.TheVariants.{Quantifier as quantifier-symbol}
use Rattle.relational.specs.declared.Symbol.TheVariants.{Comprehension as comprehension-symbol}
use Rattle.relational.specs.declared.Symbol.TheVariants.{Negation as negation-symbol, Unknown as unknown-symbol}
use Rattle.nodes.specs.declared.forms.Node.{Node}
use Rattle.nodes.specs.Nodes.{node_at, IsExpression}
use Rattle.relational.proofs.Rows.{row_of_symbol}
use Rattle.kinds.specs.declared.Field.TheVariants.{Relation}
use Rattle.nodes.proofs.Views.{Reached, TwoAt, OneAt, BodyAt, expressions, formulas, no_both}
use Rattle.nodes.proofs.Views.{field-a, field-b, grown, grows_from, two_at, one_at, body_at}

module _ (sheet : Sheet) (v : ℕ) (node : Node) where
  pub record LeafAt (l : Leaf) (e : Expression) : Type 0 where
    pub names : l ≡ relation → node.a < relation_count sheet
    pub is : e ≡ leaf l node.a

  abbrev pub BinaryAt : Binary → Expression → Type 0
  BinaryAt = TwoAt sheet v node expression binary

  abbrev pub UnaryAt : Unary → Expression → Type 0
  UnaryAt = OneAt sheet v node expression unary

  -- the one operator that binds a variable
  abbrev pub ComprehensionAt : Expression → Type 0
  ComprehensionAt = BodyAt sheet v node {O = Unit {0}} formula (λ o. comprehension) tt

  -- what a symbol says of the node
  abbrev ExpressionView : Expression → Symbol → Type 0
  ExpressionView e (leaf-symbol l) = LeafAt l e
  ExpressionView e (binary-symbol o) = BinaryAt o e
  ExpressionView e (unary-symbol o) = UnaryAt o e
  ExpressionView e comprehension-symbol = ComprehensionAt e
  ExpressionView e (comparison-symbol o) = ⊥
  ExpressionView e (test-symbol o) = ⊥
  ExpressionView e (connective-symbol o) = ⊥
  ExpressionView e (quantifier-symbol o) = ⊥
  ExpressionView e negation-symbol = ⊥
  ExpressionView e unknown-symbol = ⊥

relation-field : (l : Leaf) → l ≡ relation → (row_of_symbol (leaf-symbol l)).a ≡ Relation
relation-field l e = rw e refl

module _ {sheet : Sheet} {v : ℕ} (fine : Facts sheet) (tree : IsExpression sheet v) where
  expression-by : (s : Symbol) → symbol_of (kind sheet v) ≡ s → ExpressionView sheet v (node_at sheet.nodes v) tree.it s
  expression-by (leaf-symbol l) q =
      record {
        names = λ e. ltb-true (field_a sheet v) (relation_count sheet)
            (rw (relation-field l e) at (field-a expressions fine tree q));
        is = expressions.same (grown expressions fine tree q);
      }
  expression-by (binary-symbol o) q =
      two_at expressions fine tree expressions o binary
      (field-a expressions fine tree q) (field-b expressions fine tree q) (grown expressions fine tree q)
  expression-by (unary-symbol o) q =
      one_at expressions fine tree expressions o unary (field-a expressions fine tree q) (grown expressions fine tree q)
  expression-by (comparison-symbol o) q =
      let t = grows_from expressions fine tree expressions (field_a sheet v) _ (grown expressions fine tree q) in
      let u = grows_from expressions fine tree expressions (field_b sheet v) _ t.grown in
      no_both _ _ u.grown
  expression-by (test-symbol o) q =
      no_both _ _ (grows_from expressions fine tree expressions (field_a sheet v) _ (grown expressions fine tree q)).grown
  expression-by (connective-symbol o) q =
      let t = grows_from expressions fine tree formulas (field_a sheet v) _ (grown expressions fine tree q) in
      let u = grows_from expressions fine tree formulas (field_b sheet v) _ t.grown in
      no_both _ _ u.grown
  expression-by (quantifier-symbol o) q =
      no_both _ _ (grows_from expressions fine tree formulas (field_b sheet v) _ (grown expressions fine tree q)).grown
  expression-by comprehension-symbol q =
      body_at expressions fine tree formulas tt (λ o. comprehension)
      (field-a expressions fine tree q) (field-b expressions fine tree q) (grown expressions fine tree q)
  expression-by negation-symbol q =
      no_both _ _ (grows_from expressions fine tree formulas (field_a sheet v) _ (grown expressions fine tree q)).grown
  expression-by unknown-symbol q = absurd (expressions.whole tree.it (sym (grown expressions fine tree q)))

module _ {sheet : Sheet} {v : ℕ} {node : Node} (h : Reached sheet v node IsExpression) where
  view : (s : Symbol) → node.symbol ≡ s → ExpressionView sheet v node h.tree.it s
  view s p =
      let q : symbol_of (kind sheet v) ≡ s = rw h.read at p in
      rw h.read (expression-by h.facts h.tree s q)

  pub at_leaf : {l : Leaf} → node.symbol ≡ leaf-symbol l → LeafAt sheet v node l h.tree.it
  at_leaf {l} p = view (leaf-symbol l) p

  pub at-binary : {o : Binary} → node.symbol ≡ binary-symbol o → BinaryAt sheet v node o h.tree.it
  at-binary {o} p = view (binary-symbol o) p

  pub at-unary : {o : Unary} → node.symbol ≡ unary-symbol o → UnaryAt sheet v node o h.tree.it
  at-unary {o} p = view (unary-symbol o) p

  pub at-comprehension : node.symbol ≡ comprehension-symbol → ComprehensionAt sheet v node h.tree.it
  at-comprehension p = view comprehension-symbol p

  -- an expression has one of these four
  pub expression-symbol : {A : Type 0} → ((l : Leaf) → node.symbol ≡ leaf-symbol l → A) → ((o : Binary) → node.symbol ≡ binary-symbol o → A)
      → ((o : Unary) → node.symbol ≡ unary-symbol o → A) → (node.symbol ≡ comprehension-symbol → A) → A
  expression-symbol {A} l b u k = go node.symbol refl
    where
      go : (s : Symbol) → node.symbol ≡ s → A
      go (leaf-symbol x) p = l x p
      go (binary-symbol o) p = b o p
      go (unary-symbol o) p = u o p
      go comprehension-symbol p = k p
      go (comparison-symbol o) p = absurd (view (comparison-symbol o) p)
      go (test-symbol o) p = absurd (view (test-symbol o) p)
      go (connective-symbol o) p = absurd (view (connective-symbol o) p)
      go (quantifier-symbol o) p = absurd (view (quantifier-symbol o) p)
      go negation-symbol p = absurd (view negation-symbol p)
      go unknown-symbol p = absurd (view unknown-symbol p)
