-- What the symbol of a node says of its fields, its tree, and the trees of the nodes that its fields name.
use mathlib.Core.Path.{◌≡◌, refl, sym, ◌∙◌}
use mathlib.Core.Bool.{true, false}
use mathlib.Core.Logic.{◌⊎◌, inl, inr}
use Prim.Native.Nat.{ℕ, ◌≤◌, ◌<◌}
use native.Mathlib.Omega.{arith}
use lib.Dec.{ltb}
use lib.ListN.{get_or, get_or-eq_default}
use borrow.Author.Tests.{ltb-true, ltb-false}
use Rattle.prelude.proofs.Laws.{decided}
use Rattle.sheet_rules.specs.Blocks.{Sheet, variable_count, node_count, kind, field_a, field_b}
use Rattle.sheet_rules.specs.Tables.{table}
use Rattle.sheet_rules.specs.Reading.{field_fine}
use Rattle.sheet_rules.specs.Facts.{Facts}
use Rattle.relational.specs.Trees.{Expression, Formula, symbol_of, Tree, expression, formula, broken, with_expression}
use Rattle.relational.specs.Trees.{with_formula, tree_by, tree_step, trees}
use Rattle.relational.specs.declared.Symbol.{Symbol}
use Rattle.nodes.specs.declared.forms.Node.{Node}
use Rattle.nodes.specs.Nodes.{node_at, tree_at, IsTree, IsExpression, IsFormula}
use Rattle.sheet_rules.proofs.TableLaws.{table-length, table_at, table_same}
use Rattle.relational.proofs.Rows.{row_of_symbol, row-of-symbol}

-- a walk is at node v, and has read it
pub record Reached (sheet : Sheet) (v : ℕ) (node : Node) (Is : Sheet → ℕ → Type 0) : Type 0 where
  pub facts : Facts sheet
  pub read : node ≡ node_at sheet.nodes v
  pub tree : Is sheet v

-- ---- a node whose fields name two operands, one operand, a variable and a body
-- (o: its operator; made: the operands are expressions or formulas; build: the node's tree)
module _ (sheet : Sheet) (v : ℕ) (node : Node) {O S T : Type 0} (made : S → Tree) where
  pub record TwoAt (build : O → S → S → T) (o : O) (t : T) : Type 0 where
    pub lower_a : node.a < v
    pub lower_b : node.b < v
    pub left : IsTree made sheet node.a
    pub right : IsTree made sheet node.b
    pub is : t ≡ build o left.it right.it

  pub record OneAt (build : O → S → T) (o : O) (t : T) : Type 0 where
    pub lower_a : node.a < v
    pub left : IsTree made sheet node.a
    pub is : t ≡ build o left.it

  pub record BodyAt (build : O → ℕ → S → T) (o : O) (t : T) : Type 0 where
    pub names : node.a < 4
    pub lower_b : node.b < v
    pub body : IsTree made sheet node.b
    pub is : t ≡ build o node.a body.it

-- ---- expressions and formulas among trees
pub record Grown {S : Type 0} (made : S → Tree) (x : Tree) (grow : S → Tree) (t : Tree) : Type 0 where
  pub it : S
  pub is : x ≡ made it
  pub grown : grow it ≡ t

pub record Family {S : Type 0} (made : S → Tree) (from : Tree → (S → Tree) → Tree) : Type 0 where
  pub whole : (s : S) → made s ≡ broken → ⊥
  pub same : {d e : S} → made d ≡ made e → e ≡ d
  pub grows : (x : Tree) (grow : S → Tree) (t : Tree) → (t ≡ broken → ⊥) → from x grow ≡ t → Grown made x grow t

whole-expression : (e : Expression) → expression e ≡ broken → ⊥
whole-expression e p = let z : ◌≡◌ {A = ℕ} 0 1 = cc in omega arith

whole-formula : (f : Formula) → formula f ≡ broken → ⊥
whole-formula f p = let z : ◌≡◌ {A = ℕ} 0 1 = cc in omega arith

pub no_both : {A : Type 0} (e : Expression) (f : Formula) → formula f ≡ expression e → A
no_both e f p = let z : ◌≡◌ {A = ℕ} 0 1 = cc in absurd (omega arith)

same-expression : {d e : Expression} → expression d ≡ expression e → e ≡ d
same-expression p = cc

same-formula : {d e : Formula} → formula d ≡ formula e → e ≡ d
same-formula p = cc

from-expression : (x : Tree) (grow : Expression → Tree) (t : Tree) → (t ≡ broken → ⊥) → with_expression x grow ≡ t
    → Grown expression x grow t
from-expression (expression e) grow t h p = record { it = e; is = refl; grown = p }
from-expression (formula f) grow t h p = absurd (h (sym p))
from-expression broken grow t h p = absurd (h (sym p))

from-formula : (x : Tree) (grow : Formula → Tree) (t : Tree) → (t ≡ broken → ⊥) → with_formula x grow ≡ t
    → Grown formula x grow t
from-formula (expression e) grow t h p = absurd (h (sym p))
from-formula (formula f) grow t h p = record { it = f; is = refl; grown = p }
from-formula broken grow t h p = absurd (h (sym p))

pub expressions : Family expression with_expression
expressions = record { whole = whole-expression; same = same-expression; grows = from-expression }

pub formulas : Family formula with_formula
formulas = record { whole = whole-formula; same = same-formula; grows = from-formula }

-- ---- only nodes have trees that are not broken, and a sheet has at most 200
module _ {S : Type 0} {made : S → Tree} {from : Tree → (S → Tree) → Tree} (family : Family made from) {sheet : Sheet} {v : ℕ} where
  there : IsTree made sheet v → v < node_count sheet
  there i = go (decided (ltb v (node_count sheet)))
    where
      go : (ltb v (node_count sheet) ≡ true) ⊎ (ltb v (node_count sheet) ≡ false) → v < node_count sheet
      go (inl e) = ltb-true v (node_count sheet) e
      go (inr e) =
          let past = ltb-false v (node_count sheet) e in
          let h : tree_at sheet v ≡ broken =
          get_or-eq_default (trees sheet) broken {n = v} (omega (arith, table-length (tree_step sheet) (node_count sheet))) in
          absurd (family.whole i.it (sym i.is ∙ h))

  low : Facts sheet → IsTree made sheet v → v ≤ 200
  low f i = omega (arith, there i, f.counts.few_nodes)

pub expression-low : {sheet : Sheet} {v : ℕ} → Facts sheet → IsExpression sheet v → v ≤ 200
expression-low f i = low expressions f i

pub formula-low : {sheet : Sheet} {v : ℕ} → Facts sheet → IsFormula sheet v → v ≤ 200
formula-low f i = low formulas f i

-- ---- the trees before a node
abbrev pub before : Sheet → ℕ → ℕ → Tree
before sheet v x = get_or (table (tree_step sheet) v) x broken

module _ {T : Type 0} {to : T → Tree} {from : Tree → (T → Tree) → Tree} (family : Family to from)
    {sheet : Sheet} {v : ℕ} (fine : Facts sheet) (tree : IsTree to sheet v) where
  is-before : {x : ℕ} {t : Tree} → x < v → before sheet v x ≡ t → tree_at sheet x ≡ t
  is-before {x} h p = table_same (tree_step sheet) broken v (node_count sheet) x h (omega (arith, there family tree)) ∙ p

  -- what its symbol says of a node's fields, and its tree over the trees before it
  module _ {s : Symbol} (q : symbol_of (kind sheet v) ≡ s) where
    pub field-a : field_fine sheet (row_of_symbol s).a v (field_a sheet v) ≡ true
    field-a = rw (row-of-symbol (kind sheet v), q) at (fine.fine_a v (there family tree))

    pub field-b : field_fine sheet (row_of_symbol s).b v (field_b sheet v) ≡ true
    field-b = rw (row-of-symbol (kind sheet v), q) at (fine.fine_b v (there family tree))

    pub grown : tree_by s (field_a sheet v) (before sheet v (field_a sheet v)) (before sheet v (field_b sheet v)) ≡ to tree.it
    unfolding tree_step
    grown = sym (table_at (tree_step sheet) broken (node_count sheet) v (there family tree) ∙ rw q) ∙ tree.is

  module _ {S : Type 0} {made : S → Tree} {with : Tree → (S → Tree) → Tree} (operands : Family made with) where
    -- the tree before it that a node's tree grows from
    pub grows_from : (x : ℕ) (grow : S → Tree) → with (before sheet v x) grow ≡ to tree.it
        → Grown made (before sheet v x) grow (to tree.it)
    grows_from x grow p = operands.grows (before sheet v x) grow (to tree.it) (family.whole tree.it) p

    module _ {O : Type 0} (o : O) where
      pub two_at : (build : O → S → S → T) → ltb (field_a sheet v) v ≡ true → ltb (field_b sheet v) v ≡ true
          → with (before sheet v (field_a sheet v)) (λ d. with (before sheet v (field_b sheet v)) λ e. to (build o d e)) ≡ to tree.it
          → TwoAt sheet v (node_at sheet.nodes v) made build o tree.it
      two_at build a b p =
          let lower_a = ltb-true (field_a sheet v) v a in
          let lower_b = ltb-true (field_b sheet v) v b in
          let t = grows_from (field_a sheet v) _ p in
          let u = grows_from (field_b sheet v) _ t.grown in
          record {
            lower_a = lower_a;
            lower_b = lower_b;
            left = record { it = t.it; is = is-before lower_a t.is };
            right = record { it = u.it; is = is-before lower_b u.is };
            is = family.same u.grown;
          }

      pub one_at : (build : O → S → T) → ltb (field_a sheet v) v ≡ true
          → with (before sheet v (field_a sheet v)) (λ d. to (build o d)) ≡ to tree.it
          → OneAt sheet v (node_at sheet.nodes v) made build o tree.it
      one_at build a p =
          let lower_a = ltb-true (field_a sheet v) v a in
          let t = grows_from (field_a sheet v) _ p in
          let left : IsTree made sheet (field_a sheet v) = record { it = t.it; is = is-before lower_a t.is } in
          record { lower_a = lower_a; left = left; is = family.same t.grown }

      pub body_at : (build : O → ℕ → S → T) → ltb (field_a sheet v) (variable_count sheet) ≡ true → ltb (field_b sheet v) v ≡ true
          → with (before sheet v (field_b sheet v)) (λ d. to (build o (field_a sheet v) d)) ≡ to tree.it
          → BodyAt sheet v (node_at sheet.nodes v) made build o tree.it
      body_at build a b p =
          let named = ltb-true (field_a sheet v) (variable_count sheet) a in
          let lower_b = ltb-true (field_b sheet v) v b in
          let t = grows_from (field_b sheet v) _ p in
          record {
            names = omega (arith, fine.counts.few_variables);
            lower_b = lower_b;
            body = record { it = t.it; is = is-before lower_b t.is };
            is = family.same t.grown;
          }
