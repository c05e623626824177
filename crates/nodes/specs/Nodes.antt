-- Nodes, and their trees.
-- No public contract reaches this file: nothing here needs belief.
use Rattle.std.specs.Prelude.{◌≡◌, List, ℕ, ◌+◌, ◌*◌, get_or}
use Rattle.sheet_rules.specs.Blocks.{Sheet, byte}
use Rattle.relational.specs.Trees.{symbol_of, Tree, expression, formula, broken, trees}
use Rattle.nodes.specs.declared.forms.Node.{Node}

-- node v of the block of nodes
abbrev pub node_at : List ℕ → ℕ → Node
node_at nodes v =
    record {
      symbol = symbol_of (byte nodes (3 * v));
      a = byte nodes (3 * v + 1);
      b = byte nodes (3 * v + 2);
    }

-- the tree of node v
abbrev pub tree_at : Sheet → ℕ → Tree
tree_at sheet v = get_or (trees sheet) v broken

-- node v has a tree of a family: an expression, a formula
pub record IsTree {T : Type 0} (made : T → Tree) (sheet : Sheet) (v : ℕ) : Type 0 where
  pub it : T
  pub is : tree_at sheet v ≡ made it

abbrev pub IsExpression : Sheet → ℕ → Type 0
IsExpression = IsTree expression

abbrev pub IsFormula : Sheet → ℕ → Type 0
IsFormula = IsTree formula
