-- What the walk of a node gives.
-- No public contract reaches this file: nothing here needs belief.
use Rattle.std.specs.Prelude.{Bool, false, cond, List, [], map, ℕ}
use Rattle.prelude.specs.Tests.{each}
use Rattle.sheet_rules.specs.Blocks.{Sheet, scope, sort_of, multiplicity, first_sort, second_sort}
use Rattle.relational.specs.Trees.{Tree, expression, formula, broken}
use Rattle.relational.specs.Cells.{is_set, row_count, row_length}
use Rattle.relational.specs.Meaning.{Environment, bind}
use Rattle.relational.specs.Matrices.{Matrix, set_of}
use Rattle.relational.specs.Evaluation.{both, value_of, truth_of, atoms_of, row_holds, member_at, row_bound, row_cells}
use Rattle.relational.specs.Evaluation.{cell_inside}
use Rattle.nodes.specs.Environments.{environment}
use Rattle.nodes.specs.Nodes.{tree_at}

module _ (sheet : Sheet) (instance : List ℕ) where
  unfoldable pub value_of_tree : Environment → Tree → Matrix Bool
  value_of_tree env (expression e) = value_of sheet instance e env
  value_of_tree env (formula f) = set_of 0 []
  value_of_tree env broken = set_of 0 []

  unfoldable pub truth_in_tree : Environment → Tree → Bool
  truth_in_tree env (expression e) = false
  truth_in_tree env (formula f) = truth_of sheet instance f env
  truth_in_tree env broken = false

  -- "Binders walk their body for each atom, ascending.": the set of the atoms of variable x for which the body holds
  abbrev pub bodies_of : Environment → Tree → ℕ → Matrix Bool
  bodies_of env body x =
      set_of (scope sheet (sort_of sheet x)) (map (λ w. truth_in_tree (bind env x w) body) (atoms_of sheet instance x))

  -- the mark of relation r in row i; in its rows
  abbrev pub row_marked : ℕ → ℕ → Bool
  row_marked r i = row_holds sheet instance (multiplicity sheet r) (row_bound sheet instance r i) (row_cells sheet instance r i)

  abbrev pub rows_hold : ℕ → Bool
  rows_hold r = each (row_count sheet r) (row_marked r)

  -- the atoms of a cell are members; the cells of a row, and of a relation
  abbrev pub of_members : ℕ → ℕ → ℕ → Bool
  of_members r i j =
      cond (is_set sheet r) (member_at sheet instance (first_sort sheet r) j)
      (both (member_at sheet instance (first_sort sheet r) i, member_at sheet instance (second_sort sheet r) j))

  abbrev pub row_inside : ℕ → ℕ → Bool
  row_inside r i = each (row_length sheet r) (cell_inside sheet instance r i)

  abbrev pub relation_inside : ℕ → Bool
  relation_inside r = each (row_count sheet r) (row_inside r)

-- ---- by the number of a node, from an array of atoms
module _ (sheet : Sheet) (instance env : List ℕ) where
  abbrev pub value_at : ℕ → Matrix Bool
  value_at v = value_of_tree sheet instance (environment env) (tree_at sheet v)

  abbrev pub truth_at : ℕ → Bool
  truth_at v = truth_in_tree sheet instance (environment env) (tree_at sheet v)

  abbrev pub bodies_at : ℕ → ℕ → Matrix Bool
  bodies_at v x = bodies_of sheet instance (environment env) (tree_at sheet v) x
