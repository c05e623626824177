-- Cells: where those of members and of each relation stand, and what an instance is (document 01, "Clauses").
use Rattle.std.specs.Prelude.{Bool, ◌&&◌, cond, List, ℕ, zero, suc, ◌+◌, ◌*◌, eqb, leb, length}
use Rattle.prelude.specs.Tests.{all}
use Rattle.sheet_rules.specs.Blocks.{Sheet, sort_count, scope, is_bounded, relation_count, columns, first_sort, second_sort}

-- no accepted sheet has more cells: 8 sorts of 8 atoms, 16 relations of 8 rows of 8
abbrev pub most_cells : ℕ
most_cells = 1088

module _ (sheet : Sheet) where
  -- "columns (1 a set, 2 a relation)"
  abbrev pub is_set : ℕ → Bool
  is_set r = eqb (columns sheet r) 1

  -- "a set is a single row"
  abbrev pub row_count : ℕ → ℕ
  row_count r = cond (is_set r) 1 (scope sheet (first_sort sheet r))

  -- "the cells in one row"
  abbrev pub row_length : ℕ → ℕ
  row_length r = cond (is_set r) (scope sheet (first_sort sheet r)) (scope sheet (second_sort sheet r))

  abbrev pub cells_of : ℕ → ℕ
  cells_of r = row_count r * row_length r

  -- "Such a sort has one membership cell for each atom, and all membership cells come before the relations' cells,
  -- sort by sort" (document 02, Change 8)
  abbrev pub members_of : ℕ → ℕ
  members_of k = cond (is_bounded sheet k) (scope sheet k) 0

  unfoldable pub first_member : ℕ → ℕ
  first_member zero = 0
  first_member (suc k) = first_member k + members_of k

  abbrev pub member_count : ℕ
  member_count = first_member (sort_count sheet)

  -- the membership cell of atom i of a bounded sort
  abbrev pub member_cell : ℕ → ℕ → ℕ
  member_cell k i = first_member k + i

  -- "relation by relation": "all cells of earlier relations"
  unfoldable pub first_cell : ℕ → ℕ
  first_cell zero = member_count
  first_cell (suc r) = first_cell r + cells_of r

  abbrev pub cell_count : ℕ
  cell_count = first_cell (relation_count sheet)

  -- "row by row, column by column": the cell of row i and column j, counted from 0 ("a set has row 0 only")
  abbrev pub cell : ℕ → ℕ → ℕ → ℕ
  cell r i j = first_cell r + (i * row_length r + j)

  -- "one byte for each cell, each 0 or 1"
  unfoldable pub has_cells : List ℕ → Bool
  has_cells instance = eqb (length instance) cell_count && all (λ (b : ℕ). leb b 1) instance
