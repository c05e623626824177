-- The first cell of each relation in an array; relations over bounded sorts.
-- No public contract reaches this file: nothing here needs belief.
use Rattle.std.specs.Prelude.{◌≡◌, Bool, ◌||◌, List, ℕ, ◌<◌, length, get_or}
use Rattle.sheet_rules.specs.declared.Layout.{Layout}
use Rattle.sheet_rules.specs.Blocks.{Sheet, sheet_of, is_bounded, relation_count, first_sort, second_sort}
use Rattle.sheet_rules.specs.Reading.{accepted, reading}
use Rattle.relational.specs.Cells.{first_cell}

-- the first cell of each relation
pub record Starts (sheet : Sheet) (starts : List ℕ) : Type 0 where
  pub long : length starts ≡ 16
  pub first : (r : ℕ) → r < relation_count sheet → get_or starts r 0 ≡ first_cell sheet r

-- an accepted sheet, where its blocks stand, and where its cells
pub record Located (sheet : List ℕ) (layout : Layout) (starts : List ℕ) : Type 0 where
  pub taken : reading sheet ≡ accepted layout
  pub cells : Starts (sheet_of sheet) starts

-- a column of relation r is over a bounded sort; a set is asked for sort 0 too, which stands in the place of its second
abbrev pub over_bounded : Sheet → ℕ → Bool
over_bounded sheet r = is_bounded sheet (first_sort sheet r) || is_bounded sheet (second_sort sheet r)
