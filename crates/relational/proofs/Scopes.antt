-- What it is for a sort to be bounded, and for an instance to have its cells.
use mathlib.Core.Path.{◌≡◌, sym, ap, ◌∙◌}
use mathlib.Core.Bool.{true, false≢true}
use mathlib.Core.List.{List}
use Prim.Native.Nat.{ℕ, ◌<◌}
use native.Mathlib.Decide.{dec_lt}
use native.Mathlib.Omega.{arith}
use lib.Dec.{eqb, leb}
use lib.ListN.{length, get_or-eq_default}
use borrow.Author.Tests.{eqb-true}
use Rattle.prelude.specs.Tests.{all}
use Rattle.prelude.proofs.Laws.{and_left, and_right}
use Rattle.sheet_rules.specs.Blocks.{Sheet, sort_count, is_bounded}
use Rattle.relational.specs.Cells.{cell_count, has_cells}

-- a bounded sort is one that is there: past the end its byte counts as 0
pub bounded-there : (sheet : Sheet) (k : ℕ) → is_bounded sheet k ≡ true → k < sort_count sheet
bounded-there sheet k e = go (dec_lt k (sort_count sheet))
  where
    go : Dec (k < sort_count sheet) → k < sort_count sheet
    go (yes l) = l
    go (no l) =
        absurd (false≢true (ap (leb 129) (sym (get_or-eq_default sheet.sorts 0 {n = k} (omega arith))) ∙ e))

module _ (sheet : Sheet) (instance : List ℕ) (h : has_cells sheet instance ≡ true) where
  -- it has one byte for each cell
  pub within-size : length instance ≡ cell_count sheet
  unfolding has_cells
  within-size = eqb-true (length instance) (cell_count sheet) (and_left _ _ h)

  -- each of them 0 or 1
  pub within-bits : all (λ (b : ℕ). leb b 1) instance ≡ true
  unfolding has_cells
  within-bits = and_right (eqb (length instance) (cell_count sheet)) _ h
