-- The words of the cells, one after the other.
use mathlib.Core.Path.{◌≡◌, refl, sym, ap, ◌∙◌}
use mathlib.Core.List.{List, [], ◌∷◌, map, map-append}
use Prim.Native.Nat.{ℕ, ◌+◌, ◌≤◌, ◌<◌}
use native.Mathlib.Decide.{dec_lt}
use native.Mathlib.Numerals.{add-one}
use native.Mathlib.Omega.{arith}
use lib.IntN.{ℤ, negsuc}
use lib.ListN.{get_or, take, set, replicate, length-set, length-replicate, get_or-eq_default}
use lib.Seq.{take-suc-set}
use Rattle.literal.specs.Literals.{Literal, positive}
use Rattle.literal.specs.Words.{literal_of, positive_word}
use Rattle.literal.proofs.Words.{positive-is}
use Rattle.relational.specs.Cells.{most_cells}
use Rattle.relational.specs.Matrices.{upto}
use Rattle.relational.proofs.Places.{upto-suc, upto-at, length-map-from}
use Rattle.clauses_rules.specs.Translation.{absent}
use Rattle.clauses_emission.specs.Emission.{Inside, AllInside, literals_of}
use Rattle.clauses_emission.proofs.Ranges.{inside-absent}
use Rattle.clauses.specs.Translating.{CellWords}

abbrev cell-literal : ℕ → Literal
cell-literal i = positive (2 + i)

pub words-none : CellWords 0 (replicate most_cells (negsuc 0))
words-none = record { room = length-replicate most_cells (negsuc 0); cells = refl }

pub word-is : (i : ℕ) (w : ℤ) → i < most_cells → w ≡ positive_word (2 + i) → literal_of w ≡ positive (2 + i)
word-is i w h e = ap literal_of (e ∙ positive-is (2 + i) (omega arith))

pub words_more : {i : ℕ} {ws : List ℤ} (w : ℤ) → CellWords i ws → i < most_cells → literal_of w ≡ positive (2 + i)
    → CellWords (i + 1) (set ws i w)
words_more {i} {ws} w h l e =
    rw (add-one i)
    (record {
      room = length-set ws i w ∙ h.room;
      cells =
          ap literals_of (take-suc-set ws i w (omega (arith, h.room)))
          ∙ map-append literal_of (take i ws) (w ∷ [])
          ∙ rw (h.cells, e) (sym (upto-suc cell-literal i));
    })

pub words-done : {i n : ℕ} {ws : List ℤ} → CellWords i ws → i ≤ n → n ≤ i → CellWords n ws
words-done {i} {n} {ws} h p q = let e : i ≡ n = omega arith in rw e at h

-- their variables come after variable 1
pub cells_inside_ok : (n m : ℕ) → 2 + n ≤ m → AllInside m (map cell-literal (upto n))
cells_inside_ok n m h i = at (dec_lt i n)
  where
    at : Dec (i < n) → Inside m (get_or (map cell-literal (upto n)) i absent)
    at (yes p) = rw (upto-at cell-literal absent n i p) (record { low = omega arith; high = omega arith })
    at (no p) =
        rw (get_or-eq_default (map cell-literal (upto n)) absent {n = i} (omega (arith, length-map-from cell-literal 0 n)))
        (inside-absent m (omega arith))
