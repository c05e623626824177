-- An array of 64 flags that a loop fills from the front, and the matrix that it stands for.
use mathlib.Core.Path.{◌≡◌, refl, sym, ap, ◌∙◌, fun_ext}
use mathlib.Core.Bool.{Bool, false}
use mathlib.Core.Logic.{◌⊎◌, ⊎_elim}
use mathlib.Core.List.{List, map}
use Prim.Native.Nat.{ℕ, zero, suc, ◌+◌, ◌*◌, ◌/◌, ◌%◌, ◌<◌, ◌≤◌}
use native.Mathlib.Nat.{eq-or-lt_of_le, mul-le-mul_right, div-add-mod'}
use native.Mathlib.Decide.{dec_lt}
use native.Mathlib.Omega.{arith}
use lib.ListN.{length, get_or, set, take, replicate, length-set, length-replicate, get_or-eq_default, length-take}
use lib.Seq.{get_or-set_same, get_or-set_other, get_or-take, length-take-le, ext_get_or}
use Rattle.relational.specs.Matrices.{upto, Place, places, cell_at}
use Rattle.relational.proofs.Places.{length-map-from, upto-at, length-places, places-at, square, row_below, column-below}
use Rattle.instance_matrix.specs.Values.{Value, matrix_of, Fine}

-- ---- filled up to k with what f says, false from there on
pub record Filled (cells : List Bool) (f : ℕ → Bool) (k : ℕ) : Type 0 where
  pub long : length cells ≡ 64
  pub done : (j : ℕ) → j < k → get_or cells j false ≡ f j
  pub rest : (j : ℕ) → k ≤ j → get_or cells j false ≡ false

none-set : (n j : ℕ) → get_or (replicate n false) j false ≡ false
none-set zero j = refl
none-set (suc n) zero = refl
none-set (suc n) (suc j) = none-set n j

pub filled_none : (f : ℕ → Bool) → Filled (replicate 64 false) f 0
filled_none f = record { long = length-replicate 64 false; done = λ j h. absurd (omega arith); rest = λ j h. none-set 64 j }

pub filled_more : (cells : List Bool) (f : ℕ → Bool) (k : ℕ) (b : Bool) → Filled cells f k → k < 64 → b ≡ f k
    → Filled (set cells k b) f (k + 1)
filled_more cells f k b u h e =
    let l : k < length cells = omega (arith, u.long) in
    record {
      long = length-set cells k b ∙ u.long;
      done = λ j lt.
          ⊎_elim (λ q. rw q (get_or-set_same cells k b false l ∙ e))
          (λ q. get_or-set_other cells k j b false (λ z. absurd (omega (arith, z))) ∙ u.done j q) (eq-or-below j lt);
      rest = λ j le. get_or-set_other cells k j b false (λ z. absurd (omega (arith, z))) ∙ u.rest j (omega arith);
    }
  where
    eq-or-below : (j : ℕ) → j < k + 1 → (j ≡ k) ⊎ (j < k)
    eq-or-below j h = eq-or-lt_of_le (omega arith)

module _ (cells : List Bool) (f : ℕ → Bool) (n : ℕ) (u : Filled cells f n) (small : n ≤ 64) where
  length-filled : length (take n cells) ≡ n
  length-filled = length-take-le n cells (omega (arith, u.long))

  -- the list of what f says
  pub filled-list : (l : List Bool) → length l ≡ n → ((k : ℕ) → k < n → f k ≡ get_or l k false) → take n cells ≡ l
  filled-list l e h =
      ext_get_or false (take n cells) l (length-filled ∙ sym e)
      (λ k lt. let m : k < n = omega (arith, length-filled) in get_or-take n cells k false m ∙ u.done k m ∙ h k m)

  pub filled-upto : (g : ℕ → Bool) → ((k : ℕ) → k < n → f k ≡ g k) → take n cells ≡ map g (upto n)
  filled-upto g h = filled-list (map g (upto n)) (length-map-from g 0 n) (λ k l. h k l ∙ sym (upto-at g false n k l))

-- ---- filled place by place
pub record ByPlace (cells : List Bool) (g : Place → Bool) (r c : ℕ) : Type 0 where
  pub long : length cells ≡ 64
  pub each : (i j : ℕ) → i < r → j < c → get_or cells (i * c + j) false ≡ g (i, j)
  pub rest : (k : ℕ) → r * c ≤ k → get_or cells k false ≡ false

pub filled-places : (cells : List Bool) (g : Place → Bool) (r c : ℕ) → ByPlace cells g r c → Filled cells (λ k. g (k / c, k % c)) (r * c)
filled-places cells g r c u =
    record {
      long = u.long;
      done = λ k h.
          ap (λ (i : ℕ). get_or cells i false) (sym (div-add-mod' k c))
          ∙ u.each (k / c) (k % c) (row_below r c k h) (column-below r c k h);
      rest = u.rest;
    }

pub places-list : (cells : List Bool) (g : Place → Bool) (r c : ℕ) → ByPlace cells g r c → r * c ≤ 64
    → take (r * c) cells ≡ map g (places r c)
places-list cells g r c u small =
    filled-list cells (λ k. g (k / c, k % c)) (r * c) (filled-places cells g r c u) small (map g (places r c))
    (length-places g r c)
    (λ k h.
    sym (places-at g false r c (k / c) (k % c) (row_below r c k h) (column-below r c k h))
    ∙ ap (λ (i : ℕ). get_or (map g (places r c)) i false) (div-add-mod' k c))

-- ---- a cell of a value is a cell of its matrix
module _ (v : Value) (f : Fine v) where
  cell-of : (k : ℕ) → cell_at false (matrix_of v) k ≡ get_or v.cells k false
  cell-of k = go (dec_lt k n)
    where
      n : ℕ
      n = v.rows * v.columns

      short : length (take n v.cells) ≤ n
      short = rw (length-take n v.cells) (omega arith)

      go : Dec (k < n) → get_or (take n v.cells) k false ≡ get_or v.cells k false
      go (yes l) = get_or-take n v.cells k false l
      go (no l) = get_or-eq_default (take n v.cells) false (omega (arith, short)) ∙ sym (f.rest k (omega arith))

  pub cells_of : ◌≡◌ {A = ℕ → Bool} (λ k. cell_at false (matrix_of v) k) (λ k. get_or v.cells k false)
  cells_of = fun_ext cell-of
