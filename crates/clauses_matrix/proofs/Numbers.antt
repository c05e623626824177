-- Places in row order, by their number: the place of number k is row k / columns, column k % columns.
use mathlib.Core.Path.{◌≡◌, refl, ap, ◌∙◌}
use mathlib.Core.List.{List, ◌∷◌, ◌++◌, map, map-append}
use Prim.Native.Nat.{ℕ, zero, suc, ◌+◌, ◌*◌, ◌/◌, ◌%◌, ◌≤◌, ◌<◌}
use native.Mathlib.Nat.{add-zero, zero-mul, div-eq_of_lt, mod-eq_of_lt, mul-add-div_right}
use native.Mathlib.Nat.{mul-add-mod_self_right}
use native.Mathlib.Omega.{arith}
use Rattle.relational.specs.Matrices.{from, upto, Place, places_from, places}

abbrev pub place_of : ℕ → ℕ → Place
place_of c k = (k / c, k % c)

from-add : (s m n : ℕ) → from s (m + n) ≡ from s m ++ from (s + m) n
from-add s zero n =
    let e : s + zero ≡ s = add-zero s in
    let f : zero + n ≡ n = omega arith in
    rw (e, f)
from-add s (suc m) n =
    let e : suc s + m ≡ s + suc m = omega arith in
    let f : suc m + n ≡ suc (m + n) = omega arith in
    rw f (ap (λ (l : List ℕ). s ∷ l) (from-add (suc s) m n ∙ ap (λ (j : ℕ). from (suc s) m ++ from j n) e))

place-of : (i c j : ℕ) → j < c → place_of c (i * c + j) ≡ (i, j)
place-of i c j h =
    let z : zero < c = omega arith in
    let d : (i * c + j) / c ≡ i = mul-add-div_right z i j ∙ ap (λ (x : ℕ). i + x) (div-eq_of_lt h) ∙ add-zero i in
    let m : (i * c + j) % c ≡ j = mul-add-mod_self_right i c j ∙ mod-eq_of_lt h in
    rw (d, m)

pub row-at : (i c j : ℕ) → j < c → (i * c + j) / c ≡ i
row-at i c j h = ap (λ (t : Place). t.0) (place-of i c j h)

pub column-at : (i c j : ℕ) → j < c → (i * c + j) % c ≡ j
column-at i c j h = ap (λ (t : Place). t.1) (place-of i c j h)

-- one row
row_of : (i c s n : ℕ) → s + n ≤ c → map {B = Place} (λ j. (i, j)) (from s n) ≡ map (place_of c) (from (i * c + s) n)
row_of i c s zero h = refl
row_of i c s (suc n) h =
    let e : i * c + suc s ≡ suc (i * c + s) = omega arith in
    rw (place-of i c s (omega arith))
    (ap (λ (l : List Place). (i, s) ∷ l) (row_of i c (suc s) n (omega arith) ∙ ap (λ (k : ℕ). map (place_of c) (from k n)) e))

rows_of : (i r c : ℕ) → places_from i r c ≡ map (place_of c) (from (i * c) (r * c))
rows_of i zero c = rw (zero-mul c)
rows_of i (suc r) c =
    let e : suc r * c ≡ c + r * c = omega arith in
    let f : i * c + c ≡ suc i * c = omega arith in
    let z : i * c + 0 ≡ i * c = add-zero (i * c) in
    rw (e, from-add (i * c) c (r * c), map-append (place_of c) (from (i * c) c) (from (i * c + c) (r * c)), f, ← rows_of (suc i) r c)
    (ap (λ (l : List Place). l ++ places_from (suc i) r c) (row_of i c 0 c (omega arith) ∙ ap (λ (k : ℕ). map (place_of c) (from k c)) z))

pub places-by-number : (r c : ℕ) → places r c ≡ map (place_of c) (upto (r * c))
places-by-number r c = rows_of 0 r c ∙ ap (λ (k : ℕ). map (place_of c) (from k (r * c))) (zero-mul c)
