-- The atoms of a sort: of a bounded one its membership cells, in order.
use mathlib.Core.Path.{◌≡◌, refl, sym, ap, ap₂, ◌∙◌, fun_ext}
use mathlib.Core.Bool.{Bool, true, false, ◌||◌, true≢false}
use mathlib.Core.List.{List, ◌∷◌, map}
use Prim.Native.Nat.{ℕ, zero, suc, ◌+◌}
use native.Mathlib.Omega.{arith}
use Rattle.sheet_rules.specs.Blocks.{Sheet, scope, is_bounded, first_sort, second_sort}
use Rattle.relational.specs.declared.Leaf.TheVariants.{Atoms as atoms}
use Rattle.relational.specs.Cells.{first_member, member_cell}
use Rattle.relational.specs.Meaning.{Environment}
use Rattle.relational.specs.Matrices.{from, upto, Matrix, set_of, member, leaf_matrix}
use Rattle.cells.specs.Private.{over_bounded}

module _ {A : Type 0} (f : ℕ → A) (s : ℕ) where
  from_on : (t n : ℕ) → map f (from (s + t) n) ≡ map (λ i. f (s + i)) (from t n)
  from_on t zero = refl
  from_on t (suc n) =
      let e : suc (s + t) ≡ s + suc t = omega arith in
      ap (λ (l : List A). f (s + t) ∷ l) (ap (λ (m : ℕ). map f (from m n)) e ∙ from_on (suc t) n)

  pub from-upto : (n : ℕ) → map f (from s n) ≡ map (λ i. f (s + i)) (upto n)
  from-upto n = let e : s ≡ s + 0 = omega arith in ap (λ (m : ℕ). map f (from m n)) e ∙ from_on 0 n

neither : (a b : Bool) → a || b ≡ false → (a ≡ false) × (b ≡ false)
neither true b e = absurd (true≢false e)
neither false b e = (refl, e)

-- of a relation that is not over a bounded sort
module _ (sheet : Sheet) (r : ℕ) {b : Bool} (e : b ≡ over_bounded sheet r) (f : b ≡ false) where
  both-full : (is_bounded sheet (first_sort sheet r) ≡ false) × (is_bounded sheet (second_sort sheet r) ≡ false)
  both-full = neither (is_bounded sheet (first_sort sheet r)) (is_bounded sheet (second_sort sheet r)) (sym e ∙ f)

  pub full-first : is_bounded sheet (first_sort sheet r) ≡ false
  full-first = both-full.0

  pub full-second : is_bounded sheet (second_sort sheet r) ≡ false
  full-second = both-full.1

module _ {A : Type 0} (sheet : Sheet) (given : ℕ → A) (constant : Bool → A) (k : ℕ) where
  pub bounded-member : (i : ℕ) → is_bounded sheet k ≡ true
      → given (member_cell sheet k i) ≡ member sheet given constant k i
  bounded-member i b = rw b refl

  pub full-member : (i : ℕ) → is_bounded sheet k ≡ false → constant true ≡ member sheet given constant k i
  full-member i b = rw b refl

  module _ (env : Environment) {n : ℕ} (e : n ≡ scope sheet k) where
    abbrev the-atoms : Matrix A
    the-atoms = leaf_matrix sheet given constant atoms k env

    pub bounded-upto : {first : ℕ} → first ≡ first_member sheet k → is_bounded sheet k ≡ true
        → set_of n (map (λ (i : ℕ). given (first + i)) (upto n)) ≡ the-atoms
    bounded-upto ef b =
        ap₂ (λ (m first : ℕ). set_of m (map (λ (i : ℕ). given (first + i)) (upto m))) e ef
        ∙ ap (λ (f : ℕ → A). set_of (scope sheet k) (map f (upto (scope sheet k)))) (fun_ext (λ i. bounded-member i b))

    pub bounded-atoms : {first : ℕ} → first ≡ first_member sheet k → is_bounded sheet k ≡ true
        → set_of n (map given (from first n)) ≡ the-atoms
    bounded-atoms {first} ef b = ap (set_of n) (from-upto given first n) ∙ bounded-upto ef b

    pub full-atoms : is_bounded sheet k ≡ false → set_of n (map (λ (i : ℕ). constant true) (upto n)) ≡ the-atoms
    full-atoms b = ap (λ (m : ℕ). set_of m (map (λ (i : ℕ). constant true) (upto m))) e
        ∙ ap (λ (f : ℕ → A). set_of (scope sheet k) (map f (upto (scope sheet k)))) (fun_ext (λ i. full-member i b))
