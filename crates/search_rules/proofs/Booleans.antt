-- Tests taken apart, beside the laws of the prelude.
use mathlib.Core.Path.{◌≡◌, refl}
use mathlib.Core.Bool.{Bool, true, false, not, ◌&&◌, ◌||◌}
use mathlib.Core.List.{List, [], ◌∷◌}
use Prim.Native.Nat.{ℕ, zero, suc, ◌<◌}
use native.Mathlib.Omega.{arith}
use lib.ListN.{length, get_or}
use Rattle.prelude.specs.Tests.{any}
use Rattle.prelude.proofs.Laws.{clash, and_left, and_right}

pub and-true : (x y : Bool) → x && y ≡ true → (x ≡ true) × (y ≡ true)
and-true x y e = (and_left x y e, and_right x y e)

pub or-false : (x y : Bool) → x || y ≡ false → (x ≡ false) × (y ≡ false)
or-false true y e = clash true refl e
or-false false y e = (refl, e)

pub not-false-true : (b : Bool) → (not b ≡ true → ⊥) → b ≡ true
not-false-true true h = refl
not-false-true false h = absurd (h refl)

pub bool_false : (b : Bool) → (b ≡ true → ⊥) → b ≡ false
bool_false true h = absurd (h refl)
bool_false false h = refl

pub or-both-false : (x y : Bool) → x ≡ false → y ≡ false → x || y ≡ false
or-both-false true y d e = clash true refl d
or-both-false false y d e = e

module _ {A : Type 0} (p : A → Bool) where
  -- what no element has, the element at an index has not; and the other way round
  pub none-at : (xs : List A) → any p xs ≡ false → (i : ℕ) (d : A) → i < length xs → p (get_or xs i d) ≡ false
  unfolding any
  none-at [] e i d h = absurd (omega arith)
  none-at (x ∷ xs) e zero d h = (or-false (p x) (any p xs) e).0
  none-at (x ∷ xs) e (suc i) d h = none-at xs (or-false (p x) (any p xs) e).1 i d (omega arith)

  pub none_of : (xs : List A) (d : A) → ((i : ℕ) → i < length xs → p (get_or xs i d) ≡ false) → any p xs ≡ false
  unfolding any
  none_of [] d h = refl
  none_of (x ∷ xs) d h = or-both-false _ _ (h 0 (omega arith)) (none_of xs d (λ i l. h (suc i) (omega arith)))
