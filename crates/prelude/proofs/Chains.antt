-- The library's words for a test of all elements or of a range, and those of specs/Tests.
use mathlib.Core.Path.{◌≡◌, refl, sym, ap, ◌∙◌}
use mathlib.Core.Bool.{Bool, true, false, ◌&&◌, ◌||◌, and_assoc}
use mathlib.Core.List.{List, [], ◌∷◌}
use Prim.Native.Nat.{ℕ, zero, suc, ◌+◌}
use native.Mathlib.Omega.{arith}
use Rattle.std.specs.List.{list_all, list_any, range_with_len}
use lib.ListN.{length, get_or}
use Rattle.prelude.specs.Tests.{all, any, each}
use Rattle.prelude.proofs.Laws.{each_at, each_of, all-at, all_of}

pub all-is : {A : Type 0} (p : A → Bool) (xs : List A) → list_all p xs ≡ all p xs
unfolding all
all-is p [] = refl
all-is p (x ∷ xs) = ap (λ b. p x && b) (all-is p xs)

pub any-is : {A : Type 0} (p : A → Bool) (xs : List A) → list_any p xs ≡ any p xs
unfolding any
any-is p [] = refl
any-is p (x ∷ xs) = ap (λ b. p x || b) (any-is p xs)

and_true : (b : Bool) → b && true ≡ b
and_true true = refl
and_true false = refl

module _ (p : ℕ → Bool) where
  last_one : (a n : ℕ) → list_all p (range_with_len a (suc n)) ≡ (list_all p (range_with_len a n) && p (a + n))
  last_one a zero = and_true (p a) ∙ ap p (omega arith)
  last_one a (suc n) =
      ap (λ b. p a && b) (last_one (a + 1) n)
      ∙ sym (and_assoc (p a) (list_all p (range_with_len (a + 1) n)) (p (a + 1 + n)))
      ∙ ap (λ k. list_all p (range_with_len a (suc n)) && p k) (omega arith)

  pub each-is : (n : ℕ) → list_all p (range_with_len 0 n) ≡ each n p
  unfolding each
  each-is zero = refl
  each-is (suc n) = last_one 0 n ∙ ap (λ k. list_all p (range_with_len 0 n) && p k) (omega arith) ∙ ap (λ b. b && p n) (each-is n)

-- a test of each element, by its place
pub all-each : {A : Type 0} (p : A → Bool) (d : A) (xs : List A) → list_all p xs ≡ each (length xs) (λ k. p (get_or xs k d))
all-each p d xs =
    all-is p xs
    ∙ same_test (all p xs) (each (length xs) (λ k. p (get_or xs k d)))
    (λ e. each_of (λ k. p (get_or xs k d)) (length xs) (λ k h. all-at p xs e k d h))
    (λ e. all_of p xs d (each_at (λ k. p (get_or xs k d)) (length xs) e))
  where
    same_test : (a b : Bool) → (a ≡ true → b ≡ true) → (b ≡ true → a ≡ true) → a ≡ b
    same_test true b f g = sym (f refl)
    same_test false true f g = g refl
    same_test false false f g = refl
