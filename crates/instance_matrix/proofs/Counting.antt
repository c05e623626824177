-- Flags that are tested, all or any (2.2.2 join, 2.2.6 comparisons), or counted (2.2.6, 2.1.2).
use Rattle.std.proofs.Common.{◌≡◌, ℕ, zero, suc, ◌+◌, Bool, true, false, ◌&&◌, ◌||◌, List, ◌∷◌, map, cond, count_by, refl, ap, add-one, arith}
use Rattle.std.proofs.lemmas.List.Recursion.{is_count_by}
use Rattle.std.specs.List.{list_all, list_any, range_with_len}
use lib.Dec.{leb}
use Rattle.prelude.specs.Tests.{all, any}
use Rattle.relational.specs.Matrices.{from}
use Rattle.sheet_rules.specs.Blocks.{Sheet}
use Rattle.relational.specs.Evaluation.{same, count, implies, row_holds}
use mathlib.Core.Bool.{beq}

module _ {A : Type 0} (p : A → Bool) (f : ℕ → A) where
  pub all-from : (s n : ℕ) → list_all (λ k. p (f k)) (range_with_len s n) ≡ all p (map f (from s n))
  unfolding all
  all-from s zero = refl
  all-from s (suc n) = rw add-one (ap (λ b. p (f s) && b) (all-from (suc s) n))

  pub any-from : (s n : ℕ) → list_any (λ k. p (f k)) (range_with_len s n) ≡ any p (map f (from s n))
  unfolding any
  any-from s zero = refl
  any-from s (suc n) = rw add-one (ap (λ b. p (f s) || b) (any-from (suc s) n))

-- ---- 2.2.6 IFF
pub same-is : (a b : Bool) → beq a b ≡ same (a, b)
same-is true true = refl
same-is true false = refl
same-is false true = refl
same-is false false = refl

-- ---- 2.2.6 tests and quantifiers: how many flags are true
pub count-is : (xs : List Bool) → count xs ≡ count_by (λ b. b) xs
count-is = is_count_by count (λ b. b) refl step
  where
    step : (b : Bool) (xs : List Bool) → count (b ∷ xs) ≡ cond b (1 + count xs) (count xs)
    step true xs = omega arith
    step false xs = refl
