-- Cells filled row by row.
use Rattle.std.proofs.Common.{◌≡◌, ℕ, zero, suc, ◌+◌, ◌*◌, ◌<◌, ◌≤◌, ◌⊎◌, List, length, get_or, replicate, refl, sym, subst, arith}
use Rattle.std.proofs.Math.Nat.{eq-or-lt_of_le}
use mathlib.Core.Logic.{⊎_elim}

pub default-at : {A : Type 0} (d : A) (n k : ℕ) → get_or (replicate n d) k d ≡ d
default-at d zero k = refl
default-at d (suc n) zero = refl
default-at d (suc n) (suc k) = default-at d n k

module _ {A : Type 0} (P : ℕ → ℕ → A → Type 0) (d : A) (rows c : ℕ) where
  -- filled up to column j of row i
  pub record Placed (xs : List A) (i j : ℕ) : Type 0 where
    pub long : length xs ≡ 64
    pub before : (a b : ℕ) → a < i → b < c → P a b (get_or xs (a * c + b) d)
    pub row : (b : ℕ) → b < j → P i b (get_or xs (i * c + b) d)
    pub rest : (k : ℕ) → rows * c ≤ k → get_or xs k d ≡ d

  pub placed_none : Placed (replicate 64 d) 0 0
  placed_none =
      record {
        long = refl;
        before = λ a b la lb. absurd (omega arith);
        row = λ b lb. absurd (omega arith);
        rest = λ k lk. default-at d 64 k;
      }

  pub placed_row : (xs : List A) (i j : ℕ) → Placed xs i j → j ≡ c → Placed xs (i + 1) 0
  placed_row xs i j u e =
      record {
        long = u.long;
        before = λ a b la lb.
            ⊎_elim (λ (q : a ≡ i). subst (λ x. P x b (get_or xs (x * c + b) d)) (sym q) (u.row b (omega arith)))
            (λ (q : a < i). u.before a b q lb) (eq-or-lt (omega arith));
        row = λ b lb. absurd (omega arith);
        rest = u.rest;
      }
    where
      eq-or-lt : {a : ℕ} → a < i + 1 → (a ≡ i) ⊎ (a < i)
      eq-or-lt h = eq-or-lt_of_le (omega arith)
