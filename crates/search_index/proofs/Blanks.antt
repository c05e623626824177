-- A list of 0s.
use mathlib.Core.Path.{◌≡◌, refl}
use Prim.Native.Nat.{ℕ, zero, suc}
use lib.ListN.{length, get_or, replicate, length-replicate}

zero-at : (n p : ℕ) → get_or {A = ℕ} (replicate n 0) p 0 ≡ 0
zero-at zero p = refl
zero-at (suc n) zero = refl
zero-at (suc n) (suc p) = zero-at n p

pub blank-list : (n : ℕ) → (length {A = ℕ} (replicate n 0) ≡ n) × ((p : ℕ) → get_or {A = ℕ} (replicate n 0) p 0 ≡ 0)
blank-list n = (length-replicate n 0, zero-at n)
