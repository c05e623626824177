-- A power of two is over its exponent.
use Rattle.std.proofs.Common.{ℕ, zero, suc, ◌≤◌, ◌^◌, arith}
use native.Mathlib.Nat.{two-pow-succ}
use lib.Pow.{pow_pos}

pub below_power : (n : ℕ) → n ≤ 2 ^ n
below_power zero = omega arith
below_power (suc n) = rw (two-pow-succ n) (omega (arith, below_power n, pow_pos n))
