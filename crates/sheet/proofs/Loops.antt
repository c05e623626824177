-- A loop that tests each number in turn.
use mathlib.Core.Path.{◌≡◌, refl}
use mathlib.Core.Bool.{Bool, true, ◌&&◌}
use Prim.Native.Nat.{ℕ, ◌+◌}
use native.Mathlib.Numerals.{add-one}
use Rattle.prelude.specs.Tests.{each}

pub each_none : (p : ℕ → Bool) → true ≡ each 0 p
unfolding each
each_none p = refl

pub each_more : (p : ℕ → Bool) (n : ℕ) (fine more : Bool) → fine ≡ each n p → more ≡ (fine && p n) → more ≡ each (n + 1) p
unfolding each
each_more p n fine more e h = rw (add-one, ← e) h
