-- How far a search is taken up again: 18,446,744,073,709 calls of 1,000,000 steps, the most that a 64-bit number counts.
use Rattle.std.specs.Prelude.{ℕ}

abbrev pub most_steps : ℕ
most_steps = 18446744073709000000
