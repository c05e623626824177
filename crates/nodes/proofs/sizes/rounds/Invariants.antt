-- The invariant: all powers before 2^k are below n.
use Rattle.std.proofs.Common.{ℕ, ◌<◌, ◌^◌}
use Rattle.nodes.proofs.sizes.rounds.Given as goal

abbrev pub invariant-loop-k : goal.invariant-loop-k
invariant-loop-k l = (i : ℕ) → i < l.k → 2 ^ i < l.n
