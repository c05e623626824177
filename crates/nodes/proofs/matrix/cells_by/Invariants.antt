-- The invariant: the cells before k are made.
use Rattle.std.proofs.Common.{◌≡◌, ℕ, ◌<◌, ◌≤◌, length, get_or}
use Rattle.nodes.proofs.matrix.cells_by.Given as goal

abbrev pub invariant-loop-k : goal.invariant-loop-k
invariant-loop-k g l = record {
  long : length l.cells ≡ 64;
  each : (j : ℕ) → j < l.k → goal.F-post g l.cell j (get_or l.cells j l.fn.past);
  rest : (j : ℕ) → l.k ≤ j → get_or l.cells j l.fn.past ≡ l.fn.past;
}
