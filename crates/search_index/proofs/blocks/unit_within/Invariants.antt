-- None of the clauses so far is a unit clause.
use Rattle.std.proofs.Common.{◌≡◌, ℕ, ◌<◌, ◌≤◌, get_or}
use Rattle.search_index.specs.Index.{told}
use Rattle.search_index.proofs.blocks.unit_within.Given as goal

abbrev pub invariant-loop-c : goal.invariant-loop-c
invariant-loop-c l = (d : ℕ) → l.from ≤ d → d < l.c → told (get_or l.weights d 0) ≡ 2 → ⊥
