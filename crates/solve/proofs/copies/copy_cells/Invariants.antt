-- One bit more of the part that is written.
use Rattle.std.proofs.Common.{◌≡◌, ◌++◌, map, length, take, drop}
use Rattle.search_rules.specs.Rules.{settle}
use Rattle.solve.proofs.copies.copy_cells.Given as goal

abbrev pub invariant-loop-i : goal.invariant-loop-i
invariant-loop-i l =
    (length l.bit-items ≡ l.cells) × (l.bit-items ≡ take l.i (drop 1 (map settle l.values)) ++ drop l.i l.initial.bit-items)
