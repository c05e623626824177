-- The loop puts the digits of the cells before j after the space.
use mathlib.Core.List.{[], ◌∷◌}
use Prim.Native.Nat.{◌+◌}
use Rattle.text.specs.Puts.{Put}
use Rattle.sheet_rules.specs.Blocks.{byte}
use Rattle.clauses_rules.specs.Whole.{series}
use Rattle.report.specs.Printed.{cell_digit}
use Rattle.report.proofs.lines.put_row.Given as goal

abbrev pub invariant-loop-j : goal.invariant-loop-j
invariant-loop-j l =
    Put l.initial.text l.start (series l.j (λ k. cell_digit (byte l.instance (l.first + k)) ∷ [])) l.text
    (l.start + l.j)
