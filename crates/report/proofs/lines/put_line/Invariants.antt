-- The loop puts the rows before i after the letter and the number.
use mathlib.Core.List.{◌∷◌, ◌++◌}
use Prim.Native.Nat.{◌+◌, ◌*◌, ◌≤◌}
use Rattle.text.specs.Puts.{Put}
use Rattle.text.specs.Texts.{decimal}
use Rattle.clauses_rules.specs.Whole.{series}
use Rattle.report.specs.Private.{row_from}
use Rattle.report.proofs.lines.put_line.Given as goal

abbrev pub invariant-loop-i : goal.invariant-loop-i
invariant-loop-i l =
    let grid = l.grid in
    (l.end ≤ l.at + 3 + 9 * l.i)
    × Put l.fn.text l.at
    ((l.letter ∷ decimal l.number)
    ++ series l.i (λ k. row_from grid.instance.now (grid.first + k * grid.columns) grid.columns)) l.text l.end
