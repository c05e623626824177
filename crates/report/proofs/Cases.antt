-- The lines of a relation of two rows and of a set, by computation. What the finder prints for the marked cases: crate `marked`.
use mathlib.Core.Path.{◌≡◌, refl}
use mathlib.Core.List.{List, [], ◌∷◌}
use Prim.Native.Nat.{ℕ}
use Rattle.text.specs.Texts.{bytes_of, digits, decimal}
use Rattle.sheet_rules.specs.Blocks.{sheet_of}
use Rattle.relational.specs.Cells.{first_member, first_cell}
use Rattle.clauses_rules.specs.Whole.{series}
use Rattle.report.specs.Printed.{relation_lines}

-- one sort of two atoms, a relation on it and a set
abbrev two-rows : List ℕ
two-rows = 1 ∷ 0 ∷ 1 ∷ 2 ∷ 0 ∷ 0 ∷ 0 ∷ 8 ∷ 2 ∷ 0 ∷ 0 ∷ 0 ∷ 1 ∷ 0 ∷ 0 ∷ 0 ∷ 0 ∷ 6 ∷ 1 ∷ 0 ∷ 0 ∷ 22 ∷ 0 ∷ 0 ∷ []

pub rows_apart : relation_lines (sheet_of two-rows) (0 ∷ 0 ∷ 0 ∷ 1 ∷ 1 ∷ 0 ∷ []) ≡ bytes_of "r0 00 01\nr1 10\n"
unfolding first_member first_cell series digits decimal relation_lines
rows_apart = refl
