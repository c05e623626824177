-- Where the membership cells stand: before the relations' cells, sort by sort.
use mathlib.Core.Path.{◌≡◌, refl, sym}
use mathlib.Core.Logic.{⊎_elim}
use mathlib.Core.Bool.{true}
use Prim.Native.Nat.{ℕ, zero, suc, ◌+◌, ◌≤◌, ◌<◌}
use native.Mathlib.Nat.{eq-or-lt_of_le}
use native.Mathlib.Omega.{arith}
use Rattle.sheet_rules.specs.Blocks.{Sheet, sort_count, relation_count, scope, is_bounded}
use Rattle.relational.specs.Cells.{members_of, first_member, member_cell, member_count, first_cell, cell_count}
use Rattle.cells.proofs.Layouts.{bounded-members}

members-end : (sheet : Sheet) (k n : ℕ) → k < n → first_member sheet k + members_of sheet k ≤ first_member sheet n
unfolding first_member
members-end sheet k zero h = absurd (omega arith)
members-end sheet k (suc n) h =
    ⊎_elim (λ e. rw e (omega arith)) (λ l. omega (arith, members-end sheet k n l)) (eq-or-lt_of_le (omega arith))

cells-after : (sheet : Sheet) (r : ℕ) → member_count sheet ≤ first_cell sheet r
unfolding first_cell
cells-after sheet zero = omega arith
cells-after sheet (suc r) = omega (arith, cells-after sheet r)

pub member-inside : (sheet : Sheet) (k i : ℕ) → k < sort_count sheet → is_bounded sheet k ≡ true → i < scope sheet k
    → member_cell sheet k i < cell_count sheet
member-inside sheet k i h b l =
    let size : scope sheet k ≡ members_of sheet k = bounded-members sheet k (sym b) refl refl in
    let end = members-end sheet k (sort_count sheet) h in
    let after = cells-after sheet (relation_count sheet) in
    omega (arith, size, end, after, l)
