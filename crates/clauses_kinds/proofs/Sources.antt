-- Where the cells of members and of relations stand among the cells of a sheet, and their literals.
use mathlib.Core.Path.{◌≡◌, refl}
use mathlib.Core.Bool.{true}
use mathlib.Core.Logic.{⊎_elim}
use mathlib.Core.List.{List, map}
use Prim.Native.Nat.{ℕ, zero, suc, ◌+◌, ◌*◌, ◌≤◌, ◌<◌}
use native.Mathlib.Nat.{eq-or-lt_of_le, mul-le-mul_right}
use native.Mathlib.Omega.{arith}
use lib.IntN.{ℤ, pos}
use lib.ListN.{length, get_or, take, drop}
use lib.Seq.{drop-cons}
use Rattle.sheet_rules.specs.declared.Layout.{Layout}
use Rattle.sheet_rules.specs.Blocks.{Sheet, sheet_of, sort_count, scope, is_bounded, relation_count}
use Rattle.sheet_rules.specs.Reading.{accepted, reading}
use Rattle.sheet_rules.proofs.Acceptance.{accepted-facts}
use Rattle.relational.specs.Cells.{row_count, row_length, members_of, first_member, first_cell, cell_count}
use Rattle.relational.specs.Matrices.{from}
use Rattle.relational.proofs.Scopes.{bounded-there}
use Rattle.cells.proofs.Layouts.{relation-ends}
use Rattle.clauses_rules.specs.Translation.{absent}
use Rattle.clauses_emission.specs.Emission.{literals_of}
use Rattle.clauses_emission.proofs.Ranges.{literal-at}

-- a part of the words: its literals are the cells'
pub part-cells : (ws : List ℤ) (start n : ℕ) → start + n ≤ length ws
    → literals_of (take n (drop start ws)) ≡ map (λ i. get_or (literals_of ws) i absent) (from start n)
part-cells ws start zero h = refl
part-cells ws start (suc n) h =
    rw (
      drop-cons ws start (pos 0) (omega arith),
      ← literal-at ws start (omega arith),
      part-cells ws (suc start) n (omega arith),
    )

module _ (sheet : Sheet) where
  -- the membership cells of a sort stand before those of the next, and before the relations' cells
  member-ends : (k n : ℕ) → k < n → first_member sheet k + members_of sheet k ≤ first_member sheet n
  unfolding first_member
  member-ends k zero h = absurd (omega arith)
  member-ends k (suc n) h =
      ⊎_elim (λ e. rw e (omega arith)) (λ (l : k < n). omega (arith, member-ends k n l)) (eq-or-lt_of_le (omega arith))

  members-first : (r : ℕ) → first_member sheet (sort_count sheet) ≤ first_cell sheet r
  unfolding first_cell
  members-first zero = omega arith
  members-first (suc r) = omega (arith, members-first r)

  pub members-end : (k : ℕ) → is_bounded sheet k ≡ true → first_member sheet k + scope sheet k ≤ cell_count sheet
  members-end k b =
      let e : members_of sheet k ≡ scope sheet k = rw b refl in
      omega (arith, e, member-ends k (sort_count sheet) (bounded-there sheet k b), members-first (relation_count sheet))

  -- row i of relation r
  pub row-ends : (r i : ℕ) → r < relation_count sheet → i < row_count sheet r
      → first_cell sheet r + i * row_length sheet r + row_length sheet r ≤ cell_count sheet
  row-ends r i h l =
      let e = relation-ends sheet r (relation_count sheet) h in
      omega (arith, rows-below (row_count sheet r) (row_length sheet r) i l)
    where
      rows-below : (m n i : ℕ) → i < m → i * n + n ≤ m * n
      rows-below m n i h = omega (arith, mul-le-mul_right n h)

-- an accepted sheet has few relations
pub low-relation : (s : List ℕ) (layout : Layout) (r : ℕ)
    → reading s ≡ accepted layout → r < relation_count (sheet_of s) → r < 256
low-relation s layout r taken h = omega (arith, (accepted-facts s layout taken).counts.few_relations)
