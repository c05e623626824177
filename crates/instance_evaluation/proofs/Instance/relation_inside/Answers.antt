-- The cells of a relation over full sorts are all of atoms.
use mathlib.Core.Path.{◌≡◌, refl}
use mathlib.Core.Bool.{Bool, true, false, not, cond}
use mathlib.Core.List.{List}
use Prim.Native.Nat.{ℕ}
use native.Mathlib.Omega.{arith}
use Rattle.prelude.proofs.Laws.{or_right, each_of}
use Rattle.sheet_rules.specs.Blocks.{Sheet, sheet_of, is_bounded, first_sort, second_sort}
use Rattle.relational.specs.Cells.{is_set, row_count, row_length, cell}
use Rattle.relational.specs.Evaluation.{flag_at, cell_inside}
use Rattle.cells.proofs.Members.{full-first, full-second}
use Rattle.instance_evaluation.specs.Walking.{of_members, row_inside, relation_inside}
use Rattle.instance_evaluation.proofs.Layouts.{few}
use Rattle.instance_evaluation.proofs.Instance.relation_inside.Goals as goal

module _ (sheet : Sheet) (instance : List ℕ) (r : ℕ) (e : is_bounded sheet (first_sort sheet r) ≡ false)
    (f : is_bounded sheet (second_sort sheet r) ≡ false) where
  either_way : (b : Bool) → cond b true true ≡ true
  either_way true = refl
  either_way false = refl

  all-members : (i j : ℕ) → of_members sheet instance r i j ≡ true
  all-members i j = rw (e, f) (either_way (is_set sheet r))

  full-inside : relation_inside sheet instance r ≡ true
  full-inside =
      each_of (row_inside sheet instance r) (row_count sheet r) λ i _.
      each_of (cell_inside sheet instance r i) (row_length sheet r) λ j _.
      or_right (not (flag_at sheet instance (cell sheet r i j))) (of_members sheet instance r i j) (all-members i j)

pub over_bounded-requires : goal.over_bounded-requires
over_bounded-requires c = omega (arith, few c.args.self.now c.requires)

pub returns-then-not-over_bounded : goal.returns-then-not-over_bounded
returns-then-not-over_bounded c =
    let i = c.args.self.now in
    let sheet = sheet_of i.sheet.bytes.now in
    let e = c.over_bounded.ensures in
    let f = c.if-not-over_bounded.true in
    let full = full-inside sheet i.cells.now c.args.r (full-first sheet c.args.r e f)
    (full-second sheet c.args.r e f) in
    rw (f, full) refl
