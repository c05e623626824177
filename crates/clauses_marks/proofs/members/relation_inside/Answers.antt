-- The cells of a relation over full sorts have no clause.
use mathlib.Core.Path.{◌≡◌, refl, sym}
use mathlib.Core.Bool.{Bool, true, false, cond}
use mathlib.Core.List.{List, []}
use Prim.Native.Nat.{ℕ, zero, suc}
use native.Mathlib.Omega.{arith}
use Rattle.literal.specs.Literals.{Literal}
use Rattle.sheet_rules.specs.Blocks.{Sheet, sheet_of, is_bounded, first_sort, second_sort}
use Rattle.relational.specs.Cells.{is_set, row_count, row_length}
use Rattle.cells.proofs.Members.{full-first, full-second}
use Rattle.clauses_rules.specs.Gates.{Clause}
use Rattle.clauses_rules.specs.Whole.{series, cell_members, cell_clauses}
use Rattle.clauses_emission.specs.Emission.{literals_of}
use Rattle.clauses_kinds.proofs.Sources.{low-relation}
use Rattle.clauses_marks.specs.Marking.{row_inside, relation_inside}
use Rattle.clauses_marks.proofs.Adding.{adds_none, adds-as, adds-most}
use Rattle.clauses_marks.proofs.Relations.{series-start, series-next}
use Rattle.clauses_marks.proofs.members.relation_inside.Goals as goal

series-none : (n : ℕ) (f : ℕ → List Clause) → ((i : ℕ) → f i ≡ []) → series n f ≡ []
unfolding series
series-none zero f h = refl
series-none (suc n) f h = rw (series-none n f h, h n) refl

module _ (sheet : Sheet) (cells : List Literal) (r : ℕ) (e : is_bounded sheet (first_sort sheet r) ≡ false)
    (f : is_bounded sheet (second_sort sheet r) ≡ false) where
  either_way : (b : Bool) → cond {A = List Literal} b [] [] ≡ []
  either_way true = refl
  either_way false = refl

  no-members : (i j : ℕ) → cell_members sheet cells r i j ≡ []
  no-members i j = rw (e, f) (either_way (is_set sheet r))

  no-clause : (i j : ℕ) → cell_clauses sheet cells r i j ≡ []
  no-clause i j = rw (no-members i j) refl

  none_inside : relation_inside sheet cells r ≡ []
  none_inside =
      series-none (row_count sheet r) (row_inside sheet cells r) λ i.
      series-none (row_length sheet r) (cell_clauses sheet cells r i) (no-clause i)

pub over_bounded-requires : goal.over_bounded-requires
over_bounded-requires c = low-relation _ _ c.args.r c.args.source.now.sheet.taken c.requires.r_bound

pub row_count-i-end-requires : goal.row_count-i-end-requires
row_count-i-end-requires c = low-relation _ _ c.args.r c.args.source.now.sheet.taken c.requires.r_bound

pub loop-i-init : goal.loop-i-init
loop-i-init c = series-start 48 _

pub loop-i-preserved : goal.loop-i-preserved
loop-i-preserved c = series-next 48 _ c.loop-i.i c.loop-i.invariant c.row_inside.ensures refl

pub returns-else-over_bounded : goal.returns-else-over_bounded
returns-else-over_bounded c =
    let a = c.args in
    let sheet = sheet_of a.source.now.sheet.bytes.now in
    let e = c.over_bounded.ensures in
    let none = none_inside sheet (literals_of a.source.now.given.now) a.r (full-first sheet a.r e c.if-over_bounded.false)
    (full-second sheet a.r e c.if-over_bounded.false) in
    adds-as (adds-most (adds_none a.list.now a.tape.now) (omega arith)) (sym none)
