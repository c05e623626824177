use mathlib.Core.Path.{◌≡◌, ap, ◌∙◌}
use Prim.Native.Nat.{ℕ, ◌<◌, ◌≤◌, ◌*◌}
use native.Mathlib.Omega.{arith}
use Rattle.sheet_rules.specs.declared.Layout.{Layout}
use Rattle.sheet_rules.specs.Blocks.{sheet_of, relation_count}
use Rattle.sheet_rules.specs.Reading.{accepted, reading}
use Rattle.sheet_rules.proofs.Acceptance.{accepted-facts}
use Rattle.relational.specs.Cells.{most_cells, first_member, first_cell}
use Rattle.relational.proofs.Places.{square}
use Rattle.cells.proofs.Parts.{sorts-counted, relations-counted, few_relations}
use Rattle.cells.proofs.Layouts.{first-most, stored-none, stored_more}
use Rattle.cells.proofs.sheets.Sheet.cells.Goals as goal

pub first_member-count-requires : goal.first_member-count-requires
first_member-count-requires c =
    let t = c.args.self.now.taken in
    rw (sorts-counted _ _ t) (accepted-facts _ _ t).counts.few_sorts

pub loop-r-init : goal.loop-r-init
loop-r-init c =
    stored-none _ _ (c.first_member-count.ensures.0 ∙ ap (first_member _) (sorts-counted _ _ c.args.self.now.taken))

pub offset_bounds-starts-r : goal.offset_bounds-starts-r
offset_bounds-starts-r c = omega (arith, few_relations _ _ c.args.self.now.taken, c.loop-r-test.true)

pub bounds-starts-r : goal.bounds-starts-r
bounds-starts-r c = omega (arith, few_relations _ _ c.args.self.now.taken, c.loop-r-test.true)

pub row_count-requires : goal.row_count-requires
row_count-requires c = omega (arith, few_relations _ _ c.args.self.now.taken, c.loop-r-test.true)

pub row_length-requires : goal.row_length-requires
row_length-requires c = omega (arith, few_relations _ _ c.args.self.now.taken, c.loop-r-test.true)

pub overflow_add-count : goal.overflow_add-count
overflow_add-count c =
    let t = c.args.self.now.taken in
    omega (
      arith,
      few_relations _ _ t,
      c.loop-r-test.true,
      c.loop-r.invariant.next,
      first-most _ (accepted-facts _ _ t) c.loop-r.r,
      square c.row_count.ensures.1 c.row_length.ensures.1,
    )

pub loop-r-preserved : goal.loop-r-preserved
loop-r-preserved c =
    stored_more (omega (arith, few_relations _ _ c.args.self.now.taken, c.loop-r-test.true)) c.row_count.ensures.0
    c.row_length.ensures.0 c.loop-r.invariant

pub returns : goal.returns
returns c =
    let l = c.loop-r in
    let t = c.args.self.now.taken in
    let k : l.r ≡ relation_count (sheet_of c.args.self.now.bytes.now)
    = omega (arith, relations-counted _ _ t, c.loop-r-test.false, l.auto.r-end) in (
      l.invariant.next ∙ ap (first_cell _) k,
      (
        omega (arith, l.invariant.next, first-most _ (accepted-facts _ _ t) l.r, few_relations _ _ t, relations-counted _ _ t, k),
        record { long = l.invariant.long; first = λ q h. l.invariant.first q (omega (arith, k)) },
      ),
    )
