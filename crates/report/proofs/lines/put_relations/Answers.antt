use mathlib.Core.Path.{◌≡◌, ap}
use Prim.Native.Nat.{◌<◌}
use native.Mathlib.Omega.{arith}
use Rattle.text.proofs.Puts.{put_as, put-length}
use Rattle.sheet_rules.specs.Blocks.{sheet_of, relation_count}
use Rattle.sheet_rules.proofs.Acceptance.{accepted-facts}
use Rattle.cells.proofs.Parts.{relations-counted, few_relations}
use Rattle.cells.proofs.Layouts.{first-most}
use Rattle.clauses_rules.specs.Whole.{series}
use Rattle.report.specs.Printed.{relation_line, relation_lines}
use Rattle.report.proofs.Pieces.{relation-line, lines_none, lines_more}
use Rattle.report.proofs.lines.put_relations.Goals as goal

pub loop-r-init : goal.loop-r-init
loop-r-init c = lines_none

pub offset_bounds-starts-r : goal.offset_bounds-starts-r
offset_bounds-starts-r c = omega (arith, few_relations _ _ c.args.sheet.now.taken, c.loop-r-test.true)

pub bounds-starts-r : goal.bounds-starts-r
bounds-starts-r c = omega (arith, few_relations _ _ c.args.sheet.now.taken, c.loop-r-test.true)

pub row_count-requires : goal.row_count-requires
row_count-requires c = omega (arith, few_relations _ _ c.args.sheet.now.taken, c.loop-r-test.true)

pub row_length-requires : goal.row_length-requires
row_length-requires c = omega (arith, few_relations _ _ c.args.sheet.now.taken, c.loop-r-test.true)

pub invariant_of-grid : goal.invariant_of-grid
invariant_of-grid c =
    let taken = c.args.sheet.now.taken in
    let there : c.loop-r.r < relation_count (sheet_of c.args.sheet.now.bytes.now)
    = omega (arith, relations-counted _ _ taken, c.loop-r-test.true) in record {
      small = (
        omega (
          arith,
          c.cells.ensures.1.1.first c.loop-r.r there,
          first-most _ (accepted-facts _ _ taken) c.loop-r.r,
          few_relations _ _ taken,
          c.loop-r-test.true,
        ),
        (c.row_count.ensures.1, c.row_length.ensures.1),
      );
    }

pub put_line-end-requires-clause-at_in_bounds : goal.put_line-end-requires-clause-at_in_bounds
put_line-end-requires-clause-at_in_bounds c =
    let l = c.loop-r.invariant in
    omega (arith, l.most, put-length l.puts, few_relations _ _ c.args.sheet.now.taken, c.requires, c.loop-r-test.true)

pub put_line-end-requires-clause-number_bound : goal.put_line-end-requires-clause-number_bound
put_line-end-requires-clause-number_bound c =
    omega (arith, few_relations _ _ c.args.sheet.now.taken, c.loop-r-test.true)

pub loop-r-preserved : goal.loop-r-preserved
loop-r-preserved c =
    let there : c.loop-r.r < relation_count (sheet_of c.args.sheet.now.bytes.now)
    = omega (arith, relations-counted _ _ c.args.sheet.now.taken, c.loop-r-test.true) in
    let e = relation-line (sheet_of c.args.sheet.now.bytes.now) c.args.instance.now c.loop-r.r
    (c.cells.ensures.1.1.first c.loop-r.r there) c.row_count.ensures.0 c.row_length.ensures.0 in
    lines_more c.loop-r.invariant (put_as e c.put_line-end.ensures.put) c.put_line-end.ensures.upper_bound

pub returns-clause-put : goal.returns-clause-put
unfolding relation_lines
returns-clause-put c =
    let sheet = sheet_of c.args.sheet.now.bytes.now in
    let k : c.loop-r.r ≡ relation_count sheet = omega (arith, relations-counted _ _ c.args.sheet.now.taken) in
    put_as (ap (λ n. series n (relation_line sheet c.args.instance.now)) k) c.loop-r.invariant.puts

pub returns-clause-upper_bound : goal.returns-clause-upper_bound
returns-clause-upper_bound c = omega (arith, c.loop-r.invariant.most, few_relations _ _ c.args.sheet.now.taken)
