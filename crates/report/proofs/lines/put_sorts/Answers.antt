use mathlib.Core.Path.{◌≡◌, ap}
use Prim.Native.Nat.{◌≤◌}
use native.Mathlib.Omega.{arith}
use Rattle.text.proofs.Puts.{put_as, put-length}
use Rattle.sheet_rules.specs.Blocks.{sheet_of, sort_count}
use Rattle.sheet_rules.proofs.Acceptance.{accepted-facts}
use Rattle.cells.specs.declared.sheets.Sheet.{Sheet}
use Rattle.cells.proofs.Parts.{sorts-counted}
use Rattle.clauses_rules.specs.Whole.{series}
use Rattle.report.specs.Printed.{member_line, member_lines}
use Rattle.report.proofs.Pieces.{lines_none, lines_more}
use Rattle.report.proofs.lines.put_sorts.Goals as goal

few : (sheet : Sheet) → sheet.layout.sorts.count ≤ 8
few sheet = omega (arith, sorts-counted _ _ sheet.taken, (accepted-facts _ _ sheet.taken).counts.few_sorts)

pub loop-k-init : goal.loop-k-init
loop-k-init c = lines_none

pub put_sort-end-requires : goal.put_sort-end-requires
put_sort-end-requires c =
    let l = c.loop-k.invariant in
    let few_sorts = few c.args.sheet.now in
    record {
      at_in_bounds = (
        omega (arith, l.most, put-length l.puts, few_sorts, c.requires, c.loop-k-test.true),
        omega (arith, few_sorts, c.loop-k-test.true),
      );
    }

pub loop-k-preserved : goal.loop-k-preserved
loop-k-preserved c = lines_more c.loop-k.invariant c.put_sort-end.ensures.put c.put_sort-end.ensures.upper_bound

pub returns-clause-put : goal.returns-clause-put
unfolding member_lines
returns-clause-put c =
    let sheet = sheet_of c.args.sheet.now.bytes.now in
    let k : c.loop-k.k ≡ sort_count sheet = omega (arith, sorts-counted _ _ c.args.sheet.now.taken) in
    put_as (ap (λ n. series n (member_line sheet c.args.instance.now)) k) c.loop-k.invariant.puts

pub returns-clause-upper_bound : goal.returns-clause-upper_bound
returns-clause-upper_bound c = omega (arith, c.loop-k.invariant.most, few c.args.sheet.now)
