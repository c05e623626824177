-- A line, or nothing.
use mathlib.Core.Path.{sym, ◌∙◌}
use native.Mathlib.Omega.{arith}
use Rattle.text.proofs.Puts.{put-nothing, put_as}
use Rattle.sheet_rules.specs.Blocks.{sheet_of}
use Rattle.report.proofs.Pieces.{sort-line, no_line}
use Rattle.report.proofs.lines.put_sort.Goals as goal

pub returns-then-is_bounded : goal.returns-then-is_bounded
returns-then-is_bounded c =
    let a = c.args in
    let e = sort-line (sheet_of a.sheet.now.bytes.now) a.instance.now a.k c.first_member.ensures.0 c.scope.ensures.0
    (sym c.is_bounded.ensures ∙ c.if-is_bounded.true) in record {
      put = put_as e c.put_line.ensures.put;
      upper_bound = c.put_line.ensures.upper_bound;
    }

pub returns : goal.returns
returns c =
    let a = c.args in
    let e = no_line (sheet_of a.sheet.now.bytes.now) a.instance.now a.k
    (sym c.is_bounded.ensures ∙ c.if-is_bounded.false) in record {
      put = put_as e (put-nothing _ _);
      upper_bound = omega arith;
    }
