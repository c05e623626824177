-- The lines of the sorts, then those of the relations.
use native.Mathlib.Omega.{arith}
use Rattle.text.proofs.Puts.{put_both}
use Rattle.report.proofs.lines.put_lines.Goals as goal

pub returns : goal.returns
returns c =
    let p = c.put_sorts-end.ensures in
    let q = c.put_relations.ensures in record {
      put = put_both p.put q.put;
      upper_bound = omega (arith, p.upper_bound, q.upper_bound);
    }
