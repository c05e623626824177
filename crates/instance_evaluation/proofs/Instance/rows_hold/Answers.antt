-- Each row in turn.
use native.Mathlib.Omega.{arith}
use Rattle.std.proofs.Common.{rules, tests}
use Rattle.sheet_rules.specs.Blocks.{sheet_of}
use Rattle.instance_evaluation.specs.Walking.{row_marked}
use Rattle.instance_evaluation.proofs.Layouts.{few}
use Rattle.instance_evaluation.proofs.Turns.{each-turn}
use Rattle.instance_evaluation.proofs.Instance.rows_hold.Goals as goal

pub row_count-requires : goal.row_count-requires
row_count-requires c = omega (arith, few c.args.self.now c.requires)

pub returns : goal.returns
returns c =
    let i = c.args.self.now in
    each-turn (row_marked (sheet_of i.sheet.bytes.now) i.cells.now c.args.r) c.all.ensures.ran c.row_count.ensures.0
    (λ x b q k. search (rules, tests))
