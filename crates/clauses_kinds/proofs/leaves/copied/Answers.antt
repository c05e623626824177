use mathlib.Core.Path.{◌≡◌}
use native.Mathlib.Omega.{arith}
use Rattle.clauses_kinds.specs.Leaves.{cell_from}
use Rattle.clauses_kinds.proofs.Lists.{filled_none}
use Rattle.clauses_kinds.proofs.leaves.copied.Goals as goal

pub loop-k-init : goal.loop-k-init
loop-k-init c = filled_none (cell_from c.args.given.now c.args.first)

pub returns : goal.returns
returns c =
    let e : c.loop-k.k ≡ c.args.n = omega (arith, c.loop-k-test.false, c.loop-k.auto.k-end) in
    rw (← e) c.loop-k.invariant
