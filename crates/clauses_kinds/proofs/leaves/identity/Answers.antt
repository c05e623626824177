use mathlib.Core.Path.{◌≡◌}
use Prim.Native.Nat.{◌*◌}
use native.Mathlib.Omega.{arith}
use Rattle.clauses_kinds.proofs.LeafMatrices.{identity-from, diagonal}
use Rattle.clauses_kinds.proofs.Lists.{filled_none}
use Rattle.clauses_kinds.proofs.leaves.identity.Goals as goal

pub loop-k-init : goal.loop-k-init
loop-k-init c = filled_none (diagonal c.args.p)

pub returns : goal.returns
returns c =
    let p = c.args.p in
    let e : c.loop-k.k ≡ p.columns * p.columns = omega (arith, c.loop-k-test.false, c.loop-k.auto.k-end) in
    identity-from p _ c.requires.0 (rw (← e) c.loop-k.invariant)
