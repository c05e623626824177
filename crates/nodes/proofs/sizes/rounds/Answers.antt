use Rattle.std.proofs.Common.{◌≡◌, ◌<◌, arith}
use Rattle.std.proofs.lemmas.Nat.{one_shl}
use Rattle.relational.proofs.Rounds.{rounds-is}
use Rattle.nodes.proofs.Powers.{below_power}
use Rattle.nodes.proofs.sizes.rounds.Goals as goal

pub returns-then-n-k : goal.returns-then-n-k
returns-then-n-k c =
    rounds-is _ _ (rw (one_shl c.loop-k.k 64 (omega arith)) at c.if-n-k.true) c.loop-k.invariant

pub returns : goal.returns
returns c =
    let e : c.loop-k.k ≡ c.args.n = omega arith in
    rounds-is _ _ (below_power c.args.n) (rw e at c.loop-k.invariant)
