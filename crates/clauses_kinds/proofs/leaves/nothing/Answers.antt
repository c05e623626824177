use native.Mathlib.Omega.{arith}
use Rattle.clauses_rules.specs.Translation.{absent}
use Rattle.clauses_kinds.proofs.Lists.{filled_none, filled-fine}
use Rattle.clauses_kinds.proofs.LeafMatrices.{row-fine}
use Rattle.clauses_kinds.proofs.leaves.nothing.Goals as goal

pub returns : goal.returns
returns c n two =
    rw c.set.ensures
    (row-fine (omega arith)
    (filled-fine (λ i. absent) (filled_none (λ i. absent)) (omega arith) two λ i p. absurd (omega arith)))
