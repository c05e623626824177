use Rattle.std.proofs.Common.{rules}
use Rattle.literal.proofs.Signs.{back}
use Rattle.clauses_emission.proofs.Steps.{emits-read}
use Rattle.clauses_kinds.proofs.apply.apply_connective.Goals as goal

pub returns-in-Implication : goal.returns-in-Implication
returns-in-Implication c =
    rw c.in-Implication.is
    (emits-read (search rules)
    (rw (back c.args.p (search rules), back c.args.q (search rules)) at c.pair-in-Implication.ensures))
