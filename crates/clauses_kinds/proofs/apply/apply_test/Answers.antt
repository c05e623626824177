use Rattle.std.proofs.Common.{rules}
use Rattle.clauses_emission.proofs.Steps.{emits-read}
use Rattle.clauses_kinds.proofs.apply.apply_test.Goals as goal

pub returns-in-Lone : goal.returns-in-Lone
returns-in-Lone c = rw c.in-Lone.is (emits-read (search rules) c.lone.ensures)
