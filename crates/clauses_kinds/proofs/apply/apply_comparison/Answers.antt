use Rattle.std.proofs.Common.{rules}
use Rattle.clauses_emission.proofs.Steps.{emits-read}
use Rattle.clauses_kinds.proofs.apply.apply_comparison.Goals as goal

pub returns-in-Equal : goal.returns-in-Equal
returns-in-Equal c = rw c.in-Equal.is (emits-read (search rules) c.all_matched.ensures)
