-- Open slices are a fresh start.
use Rattle.console_every.proofs.Opening.{opened-fresh}
use Rattle.console_every.proofs.list_cases.Goals as goal

pub print_cases-requires-clause-fresh : goal.print_cases-requires-clause-fresh
print_cases-requires-clause-fresh c = opened-fresh c.requires
