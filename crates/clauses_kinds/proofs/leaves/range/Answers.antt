use Rattle.clauses_kinds.proofs.leaves.range.Goals as goal

pub returns : goal.returns
returns c env = rw (← c.sort_of_variable.ensures) (c.atoms.ensures env)
