use Rattle.clauses_kinds.proofs.apply.apply_binary.Goals as goal

pub returns-in-Union : goal.returns-in-Union
returns-in-Union c = rw c.in-Union.is c.matched.ensures
