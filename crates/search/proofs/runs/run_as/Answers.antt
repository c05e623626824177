-- `search::runs::run_as` meets its contract. Assumes nothing.
use Rattle.search.proofs.runs.run_as.Goals as goal

pub returns-in-Resume : goal.returns-in-Resume
returns-in-Resume c state i = rw c.in-Resume.is (c.run.ensures state i)

pub returns-in-Next : goal.returns-in-Next
returns-in-Next c state i =
    rw c.in-Next.is (c.run_next.ensures state i)
