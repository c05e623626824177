-- `search::runs::go_on` meets its contract. Assumes nothing.
use Rattle.search.proofs.Outcomes.{finish-run}
use Rattle.search.proofs.runs.go_on.Goals as goal

pub returns : goal.returns
returns c state h = finish-run _ _ _ _ _ (c.run_as-ran.ensures state h)
