-- `search_index::weights::look_up` meets its contract. Assumes nothing.
use mathlib.Core.Path.{ap}
use native.Mathlib.Omega.{arith}
use Rattle.search_index.specs.Index.{status_code, status_of}
use Rattle.search_index.proofs.weights.look_up.Goals as goal

pub returns-in-Conflict : goal.returns-in-Conflict
unfolding status_of status_code
returns-in-Conflict c h = omega (arith, ap status_code (c.in-Conflict.ensures h))

pub returns-in-UnitClause : goal.returns-in-UnitClause
unfolding status_of status_code
returns-in-UnitClause c h = omega (arith, ap status_code (c.in-UnitClause.ensures h))

pub returns-in-Neither : goal.returns-in-Neither
unfolding status_of status_code
returns-in-Neither c h = omega (arith, ap status_code (c.in-Neither.ensures h))
