-- `search_core::run::ends` meets its contract. Assumes nothing.
use mathlib.Core.Path.{sym, ◌∙◌}
use Rattle.search_core.proofs.RunCode.{ends-turn, ends-none-left, ends-unit, ends-full, ends_open}
use Rattle.search_core.proofs.run.ends.Goals as goal

pub returns-then-more : goal.returns-then-more
returns-then-more c state o i =
    ends-turn _ _ _ _ o i c.in-Conflict.ensures
    (sym c.any_decision-more.ensures ∙ c.if-more.true)

pub returns-then-i-values : goal.returns-then-i-values
returns-then-i-values c state o i =
    ends-full _ _ _ _ o i _ c.in-Neither.ensures
    c.lowest_open-i.ensures c.if-i-values.true

pub returns-else-more : goal.returns-else-more
returns-else-more c state o i =
    ends-none-left _ _ _ _ o i c.in-Conflict.ensures
    (sym c.any_decision-more.ensures ∙ c.if-more.false)

pub returns-in-UnitClause : goal.returns-in-UnitClause
returns-in-UnitClause c state o i = ends-unit _ _ _ _ o i _ c.in-UnitClause.ensures

pub returns-else-i-values : goal.returns-else-i-values
returns-else-i-values c state o i =
    ends_open _ _ _ _ o i _ c.in-Neither.ensures
    c.lowest_open-i.ensures c.if-i-values.false
