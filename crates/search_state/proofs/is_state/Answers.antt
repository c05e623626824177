-- `search_state::is_state` meets its contract. Assumes nothing.
use Rattle.search_state.proofs.Answer.{too_long}
use Rattle.search_state.proofs.is_state.Goals as goal

pub returns-then-values-used : goal.returns-then-values-used
returns-then-values-used c =
    let s = c.args in
    too_long s.values.now s.trail.now s.used c.if-values-used.true
