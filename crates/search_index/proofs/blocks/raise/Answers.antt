-- `search_index::blocks::raise` meets its contract. Assumes nothing.
use native.Mathlib.Omega.{arith}
use Rattle.search_index.proofs.WeightCode.{raise-high, raise-low}
use Rattle.search_index.proofs.blocks.raise.Goals as goal

pub returns-then-b-wide : goal.returns-then-b-wide
returns-then-b-wide c =
    let s = c.before.before.before.before in
    raise-low _ _ s.requires.0 s.requires.1 (omega (arith, c.if-b-wide.true, c.wide.ensures))

pub returns-else-b-wide : goal.returns-else-b-wide
returns-else-b-wide c =
    let s = c.before.before.before.before.before in
    raise-high _ _ s.requires.0 s.requires.1 (omega (arith, c.if-b-wide.false, c.wide.ensures))
