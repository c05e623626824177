-- `search_index::blocks::recount` meets its contract. Assumes nothing.
use Rattle.search_index.proofs.WeightCode.{recount-more, recount-less, recount-none}
use Rattle.search_index.proofs.blocks.recount.Goals as goal

pub returns-then-new-eq1 : goal.returns-then-new-eq1
returns-then-new-eq1 c = recount-more _ _ _ c.requires.2 c.if-new-eq1.true

pub returns-then-old-eq1 : goal.returns-then-old-eq1
returns-then-old-eq1 c = recount-less _ _ _ c.if-new-eq1.false c.if-old-eq1.true (c.requires.1 c.if-old-eq1.true)

pub returns : goal.returns
returns c = recount-none _ _ _ c.if-new-eq1.false c.if-old-eq1.false
