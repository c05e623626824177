-- `search_index::weights::byte_weight` meets its contract. Assumes nothing.
use Rattle.search_index.proofs.WeightCode.{weighs-true, weighs-open, weighs-false}
use Rattle.search_index.proofs.weights.byte_weight.Goals as goal

pub returns-then-x-eq1 : goal.returns-then-x-eq1
returns-then-x-eq1 c = weighs-true _ c.if-x-eq1.true

pub returns-then-x-eq2 : goal.returns-then-x-eq2
returns-then-x-eq2 c = weighs-open _ c.if-x-eq2.true

pub returns : goal.returns
returns c = weighs-false _ c.if-x-eq1.false c.if-x-eq2.false
