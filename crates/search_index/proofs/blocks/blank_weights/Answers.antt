-- `search_index::blocks::blank_weights` meets its contract. Assumes nothing.
use Rattle.search_index.proofs.Blanks.{blank-list}
use Rattle.search_index.proofs.blocks.blank_weights.Goals as goal

pub returns : goal.returns
returns c = blank-list 17410
