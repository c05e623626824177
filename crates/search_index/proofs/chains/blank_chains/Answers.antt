-- `search_index::chains::blank_chains` meets its contract. Assumes nothing.
use Rattle.search_index.proofs.Blanks.{blank-list}
use Rattle.search_index.proofs.chains.blank_chains.Goals as goal

pub returns : goal.returns
returns c = blank-list 65537
