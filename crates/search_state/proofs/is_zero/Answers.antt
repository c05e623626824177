use Rattle.search_state.proofs.Literals.{zero-word}
use Rattle.search_state.proofs.is_zero.Goals as goal

pub returns : goal.returns
returns c = zero-word c.args.word c.ranges.word
