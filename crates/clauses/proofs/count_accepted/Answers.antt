use mathlib.Core.Path.{◌∙◌}
use Rattle.clauses.proofs.Answering.{count-is}
use Rattle.clauses.proofs.count_accepted.Goals as goal

pub returns : goal.returns
returns c = c.size_of.ensures ∙ count-is _ _ c.args.sheet.now.taken c.translate.ensures
