-- Counting does not refuse a sheet of which a call was spent.
use Rattle.std.proofs.Common.{sym}
use Rattle.onward.proofs.TakenUp.{not_refused}
use Rattle.onward.proofs.begun.take_up.Goals as goal

pub returns-in_err-size : goal.returns-in_err-size
returns-in_err-size c lent b = absurd (not_refused c.args.sheet.now lent _ b _ (sym c.in_err-size.ensures))
