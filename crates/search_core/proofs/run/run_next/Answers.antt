-- `search_core::run::run_next` meets its contract. Assumes nothing.
use Rattle.search_core.proofs.NextCode.{not_full}
use Rattle.search_core.proofs.run.run_next.Goals as goal

pub returns : goal.returns
returns c state i =
    not_full _ _ _ c.args.start _ _ _ _ _ (c.ends-end.ensures state i.was_open i.values_are) c.in_default.not-Found
    (c.run.ensures state i)
