-- `bind` meets its contract: one atom is stored.
use mathlib.Core.Path.{◌≡◌}
use native.Mathlib.Omega.{arith}
use lib.ListN.{length}
use Rattle.nodes.proofs.Binding.{bind-law}
use borrow.Author.Rules.{rules}
use Rattle.nodes.proofs.environments.bind.Goals as goal

pub returns : goal.returns
returns c =
    let z : length c.args.env ≡ 4 = search rules in
    bind-law c.args.env c.args.x c.args.atom (omega arith)
