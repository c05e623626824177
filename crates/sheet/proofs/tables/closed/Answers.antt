use Rattle.std.proofs.Common.{◌∙◌, ℕ, false, not, get_or, refl, arith, rules, tests}
use Rattle.std.proofs.lemmas.Iterator.{YieldsList-from_range}
use Rattle.std.proofs.lemmas.Iterator.Search.{all_from_yields_List}
use Rattle.prelude.proofs.Chains.{each-is}
use Rattle.sheet_rules.specs.Blocks.{root as root_of}
use Rattle.sheet_rules.specs.Tables.{free}
use Rattle.sheet.proofs.tables.closed.Goals as goal

pub returns : goal.returns
returns c sheet nodes =
    let n = c.args.variables in
    let fine = λ (x : ℕ). not (get_or (free sheet x) (root_of sheet) false) in
    all_from_yields_List fine _ _ _ c.all.ensures.ran (YieldsList-from_range 0 n n refl (omega arith))
    (λ x b q k. search (rules, tests))
    ∙ each-is fine n
