use Rattle.std.proofs.Common.{sym, ◌∙◌, to_z-of_z, arith}
use Rattle.std.proofs.lemmas.Bool.Decides.{nat_tests}
use Rattle.search_state.proofs.Literals.{goes_above, goes-below}
use Rattle.search_state.proofs.goes_with.Goals as goal

pub returns-then-is_positive : goal.returns-then-is_positive
returns-then-is_positive c =
    goes_above _ c.args.l c.args.b (to_z-of_z c.ranges.l) (sym c.is_positive.ensures ∙ c.if-is_positive.true)

pub returns-in-0 : goal.returns-in-0
returns-in-0 c =
    let e = goes-below _ c.args.l c.args.b (to_z-of_z c.ranges.l) c.requires (sym c.is_positive.ensures ∙ c.if-is_positive.false) in
    grind (arith, nat_tests)

pub returns-in_default : goal.returns-in_default
returns-in_default c =
    let e = goes-below _ c.args.l c.args.b (to_z-of_z c.ranges.l) c.requires (sym c.is_positive.ensures ∙ c.if-is_positive.false) in
    grind (arith, nat_tests)
