use Rattle.std.proofs.Common.{sym, ap, ◌∙◌, to_z-of_z}
use Rattle.search_rules.specs.Rules.{place_of}
use Rattle.search_state.proofs.Literals.{place-of, is_within}
use Rattle.search_state.proofs.Marks.{agrees_at}
use Rattle.search_state.proofs.agrees.Goals as goal

pub returns-then-is_literal : goal.returns-then-is_literal
returns-then-is_literal c =
    let l = to_z-of_z c.ranges.l in
    c.goes_with.ensures
    ∙ agrees_at c.args.values.now _ c.args.l _ l (c.place.ensures ∙ place-of _ ∙ ap place_of l)
    (sym (is_within _ _ _ c.requires l) ∙ sym c.is_literal.ensures ∙ c.if-is_literal.true)
