-- Shapes, root and visits, in this order.
use Rattle.std.proofs.Common.{◌≡◌, ◌∙◌, false, refl, ap, arith, sym}
use Rattle.prelude.proofs.Laws.{and-not-left, and-not-right, and_both}
use Rattle.shapes.specs.Shapes.{is_shaped, is_formula}
use Rattle.shapes.specs.declared.Shape.TheVariants.{Ill}
use Rattle.sheet_rules.specs.Blocks.{four_blocks, node_count, root}
use Rattle.sheet_rules.specs.Reading.{accepted, shaped, rooted, walkable}
use Rattle.sheet.proofs.FillingLaws.{filled_all}
use Rattle.sheet.proofs.Verdicts.{refuse, pass, refuse-false, pass-true, over-limit, under-limit}
use Rattle.sheet.proofs.judge.judge_walk.Goals as goal
use Rattle.sheet.proofs.judge.judge_walk.Goals.{
  then-not-is_formula-via-then-not-is_formula,
  then-not-is_formula-via-else-not-is_formula+then-not-closed,
}

pub returns-then-not-all_shaped : goal.returns-then-not-all_shaped
unfolding shaped
returns-then-not-all_shaped c =
    let a = c.args in
    let s = four_blocks a.sorts.now a.variables.now a.relations.now a.nodes.now in
    let f = c.shapes_of-shapes.ensures s refl refl refl in
    refuse _ _ 7 _ (c.all_shaped.ensures ∙ filled_all is_shaped Ill (node_count s) _ _ f (omega arith)) c.if-not-all_shaped.true

pub returns-then-not-is_formula : goal.returns-then-not-is_formula
unfolding shaped rooted
returns-then-not-is_formula c =
    let a = c.args in
    let s = four_blocks a.sorts.now a.variables.now a.relations.now a.nodes.now in
    let f = c.shapes_of-shapes.ensures s refl refl refl in
    let formula = c.is_formula.ensures ∙ ap is_formula (f.at (root s)) in
    let fails : rooted s ≡ false =
    elim c.then-not-is_formula.branch [
      | then-not-is_formula-via-then-not-is_formula w ↦ and-not-left _ _ (sym formula ∙ w.if-not-is_formula.true)
      | then-not-is_formula-via-else-not-is_formula+then-not-closed w ↦
          and-not-right _ _ (sym (w.closed.ensures s refl) ∙ w.if-not-closed.true)
    ] in
    pass _ _ 7 _ _ (c.all_shaped.ensures ∙ filled_all is_shaped Ill (node_count s) _ _ f (omega arith)) c.if-not-all_shaped.false
    (refuse-false _ 8 _ fails)

pub returns-then-visits-root-gt1000000 : goal.returns-then-visits-root-gt1000000
unfolding shaped rooted walkable
returns-then-visits-root-gt1000000 c =
    let a = c.args in
    let s = four_blocks a.sorts.now a.variables.now a.relations.now a.nodes.now in
    let f = c.shapes_of-shapes.ensures s refl refl refl in
    let v = (c.visits_of-visits.ensures s refl refl refl).at (root s) in
    let formula = c.is_formula.ensures ∙ ap is_formula (f.at (root s)) in
    pass _ _ 7 _ _ (c.all_shaped.ensures ∙ filled_all is_shaped Ill (node_count s) _ _ f (omega arith)) c.if-not-all_shaped.false
    (pass-true _ 8 _ _ (and_both _ _ (sym formula ∙ c.if-not-is_formula.false) (sym (c.closed.ensures s refl) ∙ c.if-not-closed.false))
    (refuse-false _ 9 _ (over-limit _ _ v c.if-visits-root-gt1000000.true)))

pub returns : goal.returns
unfolding shaped rooted walkable
returns c =
    let a = c.args in
    let s = four_blocks a.sorts.now a.variables.now a.relations.now a.nodes.now in
    let f = c.shapes_of-shapes.ensures s refl refl refl in
    let v = (c.visits_of-visits.ensures s refl refl refl).at (root s) in
    let formula = c.is_formula.ensures ∙ ap is_formula (f.at (root s)) in
    pass _ _ 7 _ _ (c.all_shaped.ensures ∙ filled_all is_shaped Ill (node_count s) _ _ f (omega arith)) c.if-not-all_shaped.false
    (pass-true _ 8 _ _ (and_both _ _ (sym formula ∙ c.if-not-is_formula.false) (sym (c.closed.ensures s refl) ∙ c.if-not-closed.false))
    (pass-true _ 9 _ _ (under-limit _ _ v c.if-visits-root-gt1000000.false) (ap accepted (c.layout.ensures s refl refl refl refl))))
