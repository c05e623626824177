-- Each test in its order.
use Rattle.std.proofs.Common.{◌≡◌, ◌∙◌, refl, sym, false}
use Rattle.prelude.proofs.Laws.{and-not-left, and-not-right, and_both}
use Rattle.sheet_rules.specs.Blocks.{four_blocks}
use Rattle.sheet_rules.specs.Reading.{counted, scoped, declared, nodes_fine}
use Rattle.sheet.proofs.Verdicts.{refuse, pass, refuse-false, pass-true}
use Rattle.sheet.proofs.judge.judge_blocks.Goals as goal
use Rattle.sheet.proofs.judge.judge_blocks.Goals.{
  then-not-variables_fine-via-then-not-variables_fine,
  then-not-variables_fine-via-else-not-variables_fine+then-not-relations_fine,
}

pub returns-then-not-is_counted : goal.returns-then-not-is_counted
unfolding counted
returns-then-not-is_counted c =
    pass _ _ 2 _ _ c.is_whole.ensures c.if-not-is_whole.false
    (refuse _ _ 3 _ c.is_counted.ensures c.if-not-is_counted.true)

pub returns-then-not-scopes_fine : goal.returns-then-not-scopes_fine
unfolding counted scoped
returns-then-not-scopes_fine c =
    pass _ _ 2 _ _ c.is_whole.ensures c.if-not-is_whole.false
    (pass _ _ 3 _ _ c.is_counted.ensures c.if-not-is_counted.false
    (refuse _ _ 4 _ c.scopes_fine.ensures c.if-not-scopes_fine.true))

pub returns-then-not-variables_fine : goal.returns-then-not-variables_fine
unfolding counted scoped declared
returns-then-not-variables_fine c =
    let a = c.args in
    let s = four_blocks a.sorts.now a.variables.now a.relations.now a.nodes.now in
    let fails : declared s ≡ false =
    elim c.then-not-variables_fine.branch [
      | then-not-variables_fine-via-then-not-variables_fine w ↦
          and-not-left _ _ (sym c.variables_fine.ensures ∙ w.if-not-variables_fine.true)
      | then-not-variables_fine-via-else-not-variables_fine+then-not-relations_fine w ↦
          and-not-right _ _ (sym (w.relations_fine.ensures s refl refl) ∙ w.if-not-relations_fine.true)
    ] in
    pass _ _ 2 _ _ c.is_whole.ensures c.if-not-is_whole.false
    (pass _ _ 3 _ _ c.is_counted.ensures c.if-not-is_counted.false
    (pass _ _ 4 _ _ c.scopes_fine.ensures c.if-not-scopes_fine.false
    (refuse-false _ 5 _ fails)))

pub returns-then-not-nodes_fine : goal.returns-then-not-nodes_fine
unfolding counted scoped declared nodes_fine
returns-then-not-nodes_fine c =
    let a = c.args in
    let s = four_blocks a.sorts.now a.variables.now a.relations.now a.nodes.now in
    pass _ _ 2 _ _ c.is_whole.ensures c.if-not-is_whole.false
    (pass _ _ 3 _ _ c.is_counted.ensures c.if-not-is_counted.false
    (pass _ _ 4 _ _ c.scopes_fine.ensures c.if-not-scopes_fine.false
    (pass-true _ 5 _ _ (and_both _ _ (sym c.variables_fine.ensures ∙ c.if-not-variables_fine.false)
    (sym (c.relations_fine.ensures s refl refl) ∙ c.if-not-relations_fine.false))
    (refuse _ _ 6 _ (c.nodes_fine.ensures s refl refl refl refl) c.if-not-nodes_fine.true))))

pub returns : goal.returns
unfolding counted scoped declared nodes_fine
returns c =
    let a = c.args in
    let s = four_blocks a.sorts.now a.variables.now a.relations.now a.nodes.now in
    pass _ _ 2 _ _ c.is_whole.ensures c.if-not-is_whole.false
    (pass _ _ 3 _ _ c.is_counted.ensures c.if-not-is_counted.false
    (pass _ _ 4 _ _ c.scopes_fine.ensures c.if-not-scopes_fine.false
    (pass-true _ 5 _ _ (and_both _ _ (sym c.variables_fine.ensures ∙ c.if-not-variables_fine.false)
    (sym (c.relations_fine.ensures s refl refl) ∙ c.if-not-relations_fine.false))
    (pass _ _ 6 _ _ (c.nodes_fine.ensures s refl refl refl refl) c.if-not-nodes_fine.false c.judge_walk.ensures))))
