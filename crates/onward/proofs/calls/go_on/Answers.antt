-- The steps of a call fit; a call that is not spent ends the chain, and one that is spent makes it longer.
use Rattle.std.proofs.Common.{◌≡◌, ◌+◌, ◌-◌, sym, ◌∙◌, ap, Some, None, arith}
use Rattle.search_rules.specs.declared.Steps.{Steps}
use Rattle.search.specs.Answers.{Answer, found, none, spent, refused, answer_of, steps_in}
use Rattle.search.proofs.Counters.{resumed-few}
use Rattle.search.proofs.MoreSteps.{Unspent}
use Rattle.onward.specs.Private.{spent_in}
use Rattle.onward.proofs.CallByCall.{most-calls, ended, goes_on, at-end}
use Rattle.onward.proofs.calls.go_on.Goals as goal

was_spent : (a : Answer) (t : Steps) → spent_in a ≡ Some t → a ≡ spent t
was_spent (found s) t e = cc
was_spent (none s) t e = cc
was_spent (spent s) t e = cc
was_spent (refused n) t e = cc

unspent : (a : Answer) → spent_in a ≡ None → Unspent a
unspent (found s) e t f = cc
unspent (none s) e t f = cc
unspent (spent s) e t f = cc
unspent (refused n) e t f = cc

pub step_figure-requires : goal.step_figure-requires
step_figure-requires c =
    let l = c.loop-done in
    let a = was_spent (answer_of c.resumed-call.result.answer) c.in-Some.steps (sym c.in-Some.ensures) in
    resumed-few c.args.list.now c.args.v l.values l.trail l.position 1000000 c.in-Some.steps
    (sym (ap (λ r. steps_in r.outcome.answer) c.resumed-call.ensures) ∙ ap steps_in a)

pub returns-in_default : goal.returns-in_default
returns-in_default c =
    ended _ _ _ _ _ _ _ _ c.loop-done.invariant (omega (arith, c.loop-done-test.true)) _ _ _ _ c.resumed-call.ensures
    (unspent (answer_of c.resumed-call.result.answer) (sym c.spent_steps.ensures ∙ c.in_default.is))

pub loop-done-preserved : goal.loop-done-preserved
loop-done-preserved c =
    let a = was_spent (answer_of c.resumed-call.result.answer) c.in-Some.steps (sym c.in-Some.ensures) in
    let fewer : most-calls - (c.loop-done.done + 1) ≡ most-calls - c.loop-done.done - 1 = omega arith in
    rw fewer
    (goes_on _ _ _ _ _ _ _ _ c.loop-done.invariant (omega (arith, c.loop-done-test.true)) _ _ _ _ c.resumed-call.ensures _ a
    c.resumed-call.auto.values c.resumed-call.auto.trail)

pub returns : goal.returns
returns c = at-end _ _ _ _ _ _ _ _ c.loop-done.invariant (omega (arith, c.loop-done-test.false)) _ c.resumed.ensures
