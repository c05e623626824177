-- A call with no steps that is not spent is the whole, and one that is spent is taken up.
use Rattle.std.proofs.Common.{◌≡◌, rules, ap, Err}
use Rattle.search.specs.Answers.{end_answer}
use Rattle.search.proofs.Ends.{not_spent}
use Rattle.solve_rules.specs.Finding.{slices}
use Rattle.solve.proofs.FindLaws.{means}
use Rattle.onward.specs.Limits.{most_steps}
use Rattle.onward.proofs.AtOnce.{at_once}
use Rattle.onward.proofs.TakenUp.{begins}
use Rattle.onward.proofs.find_on.Goals as goal

pub returns-in_err-begun : goal.returns-in_err-begun
returns-in_err-begun c =
    let s = c.args.sheet.now in
    let lent = slices c.args.list.now c.args.values.now c.args.trail.now c.args.instance.now in
    let e = c.in_err-begun.ensures in
    let r : c.from_residual.result ≡ Err c.in_err-begun.field-0.0 = search rules in
    let l = at_once s lent _ _ (λ steps f. cc) e.result_value e.instance_after in
    rw r (record { result_value = l.answer_is; instance_after = l.left_is; finds = means s lent most_steps _ _ l })

pub returns-in-Spent-clause-finds : goal.returns-in-Spent-clause-finds
returns-in-Spent-clause-finds c =
    let s = c.args.sheet.now in
    let lent = slices c.args.list.now c.args.values.now c.args.trail.now c.args.instance.now in
    let e = c.in_ok-begun.ensures in
    let t = c.in_ok-begun.begun.steps in
    let b = begins s lent _ _ t (ap (λ x. end_answer x t) c.in-Spent.is) e.result_value e.instance_after in
    means s lent most_steps _ _ (c.take_up.ensures lent b)

pub returns : goal.returns
returns c =
    let s = c.args.sheet.now in
    let lent = slices c.args.list.now c.args.values.now c.args.trail.now c.args.instance.now in
    let e = c.in_ok-begun.ensures in
    let l = at_once s lent _ _ (not_spent _ _ c.in_default.not-Spent) e.result_value e.instance_after in
    record { result_value = l.answer_is; instance_after = l.left_is; finds = means s lent most_steps _ _ l }
