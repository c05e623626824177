-- What the calls and read-back leave is the definition's; the sheet's numbers fit.
use Rattle.std.proofs.Common.{◌≡◌, ◌∙◌, rules, arith, sym, ap, length-take-le, Err}
use Rattle.clauses.proofs.Answered.{count_fits}
use Rattle.search.specs.Answers.{end_answer}
use Rattle.search.proofs.Ends.{not_found}
use Rattle.onward.proofs.TakenUp.{fit, leaves-found, leaves_kept}
use Rattle.onward.proofs.begun.run_on.Goals as goal

pub slice_bounds-go_on-end : goal.slice_bounds-go_on-end
slice_bounds-go_on-end c =
    let f = fit c.args.sheet.now c.args.size _ c.requires.sheet_value c.requires.some_begun in
    sym (length-take-le _ c.args.list.now f.words)

pub overflow_cast-v : goal.overflow_cast-v
overflow_cast-v c =
    let f = fit c.args.sheet.now c.args.size _ c.requires.sheet_value c.requires.some_begun in
    let h = f.few in search rules

pub slice_bounds-read_back-end : goal.slice_bounds-read_back-end
slice_bounds-read_back-end c =
    let f = fit c.args.sheet.now c.args.size _ c.requires.sheet_value c.requires.some_begun in
    omega (arith, f.values, c.go_on-run.auto.values)

pub slice_bounds-read_back-end-in-Found : goal.slice_bounds-read_back-end-in-Found
slice_bounds-read_back-end-in-Found c =
    let f = fit c.args.sheet.now c.args.size _ c.requires.sheet_value c.requires.some_begun in
    sym (length-take-le _ c.go_on-run.new.values (omega (arith, f.values, c.go_on-run.auto.values)))

pub returns-in_err-ended : goal.returns-in_err-ended
returns-in_err-ended c lent b =
    let z = c.args.size in
    let n = count_fits c.args.sheet.now z.variables z.clauses z.words c.requires.sheet_value in
    let r : c.from_residual.result ≡ Err c.in_err-ended.field-0.0 = search rules in
    rw r
    (leaves_kept c.args.sheet.now lent _ b z.variables z.words n.variables n.words _ _ _ _
    (rw c.in_err-ended.was at c.go_on-run.ensures) (λ steps f. cc))

pub returns-in-Found : goal.returns-in-Found
returns-in-Found c lent b =
    let z = c.args.size in
    let n = count_fits c.args.sheet.now z.variables z.clauses z.words c.requires.sheet_value in
    let t = c.in_ok-ended.ended.steps in
    leaves-found c.args.sheet.now lent _ b z.variables z.words n.variables n.words _ _ _ _
    (rw c.in_ok-ended.was at c.go_on-run.ensures) t (ap (λ x. end_answer x t) c.in-Found.is) _ c.read_back.ensures.instance_after

pub returns : goal.returns
returns c lent b =
    let z = c.args.size in
    let n = count_fits c.args.sheet.now z.variables z.clauses z.words c.requires.sheet_value in
    leaves_kept c.args.sheet.now lent _ b z.variables z.words n.variables n.words _ _ _ _
    (rw c.in_ok-ended.was at c.go_on-run.ensures) (not_found _ _ c.in_default.not-Found)
