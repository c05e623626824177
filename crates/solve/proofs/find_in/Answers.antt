-- `find_in` meets its contract: what writing, search and the copy leave is the definition's.
use Rattle.std.proofs.Common.{◌≡◌, ◌∙◌, length, take, length-take-le, arith, rules, ap, Err}
use Rattle.search.specs.Answers.{end_answer}
use Rattle.search.proofs.Ends.{not_found}
use Rattle.solve_rules.proofs.Calls.{writes}
use Rattle.solve.proofs.FindLaws.{cells-below, leaves-found, leaves_kept}
use Rattle.solve.proofs.find_in.Goals as goal

pub returns-in_err-write : goal.returns-in_err-write
returns-in_err-write c =
    let e = c.in_err-write.ensures.result_value
    ∙ writes c.args.sheet.now c.requires.limits c.args.list.now c.requires.room.list in
    absurd cc

pub returns-in_err-ended : goal.returns-in_err-ended
returns-in_err-ended c =
    let e = c.in_err-ended.ensures in
    let r : c.from_residual-in_err-ended.result ≡ Err c.in_err-ended.field-0.0 = search rules in
    rw r
    (leaves_kept c.args.sheet.now _ c.args.budget c.args.size c.args.cells c.requires _ _ _ _ c.write.ensures.list_after
    e.result_value e.values_after e.trail_after (λ steps f. cc))

pub copy_cells-requires-clause-cells_in_bounds : goal.copy_cells-requires-clause-cells_in_bounds
copy_cells-requires-clause-cells_in_bounds c =
    let v = c.args.size.variables in
    let e : length (take v c.search.new.values) ≡ v = length-take-le v c.search.new.values (search rules) in
    rw e (cells-below _ _ c.args.size c.args.cells c.requires)

pub returns-in-Found : goal.returns-in-Found
returns-in-Found c =
    let e = c.in_ok-ended.ensures in
    let t = c.in_ok-ended.ended.steps in
    leaves-found c.args.sheet.now _ c.args.budget c.args.size c.args.cells c.requires _ _ _ _ c.write.ensures.list_after
    e.result_value e.values_after e.trail_after t (ap (λ x. end_answer x t) c.in-Found.is) _ c.copy_cells.ensures

pub returns : goal.returns
returns c =
    let e = c.in_ok-ended.ensures in
    leaves_kept c.args.sheet.now _ c.args.budget c.args.size c.args.cells c.requires _ _ _ _ c.write.ensures.list_after
    e.result_value e.values_after e.trail_after (not_found _ _ c.in_default.not-Found)
