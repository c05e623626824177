-- `find` meets its contract: what it ensures is the definition, and what the definition means is demand 3 of the call.
use Rattle.std.proofs.Common.{◌≡◌, rules}
use Rattle.clauses.specs.Answers.{count_answer}
use Rattle.search.specs.Answers.{answer_of}
use Rattle.solve_rules.specs.Finding.{slices, finding}
use Rattle.solve.proofs.FindLaws.{means}
use Rattle.solve.proofs.find.Goals as goal

pub returns-in_err-accepted : goal.returns-in_err-accepted
unfolding count_answer finding
returns-in_err-accepted c =
    let a = c.args in
    let lent = slices a.list.now a.values.now a.trail.now a.instance.now in
    let e : answer_of c.from_residual.result ≡ (finding a.sheet.now lent a.budget).answer = search rules in
    let k : lent ≡ (finding a.sheet.now lent a.budget).left = search rules in
    record { result_value = e; instance_after = k; finds = means _ _ _ _ _ (record { answer_is = e; left_is = k }) }

pub returns-in_err-size : goal.returns-in_err-size
unfolding finding
returns-in_err-size c =
    let a = c.args in
    let lent = slices a.list.now a.values.now a.trail.now a.instance.now in
    let e : answer_of c.from_residual-in_err-size.result ≡ (finding a.sheet.now lent a.budget).answer = search rules in
    let k : lent ≡ (finding a.sheet.now lent a.budget).left = search rules in
    record { result_value = e; instance_after = k; finds = means _ _ _ _ _ (record { answer_is = e; left_is = k }) }

pub returns : goal.returns
returns c =
    let l = c.find_sized.ensures in
    record { result_value = l.answer_is; instance_after = l.left_is; finds = means _ _ _ _ _ l }
