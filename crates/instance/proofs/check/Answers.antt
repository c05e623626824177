-- Refused as reading refuses, else the check over the accepted sheet.
use Rattle.std.proofs.Common.{◌≡◌, rules}
use Rattle.instance.specs.Answers.{answer_of}
use Rattle.instance.specs.Held.{check_answer}
use Rattle.instance.proofs.Held.{ensured}
use Rattle.instance.proofs.check.Goals as goal

pub returns-in_err-sheet : goal.returns-in_err-sheet
unfolding check_answer
returns-in_err-sheet c =
    let e : answer_of c.from_residual.result ≡ check_answer c.args.sheet.now c.args.instance.now = search rules in
    let h = ensured _ _ e in record { check_answers = h.0; result_value = h.1 }

pub returns : goal.returns
returns c =
    let e : answer_of c.check_accepted.result ≡ check_answer c.args.sheet.now c.args.instance.now
    = rw c.in_ok-sheet.ensures.same_bytes at c.check_accepted.ensures in
    let h = ensured _ _ e in record { check_answers = h.0; result_value = h.1 }
