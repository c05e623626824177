-- Refused as counting refuses; then the list is too short, or the words fit.
use mathlib.Core.Path.{◌≡◌}
use Rattle.std.proofs.Common.{rules}
use Rattle.clauses.specs.Answers.{fits, count_answer, write_answer, list_after}
use Rattle.clauses.proofs.Answering.{write-short, write_done}
use Rattle.clauses.proofs.write_accepted.Goals as goal

pub returns-in_err-size : goal.returns-in_err-size
unfolding write_answer list_after
returns-in_err-size c = record { result_value = search rules; list_after = search rules }

pub returns-then-list-size : goal.returns-then-list-size
returns-then-list-size c =
    let size = c.in_ok-size.size in
    let counted : count_answer c.args.sheet.now.bytes.now ≡ fits size.variables size.clauses size.words = search rules in
    let e = write-short c.args.sheet.now.bytes.now c.args.list.now counted c.if-list-size.true in
    record { result_value = e.0; list_after = e.1 }

pub returns : goal.returns
returns c =
    let size = c.in_ok-size.size in
    let counted : count_answer c.args.sheet.now.bytes.now ≡ fits size.variables size.clauses size.words = search rules in
    let e = write_done _ _ c.args.sheet.now.taken c.translate.ensures counted c.if-list-size.false c.size_of.ensures in
    record { result_value = e.0; list_after = e.1 }
