-- Refused as reading refuses, else written once the count is known.
use Rattle.std.proofs.Common.{rules}
use Rattle.clauses.specs.Answers.{count_answer, write_answer, list_after}
use Rattle.clauses.proofs.write.Goals as goal

pub returns-in_err-sheet : goal.returns-in_err-sheet
unfolding count_answer write_answer list_after
returns-in_err-sheet c = record { result_value = search rules; list_after = search rules }
