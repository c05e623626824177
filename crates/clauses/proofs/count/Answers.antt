-- Refused as reading refuses, else by the numbers of the clauses.
use Rattle.std.proofs.Common.{rules}
use Rattle.clauses.specs.Answers.{count_answer}
use Rattle.clauses.proofs.count.Goals as goal

pub returns-in_err-sheet : goal.returns-in_err-sheet
unfolding count_answer
returns-in_err-sheet c = search rules
