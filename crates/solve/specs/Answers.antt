-- What `read_back` answers, in the paper's terms.
use Rattle.std.specs.Prelude.{ℕ, Result, Ok, Err}
use Rattle.refusal.specs.declared.Refusal.{Refusal}
use Rattle.refusal.specs.Refusals.{number_of}
use Rattle.solve_rules.specs.Answers.{Answer, copied, refused}

abbrev pub answer_of : Result ℕ Refusal → Answer
answer_of (Ok cells) = copied cells
answer_of (Err refusal) = refused (number_of refusal)
