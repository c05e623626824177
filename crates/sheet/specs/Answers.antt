-- What `read` answers, in the paper's terms.
use Rattle.std.specs.Prelude.{Result, Ok, Err}
use Rattle.refusal.specs.declared.Refusal.{Refusal}
use Rattle.refusal.specs.Refusals.{number_of}
use Rattle.sheet_rules.specs.declared.Layout.{Layout}
use Rattle.sheet_rules.specs.Reading.{Answer, accepted, refused}

abbrev pub answer_of : Result Layout Refusal → Answer
answer_of (Ok layout) = accepted layout
answer_of (Err refusal) = refused (number_of refusal)
