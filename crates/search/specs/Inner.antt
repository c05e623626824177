-- The run of a call, and what it leaves, as the code has it.
-- No public contract reaches this file: nothing here needs belief.
use Rattle.std.specs.Prelude.{◌≡◌, List, ℕ, ℤ}
use Rattle.search_rules.specs.Run.{End}
use Rattle.search.specs.declared.runs.Call.{Call}
use Rattle.search.specs.declared.runs.Call.TheVariants.{Resume, Next}
use Rattle.search.specs.declared.answer.Resumed.{Resumed}
use Rattle.search.specs.Answers.{answer_of, answer_at, values_at, trail_at}
use Rattle.search.specs.Resumed.{position_at, Running, resumed_run}
use Rattle.search.specs.Following.{followed_run}

-- the run of each kind of call
abbrev pub run_of : Call → List ℤ → ℕ → Running
run_of Resume list v = resumed_run list v
run_of Next list v = followed_run list v

-- what `go_on` answers and leaves: the end of a run over v variables
pub record Finished (v : ℕ) (end : End) (r : Resumed) (values : List ℕ) (trail : List ℤ) : Type 0 where
  pub answer_is : answer_of r.answer ≡ answer_at end
  pub values_are : values ≡ values_at v end
  pub trail_is : trail ≡ trail_at v end
  pub position_is : r.position ≡ position_at end
