-- What a call of `search` answers, and what it leaves in the lent slices (document 01, "Search" and "Answers that
-- decline"; document 02, Changes 3 and 6).
use Rattle.std.specs.Prelude.{cond, ◌&&◌, List, [], ◌++◌, ℕ, leb, ℤ, length, drop, Result, Ok, Err}
use Rattle.std.proofs.Math.Option.{Option, none as Option·none, some}
use Rattle.refusal.specs.declared.Refusal.{Refusal}
use Rattle.refusal.specs.Refusals.{number_of}
use Rattle.clause_list.specs.ClauseList.{clauses_of, is_list}
use Rattle.search_core.specs.declared.run.End as core
use Rattle.search_core.specs.declared.run.End.TheVariants.{Found, None, Spent}
use Rattle.search.specs.declared.answer.Ended.{Ended}
use Rattle.search_rules.specs.declared.Steps.{Steps}
use Rattle.search_rules.specs.Rules.{values_of, trail_of}
use Rattle.search_rules.specs.Run.{zeros, End, was_none, was_found, was_spent, run}

-- the paper's answers: "found", "none" or "spent" with the steps done, or a number. "The search answer and the lent
-- record of Change 1 show forces, choices and turns, each by itself"
pub data Answer : Type 0 where
  found none spent : Steps → Answer
  refused : ℕ → Answer

-- the paper's answer of each end, and of a refusal
abbrev pub end_answer : core.End → Steps → Answer
end_answer Found steps = found steps
end_answer None steps = none steps
end_answer Spent steps = spent steps

abbrev pub answer_of : Result Ended Refusal → Answer
answer_of (Ok ended) = end_answer ended.end ended.steps
answer_of (Err refusal) = refused (number_of refusal)

-- the steps that an answer gives
abbrev pub steps_in : Answer → Option Steps
steps_in (found steps) = some steps
steps_in (none steps) = some steps
steps_in (spent steps) = some steps
steps_in (refused number) = Option·none

-- "The answer gives the steps done."
unfoldable pub answer_at : End → Answer
answer_at (was_none t) = none t
answer_at (was_found t state) = found t
answer_at (was_spent t state) = spent t

-- ""none", with values all 2 and trail all 0"; ""found" keeps its 3s in the lent values" (document 02, Change 6);
-- "spent", where "the state stays"
unfoldable pub values_at : ℕ → End → List ℕ
values_at v (was_none t) = values_of v []
values_at v (was_found t state) = values_of v state
values_at v (was_spent t state) = values_of v state

unfoldable pub trail_at : ℕ → End → List ℤ
trail_at v (was_none t) = trail_of v []
trail_at v (was_found t state) = trail_of v state
trail_at v (was_spent t state) = trail_of v state

-- an answer with the content of values and trail after the call
pub record Outcome : Type 0 where
  pub answer : Answer
  pub values : List ℕ
  pub trail : List ℤ

-- a refusal changes nothing
abbrev pub refuse : ℕ → List ℕ → List ℤ → Outcome
refuse number values trail = record { answer = refused number; values = values; trail = trail }

-- "Only the first v bytes and words (v variables) are touched."
abbrev pub finish : ℕ → List ℕ → List ℤ → End → Outcome
finish v values trail end =
    record { answer = answer_at end; values = values_at v end ++ drop v values; trail = trail_at v end ++ drop v trail }

-- "The start is all open."
abbrev pub search_run : List ℤ → ℕ → ℕ → End
search_run list v budget = run (clauses_of list) v budget zeros []

-- "search .. 12 and 13": the list first, then the lent slices, which need one byte and one word for each variable
unfoldable pub outcome : List ℤ → ℕ → List ℕ → List ℤ → ℕ → Outcome
outcome list v values trail budget =
    cond (is_list v list)
    (cond (leb v (length values) && leb v (length trail)) (finish v values trail (search_run list v budget))
    (refuse 13 values trail))
    (refuse 12 values trail)
