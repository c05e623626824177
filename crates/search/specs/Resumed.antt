-- What a call that takes up a state answers, and what it leaves in the lent slices and in the lent record (document 02,
-- Changes 1, 3 and 6).
use Rattle.std.specs.Prelude.{Bool, cond, ◌&&◌, ◌||◌, List, ℕ, leb, ℤ, length, take}
use Rattle.clause_list.specs.ClauseList.{clauses_of, is_list}
use Rattle.search_rules.specs.declared.Steps.{Steps}
use Rattle.search_rules.specs.declared.Position.{Position}
use Rattle.search_rules.specs.Rules.{State}
use Rattle.search_rules.specs.Run.{End, was_none, was_found, was_spent, run}
use Rattle.search_rules.specs.Held.{steps_of, position_of, no_state, too_many, state_in}
use Rattle.search.specs.Answers.{Answer, Outcome, refuse, finish}

-- what a call answers and leaves, and the record after it
pub record Resumption : Type 0 where
  pub outcome : Outcome
  pub position : Position

abbrev pub left : Answer → List ℕ → List ℤ → Position → Resumption
left answer values trail p =
    record { outcome = record { answer = answer; values = values; trail = trail }; position = p }

-- a refusal changes nothing, the record included
abbrev pub decline : ℕ → List ℕ → List ℤ → Position → Resumption
decline number values trail p = record { outcome = refuse number values trail; position = p }

-- "writes the new length and the total of steps to the record (length 0 after "none")": the totals of the three kinds,
-- each by itself
abbrev pub position_at : End → Position
position_at (was_none t) = position_of 0 t
position_at (was_found t state) = position_of (length state) t
position_at (was_spent t state) = position_of (length state) t

-- the end of a run, as that of `search`, with the record
abbrev pub finish_at : ℕ → List ℕ → List ℤ → End → Resumption
finish_at v values trail end = record { outcome = finish v values trail end; position = position_at end }

-- the state that the first v bytes and words hold with the record
abbrev pub start_of : ℕ → List ℕ → List ℤ → Position → State
start_of v values trail p = state_in (take v values) (take v trail) p.length

-- 14 STATE
abbrev pub declines_state : ℕ → List ℕ → List ℤ → Position → ℕ → Bool
declines_state v values trail p budget =
    no_state v (take v values) (take v trail) p.length || too_many (steps_of p) budget

-- the run of a call that takes up a state: by the steps done, the state and the budget
abbrev pub Running : Type 0
Running = Steps → State → ℕ → End

-- 12, then 13, then 14: the list, the lent slices, which need one byte and one word for each variable, and the state;
-- then the run from the state
unfoldable pub taken_up : Running → List ℤ → ℕ → List ℕ → List ℤ → Position → ℕ → Resumption
taken_up running list v values trail p budget =
    cond (is_list v list)
    (cond (leb v (length values) && leb v (length trail))
    (cond (declines_state v values trail p budget)
    (decline 14 values trail p)
    (finish_at v values trail (running (steps_of p) (start_of v values trail p) budget)))
    (decline 13 values trail p))
    (decline 12 values trail p)

-- "A resumed call takes the rules' next steps from that state": the run goes on counting from the counters handed in
abbrev pub resumed_run : List ℤ → ℕ → Running
resumed_run list v done state budget = run (clauses_of list) v budget done state

abbrev pub resumption : List ℤ → ℕ → List ℕ → List ℤ → Position → ℕ → Resumption
resumption list v = taken_up (resumed_run list v) list v
