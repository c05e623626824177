-- What a call for the next answers and leaves (document 02, Change 6), and what is promised of one call, on any state.
use Rattle.std.specs.Prelude.{◌≡◌, true, false, ◌⊎◌, ◌↔◌, List, ℕ, ◌+◌, ◌<◌, ◌≤◌, ℤ, length, get_or, take}
use Rattle.std.proofs.Math.Option.{some}
use Rattle.clause_list.specs.ClauseList.{clauses_of, is_list, Satisfying}
use Rattle.search_rules.specs.declared.Steps.{Steps}
use Rattle.search_rules.specs.declared.Position.{Position}
use Rattle.search_rules.specs.Rules.{conflict, State, values_of, Kind, turn, next}
use Rattle.search_rules.specs.Held.{steps_of}
use Rattle.search_rules.specs.Counting.{counter, of_kind}
use Rattle.search_rules.specs.Following.{first_step, following_run, following_kinds, FollowingEnded}
use Rattle.search.specs.Answers.{found, spent, refused, steps_in}
use Rattle.search.specs.Resumed.{Resumption, start_of, declines_state, Running, taken_up, resumption}
use Rattle.search.specs.Resuming.{ComesToOne}
use Rattle.search.specs.First.{bits_of}

-- the refusals are those of the resumed call, and so is what is lent
abbrev pub followed_run : List ℤ → ℕ → Running
followed_run list v done state budget = following_run (clauses_of list) v budget done state

abbrev pub following : List ℤ → ℕ → List ℕ → List ℤ → Position → ℕ → Resumption
following list v = taken_up (followed_run list v) list v

-- "a state with an open variable or a false clause", by the values of its v variables
abbrev pub OpenOrFalse : List ℤ → ℕ → List ℕ → Type 0
OpenOrFalse list v values = ((i : ℕ) × (i < v) × (get_or values i 2 ≡ 2)) ⊎ (conflict values (clauses_of list) ≡ true)

-- the rule in the paper's words, for any list and state
pub record FirstStep (list : List ℤ) (v : ℕ) (state : State) : Type 0 where
  -- "it turns the latest choice .. or ends with "none" where no choice is left", where every variable is set and no
  -- clause is false
  pub clashes : (OpenOrFalse list v (values_of v state) → ⊥) → first_step (clauses_of list) v state ≡ turn state
  -- "On a state with an open variable or a false clause it acts as the resumed call."
  pub resumes : OpenOrFalse list v (values_of v state)
      → first_step (clauses_of list) v state ≡ next (clauses_of list) v state

-- one call, over any list, slices, record and budget
module _ (list : List ℤ) (v : ℕ) (values : List ℕ) (trail : List ℤ) (p : Position) (budget : ℕ) where
  abbrev pub call : Resumption
  call = following list v values trail p budget

  pub record FollowingCall : Type 0 where
    pub as_resumed : OpenOrFalse list v (take v values) → call ≡ resumption list v values trail p budget
    -- "found" only with values that satisfy every clause, 3 taken as 0
    pub found_satisfies : (steps : Steps) → call.outcome.answer ≡ found steps
        → Satisfying v (clauses_of list) (bits_of v call.outcome.values)
    -- each counter is the one handed in, and the steps of its kind that the call takes; the record has the answer's
    pub counts : (steps : Steps) → steps_in call.outcome.answer ≡ some steps → (kind : Kind)
        → counter kind steps
        ≡ counter kind (steps_of p) + of_kind kind (following_kinds (clauses_of list) v budget (start_of v values trail p))
    pub records : (steps : Steps) → steps_in call.outcome.answer ≡ some steps → steps_of call.position ≡ steps

  -- of a call over a list, with room, that 14 does not decline
  pub record FollowingTaken : Type 0 where
    pub taken : (number : ℕ) → call.outcome.answer ≡ refused number → ⊥
    -- "spent" exactly when the step rules, with the clash, have not ended within the budget
    pub spent_exactly : ((steps : Steps) × (call.outcome.answer ≡ spent steps))
        ↔ (FollowingEnded (clauses_of list) v budget (start_of v values trail p) → ⊥)
    -- and within some number of steps they have
    pub ends : (n : ℕ) × FollowingEnded (clauses_of list) v n (start_of v values trail p)

pub record FollowingCalls : Type 0 where
  pub of_first_step : (list : List ℤ) (v : ℕ) (state : State) → is_list v list ≡ true → FirstStep list v state
  pub calls : (list : List ℤ) (v : ℕ) (values : List ℕ) (trail : List ℤ) (p : Position) (budget : ℕ)
      → FollowingCall list v values trail p budget
  pub takes : (list : List ℤ) (v : ℕ) (values : List ℕ) (trail : List ℤ) (p : Position) (budget : ℕ)
      → is_list v list ≡ true → v ≤ length values
      → v ≤ length trail → declines_state v values trail p budget ≡ false → FollowingTaken list v values trail p budget
  -- a search that was spent in the middle of a call for the next is taken up by the call for the next
  pub same_as_one : (list : List ℤ) (v : ℕ) → ComesToOne (following list v)
