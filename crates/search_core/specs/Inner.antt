-- A state of the rules as slices hold it, and what each step of the code leaves.
-- No public contract reaches this file: nothing here needs belief.
use Rattle.std.specs.Prelude.{◌≡◌, List, [], ℕ, ◌≤◌, ℤ, length}
use Rattle.search_core.specs.declared.steps.StepKind.{StepKind}
use Rattle.search_core.specs.declared.steps.StepKind.TheVariants.{Propagation, Decision, Backtrack}
use Rattle.search_core.specs.declared.steps.Moved.{Moved}
use Rattle.search_core.specs.declared.steps.Moved.TheVariants.{NoneLeft, AllSet, To}
use Rattle.search_core.specs.declared.run.End.{End}
use Rattle.search_core.specs.declared.run.End.TheVariants.{None, Found, Spent}
use Rattle.search_core.specs.declared.run.Ran.{Ran}
use Rattle.search_rules.specs.Held.{steps_of, Stored}
use Rattle.search_rules.specs.Rules.{State, Kind, propagation, decision, backtrack, Next, end_none, end_found, step}
use Rattle.search_rules.specs.Run.{was_none, was_found, was_spent}
use Rattle.search_rules.specs.Run.{End as RunEnd}
use Rattle.search_rules.specs.Inner.{steps_at}

pub record SomeStored (v : ℕ) (values : List ℕ) (trail : List ℤ) (n : ℕ) : Type 0 where
  pub state : State
  pub stored : Stored v state values trail n

-- what `back` leaves: n words of the trail in use, 0 where no decision is left
abbrev pub Turned : ℕ → Next → ℕ → List ℕ → List ℤ → Type 0
Turned v end_none n values trail = Stored v [] values trail n
Turned v end_found n values trail = ⊥
Turned v (step kind state) n values trail = Stored v state values trail n × (1 ≤ n)

abbrev pub kind_as : Kind → StepKind
kind_as propagation = Propagation
kind_as decision = Decision
kind_as backtrack = Backtrack

-- what `step` answers and leaves
abbrev pub Stepped : ℕ → State → Next → Moved → List ℕ → List ℤ → Type 0
Stepped v state end_none moved values trail = (moved ≡ NoneLeft) × Stored v [] values trail 0
Stepped v state end_found moved values trail = (moved ≡ AllSet) × Stored v state values trail (length state)
Stepped v state (step kind s) moved values trail = (moved ≡ To (kind_as kind) (length s)) × Stored v s values trail (length s)

abbrev pub kind_of : StepKind → Kind
kind_of Propagation = propagation
kind_of Decision = decision
kind_of Backtrack = backtrack

-- how the rules stand: spent where they go on
abbrev pub end_after : Next → End
end_after end_none = None
end_after end_found = Found
end_after (step kind state) = Spent

abbrev pub end_of : RunEnd → End
end_of (was_none t) = None
end_of (was_found t state) = Found
end_of (was_spent t state) = Spent

abbrev pub state_at : RunEnd → State
state_at (was_none t) = []
state_at (was_found t state) = state
state_at (was_spent t state) = state

-- what `run` answers and leaves
pub record Ended (v : ℕ) (end : RunEnd) (r : Ran) (values : List ℕ) (trail : List ℤ) : Type 0 where
  pub end_is : r.end ≡ end_of end
  pub steps_are : steps_of r.position ≡ steps_at end
  pub stored : Stored v (state_at end) values trail r.position.length
