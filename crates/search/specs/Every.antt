-- What is promised of calls one after another from a fresh start on, whichever calls take the steps (document 02,
-- Change 6).
use Rattle.std.specs.Prelude.{◌≡◌, true, List, [], ◌∷◌, ◌++◌, ℕ, ◌+◌, ◌≤◌, ℤ, take}
use Rattle.prelude.specs.Order.{Some, Lists}
use Rattle.clause_list.specs.ClauseList.{clauses_of, is_list, Satisfying}
use Rattle.search_rules.specs.declared.Steps.{Steps}
use Rattle.search_rules.specs.declared.Position.{Position}
use Rattle.search_rules.specs.Rules.{State, values_of, trail_of}
use Rattle.search_rules.specs.Run.{total}
use Rattle.search_rules.specs.Held.{steps_of, step_limit, Stored}
use Rattle.search_rules.specs.Reached.{Settles, Reached}
use Rattle.search.specs.Answers.{found, none, spent, outcome}
use Rattle.search.specs.Resumed.{Resumption, left, resumption}
use Rattle.search.specs.Resuming.{start, with_record}
use Rattle.search.specs.Following.{following, OpenOrFalse}

-- slices and record, as a call is lent them and as it leaves them
pub record Standing : Type 0 where
  pub values : List ℕ
  pub trail : List ℤ
  pub position : Position

abbrev pub left_by : Resumption → Standing
left_by r = record { values = r.outcome.values; trail = r.outcome.trail; position = r.position }

-- "A record of zeros over open slices is a fresh start"
pub record Fresh (v : ℕ) (at : Standing) : Type 0 where
  pub values_open : take v at.values ≡ values_of v []
  pub trail_open : take v at.trail ≡ trail_of v []
  pub zeros : at.position ≡ start

module _ (list : List ℤ) (v : ℕ) where
  abbrev pub next_call : Standing → ℕ → Resumption
  next_call at n = following list v at.values at.trail at.position n

  abbrev pub resumed_call : Standing → ℕ → Resumption
  resumed_call at n = resumption list v at.values at.trail at.position n

  -- calls for the next, one after another with any budgets, each on what the one before left: from where they start,
  -- with the cases that the "found"s gave, in order, to where they stand. `Gives` says which case the first v values
  -- give.
  pub data Calls (Gives : List ℕ → List ℕ → Type 0) : Standing → List (List ℕ) → Standing → Type 0 where
    no_call : {at : Standing} → Calls Gives at [] at
    finds : {at to : Standing} {steps : Steps} {case : List ℕ} {cases : List (List ℕ)} (n : ℕ)
        → (next_call at n).outcome.answer ≡ found steps
        → Gives (take v (next_call at n).outcome.values) case → Calls Gives (left_by (next_call at n)) cases to
        → Calls Gives at (case ∷ cases) to
    spends : {at to : Standing} {steps : Steps} {cases : List (List ℕ)} (n : ℕ)
        → (next_call at n).outcome.answer ≡ spent steps
        → Calls Gives (left_by (next_call at n)) cases to → Calls Gives at cases to

  module _ (Gives : List ℕ → List ℕ → Type 0) where
    -- slices and record hold a state that steps and clashes reach from all open, with these cases given
    pub record Stands (cases : List (List ℕ)) (at : Standing) : Type 0 where
      pub state : State
      pub reached : Reached (clauses_of list) v Gives cases state
      pub held : Stored v state (take v at.values) (take v at.trail) at.position.length

    -- what a call there says of the cases that have a property, and where it leads
    pub record Passes (P : List ℕ → Type 0) (cases : List (List ℕ)) (call : Resumption) : Type 0 where
      -- "once a found assignment was treated as a clash, "none" says that no instance is left beyond those given";
      -- where none was given there is none
      pub all_given : (steps : Steps) → call.outcome.answer ≡ none steps → (case : List ℕ) → P case
          → Some (λ c. c ≡ case) cases
      -- "found" gives one more
      pub one_more : (steps : Steps) → call.outcome.answer ≡ found steps → (case : List ℕ)
          → Gives (take v call.outcome.values) case
          → Stands (cases ++ case ∷ []) (left_by call)
      pub goes_on : (steps : Steps) → call.outcome.answer ≡ spent steps → Stands cases (left_by call)
      -- after "none" all is open again
      pub starts_over : (steps : Steps) → call.outcome.answer ≡ none steps → Stands [] (left_by call)

    -- every call, of cases that should have the property and no others
    pub record EveryCall (P : List ℕ → Type 0) : Type 0 where
      -- a search begins with `search`, or with a call on a fresh start
      pub searched : (values : List ℕ) (trail : List ℤ) (n : ℕ)
          → Passes P [] (with_record v (outcome list v values trail n))
      pub fresh : (at : Standing) → Fresh v at → Stands [] at
      -- each that was given has the property, each is given once, in ascending order, and the others come later
      pub lists : (cases : List (List ℕ)) (at : Standing) → Stands cases at → Lists P cases
      pub followed : (cases : List (List ℕ)) (at : Standing) (n : ℕ) → Stands cases at → Passes P cases (next_call at n)
      pub leads : (given cases : List (List ℕ)) (at to : Standing) → Stands given at → Calls Gives at cases to
          → Stands (given ++ cases) to
      -- a resumed call too, but on a full assignment, which was given: it is found again, and nothing changes
      pub resumed : (cases : List (List ℕ)) (at : Standing) (n : ℕ) → Stands cases at
          → OpenOrFalse list v (take v at.values)
          → Passes P cases (resumed_call at n)
      pub found_again : (cases : List (List ℕ)) (at : Standing) (n : ℕ) → Stands cases at
          → (OpenOrFalse list v (take v at.values) → ⊥)
          → total (steps_of at.position) + n ≤ step_limit
          → resumed_call at n ≡ left (found (steps_of at.position)) at.values at.trail at.position

-- over any list, of its satisfying assignments
abbrev pub EveryAssignment : Type 0
EveryAssignment = (list : List ℤ) (v : ℕ) → is_list v list ≡ true
    → EveryCall list v Settles (Satisfying v (clauses_of list))
