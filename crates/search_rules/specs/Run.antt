-- The run of the step rules within a budget (document 01, "Search" and "The words of demand 3"), with its counters (document 02, Change 3).
use Rattle.std.specs.Prelude.{◌≡◌, ◌⊎◌, List, ℕ, zero, suc, ◌+◌, ◌≤◌, ℤ}
use Rattle.std.proofs.Math.Option.{Option, none, some}
use Rattle.search_rules.specs.declared.Steps.{Steps}
use Rattle.search_rules.specs.Rules.{State, Kind, propagation, decision, backtrack, end_none, end_found, step, next}

-- "Force, choice and turn count one step each": each in a counter of its kind, of the three that a caller is shown (src/lib.rt)
abbrev pub tally : ℕ → ℕ → ℕ → Steps
tally p d b = record { propagations = p; decisions = d; backtracks = b }

abbrev pub zeros : Steps
zeros = tally 0 0 0

-- "The steps done of Change 1 are the three together"
unfoldable pub total : Steps → ℕ
total t = t.propagations + t.decisions + t.backtracks

unfoldable pub count : Kind → Steps → Steps
count propagation t = record { propagations = suc t.propagations; decisions = t.decisions; backtracks = t.backtracks }
count decision t = record { propagations = t.propagations; decisions = suc t.decisions; backtracks = t.backtracks }
count backtrack t = record { propagations = t.propagations; decisions = t.decisions; backtracks = suc t.backtracks }

-- how a run ends: the steps done, and the state where there is one
pub data End : Type 0 where
  was_none : Steps → End
  was_found was_spent : Steps → State → End

-- "ends count nothing. If the budget's steps (a 64-bit number, 0 allowed) are done and no end is reached, the answer is "spent" and the state stays."
-- The run from a state, with a budget of n steps, where t counts those done before.
unfoldable pub run : List (List ℤ) → ℕ → ℕ → Steps → State → End
run clauses v zero t state =
    elim (next clauses v state) [ end_none ↦ was_none t | end_found ↦ was_found t state | step kind state' ↦ was_spent t state ]
run clauses v (suc n) t state =
    elim (next clauses v state)
    [ end_none ↦ was_none t | end_found ↦ was_found t state | step kind state' ↦ run clauses v n (count kind t) state' ]

-- the state after n steps, where no end comes before
unfoldable pub after : List (List ℤ) → ℕ → ℕ → State → Option State
after clauses v zero state = some state
after clauses v (suc n) state =
    elim (next clauses v state) [ end_none ↦ none | end_found ↦ none | step kind state' ↦ after clauses v n state' ]

-- "The step rules have ended within n steps when an end is reached after at most n steps from the state the call starts in."
pub record EndedWithin (clauses : List (List ℤ)) (v n : ℕ) (start : State) : Type 0 where
  pub steps : ℕ
  pub within : steps ≤ n
  pub state : State
  pub reached : after clauses v steps start ≡ some state
  pub ends : (next clauses v state ≡ end_none) ⊎ (next clauses v state ≡ end_found)
