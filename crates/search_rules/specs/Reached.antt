-- The states that a search comes to from all open, by the step rules and by clashes, whichever call takes the steps
-- (document 02, Change 6: "Where the run goes back to a fresh start over the sheet's list").
use Rattle.std.specs.Prelude.{◌≡◌, List, [], ◌∷◌, ◌++◌, map, ℕ, ℤ}
use Rattle.search_rules.specs.Rules.{State, values_of, Kind, end_found, step, next, settle}
use Rattle.search_rules.specs.Following.{first_step}

-- the assignment that the values of set variables give: "read-back takes 3 as 0"
abbrev pub Settles : List ℕ → List ℕ → Type 0
Settles values assignment = map settle values ≡ assignment

-- a state that is reached, with the cases that the "found"s on the way gave, in order, its own among them. `Gives` says
-- which case the values of the v variables give.
pub data Reached (clauses : List (List ℤ)) (v : ℕ) (Gives : List ℕ → List ℕ → Type 0) : List (List ℕ) → State
    → Type 0 where
  -- "The start is all open."
  all-open : Reached clauses v Gives [] []
  -- a step of the rules, or the turn of a full assignment that is treated as a clash, to a state that is not "found"
  on : {cases : List (List ℕ)} {state state' : State} {kind : Kind} → Reached clauses v Gives cases state
      → first_step clauses v state ≡ step kind state' → (next clauses v state' ≡ end_found → ⊥)
      → Reached clauses v Gives cases state'
  -- the same to a state that is
  gives : {cases : List (List ℕ)} {state state' : State} {kind : Kind} {case : List ℕ}
      → Reached clauses v Gives cases state
      → first_step clauses v state ≡ step kind state' → next clauses v state' ≡ end_found → Gives (values_of v state') case
      → Reached clauses v Gives (cases ++ case ∷ []) state'
