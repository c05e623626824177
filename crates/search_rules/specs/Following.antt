-- The rule of a call for the next (document 02, Change 6), its run with the steps that it takes, and when it has ended.
use Rattle.std.specs.Prelude.{◌≡◌, List, [], ◌∷◌, ℕ, zero, suc, ℤ}
use Rattle.search_rules.specs.declared.Steps.{Steps}
use Rattle.search_rules.specs.Rules.{State, Kind, Next, end_none, end_found, step, turn, next}
use Rattle.search_rules.specs.Run.{count, End, was_none, was_found, was_spent, run, EndedWithin}
use Rattle.search_rules.specs.Counting.{kinds_taken}

-- "After "found", a call for the next treats the full assignment as a clash: it turns the latest choice and goes on by
-- the step rules, or ends with "none" where no choice is left. On a state with an open variable or a false clause it
-- acts as the resumed call." It is the first step of such a call; what comes after it is by the step rules.
unfoldable pub first_step : List (List ℤ) → ℕ → State → Next
first_step clauses v state =
    elim (next clauses v state) [ end_none ↦ end_none | end_found ↦ turn state | step kind state' ↦ step kind state' ]

-- the run of such a call with a budget of n steps, where t counts those done before
unfoldable pub following_run : List (List ℤ) → ℕ → ℕ → Steps → State → End
following_run clauses v zero t state =
    elim (first_step clauses v state)
    [ end_none ↦ was_none t | end_found ↦ was_found t state | step kind state' ↦ was_spent t state ]
following_run clauses v (suc n) t state =
    elim (first_step clauses v state)
    [ end_none ↦ was_none t | end_found ↦ was_found t state | step kind state' ↦ run clauses v n (count kind t) state' ]

-- the kinds of the steps that it takes
unfoldable pub following_kinds : List (List ℤ) → ℕ → ℕ → State → List Kind
following_kinds clauses v zero state = []
following_kinds clauses v (suc n) state =
    elim (first_step clauses v state)
    [ end_none ↦ [] | end_found ↦ [] | step kind state' ↦ kind ∷ kinds_taken clauses v n state' ]

-- "For a call for the next, demand 3's "spent" takes the clash into the step rules: a full assignment it starts on is
-- no end; where a choice is left the turn is the first step, else the end is "none"."
pub data FollowingEnded (clauses : List (List ℤ)) (v : ℕ) : ℕ → State → Type 0 where
  at_once : {n : ℕ} {state : State} → first_step clauses v state ≡ end_none → FollowingEnded clauses v n state
  later : {n : ℕ} {state state' : State} {kind : Kind} → first_step clauses v state ≡ step kind state'
      → EndedWithin clauses v n state'
      → FollowingEnded clauses v (suc n) state
