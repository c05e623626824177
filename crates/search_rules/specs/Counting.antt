-- What is promised of the counters of a run (document 02, Change 3): "Each counter equals the one handed in (0 at the
-- start) plus the steps of its kind that the rules' run takes in the call."
use Rattle.std.specs.Prelude.{Bool, true, false, cond, List, [], ◌∷◌, ℕ, zero, suc, ℤ}
use Rattle.search_rules.specs.declared.Steps.{Steps}
use Rattle.search_rules.specs.Rules.{State, Kind, propagation, decision, backtrack, end_none, end_found, step, next}

-- the counter of a kind
unfoldable pub counter : Kind → Steps → ℕ
counter propagation t = t.propagations
counter decision t = t.decisions
counter backtrack t = t.backtracks

-- "the steps .. that the rules' run takes": their kinds, from a state within n steps
unfoldable pub kinds_taken : List (List ℤ) → ℕ → ℕ → State → List Kind
kinds_taken clauses v zero state = []
kinds_taken clauses v (suc n) state =
    elim (next clauses v state)
    [ end_none ↦ [] | end_found ↦ [] | step kind state' ↦ kind ∷ kinds_taken clauses v n state' ]

unfoldable pub same_kind : Kind → Kind → Bool
same_kind propagation propagation = true
same_kind propagation decision = false
same_kind propagation backtrack = false
same_kind decision propagation = false
same_kind decision decision = true
same_kind decision backtrack = false
same_kind backtrack propagation = false
same_kind backtrack decision = false
same_kind backtrack backtrack = true

-- "of its kind": how many of them are
unfoldable pub of_kind : Kind → List Kind → ℕ
of_kind kind [] = 0
of_kind kind (k ∷ kinds) = cond (same_kind kind k) (suc (of_kind kind kinds)) (of_kind kind kinds)
