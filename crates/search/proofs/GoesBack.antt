-- What a call leaves goes back to a fresh start by the step rules, where the state that it started in does.
use mathlib.Core.Path.{◌≡◌, refl, sym, ◌∙◌, ap, subst}
use mathlib.Core.Bool.{true}
use mathlib.Core.Logic.{⊎_elim}
use mathlib.Core.List.{List, []}
use mathlib.Core.Option.{some}
use Prim.Native.Nat.{ℕ, ◌+◌, ◌≤◌}
use lib.IntN.{ℤ}
use lib.ListN.{length}
use Rattle.clause_list.specs.ClauseList.{clauses_of, is_list}
use Rattle.search_rules.specs.declared.Steps.{Steps}
use Rattle.search_rules.specs.declared.Position.{Position}
use Rattle.search_rules.specs.Rules.{State}
use Rattle.search_rules.specs.Run.{zeros, total, End, was_none, was_found, was_spent, run, after}
use Rattle.search_rules.specs.Held.{steps_of, position_of, WasOpen}
use Rattle.search_rules.specs.Inner.{steps_at}
use Rattle.search_rules.proofs.StepView.{Ends}
use Rattle.search_rules.proofs.Reached.{Reached, reached-ends, reached-from}
use Rattle.search_rules.proofs.StateHeld.{read-stored}
use Rattle.search_core.specs.Inner.{state_at}
use Rattle.search.specs.Answers.{answer_at, values_at, trail_at, outcome, search_run}
use Rattle.search.specs.Resumed.{Resumption, left, finish_at, start_of, resumed_run, resumption}
use Rattle.search.specs.Resuming.{with_record}
use Rattle.search.proofs.Outcomes.{runs}
use Rattle.search.proofs.Records.{EndOpen, end-recorded, search-open, run-open}
use Rattle.search.proofs.ResumedCalls.{called, held}
use Rattle.search.proofs.LeftStates.{left_values, left_trail, holds-left}

-- the state that a call leaves
abbrev left_at : ℕ → Resumption → State
left_at v r = start_of v r.outcome.values r.outcome.trail r.position

end-left : (v : ℕ) (values : List ℕ) (trail : List ℤ) (end : End)
    → finish_at v values trail end
    ≡ left (answer_at end) (left_values v (state_at end) values trail) (left_trail v (state_at end) values trail)
    (position_of (length (state_at end)) (steps_at end))
unfolding answer_at values_at trail_at
end-left v values trail (was_none t) = refl
end-left v values trail (was_found t s) = refl
end-left v values trail (was_spent t s) = refl

end-open : (v : ℕ) (end : End) → EndOpen v end → WasOpen v (state_at end)
unfolding EndOpen WasOpen
end-open v (was_none t) o = tt
end-open v (was_found t s) o = o
end-open v (was_spent t s) o = o

module _ (list : List ℤ) (v : ℕ) (is : is_list v list ≡ true) where
  -- some number of steps from all open
  abbrev Back : State → Type 0
  Back s = (j : ℕ) × (after (clauses_of list) v j [] ≡ some s)

  module _ (k n : ℕ) (t : Steps) (start : State) (back : after (clauses_of list) v k [] ≡ some start) where
    end_back : (end : End) → Ends (λ t' s. Reached (clauses_of list) v t start t' s) (clauses_of list) v (total t + n) end
        → Back (state_at end)
    unfolding Ends after
    end_back (was_none u) h = (0, refl)
    end_back (was_found u s) h = (k + h.0.done, reached-from (clauses_of list) v k [] start back h.0)
    end_back (was_spent u s) h = (k + h.0.done, reached-from (clauses_of list) v k [] start back h.0)

    pub run-back : (values : List ℕ) (trail : List ℤ) → WasOpen v start
        → Back (left_at v (finish_at v values trail (run (clauses_of list) v n t start)))
    run-back values trail o =
        let end = run (clauses_of list) v n t start in
        let s = state_at end in
        let reads : left_at v (finish_at v values trail end) ≡ s =
        ap (left_at v) (end-left v values trail end)
        ∙ read-stored v s _ _ _ (holds-left v s values trail (end-open v end (run-open list v is n t start o))) in
        subst Back (sym reads) (end_back end (reached-ends (clauses_of list) v n t start end refl))

-- after a resumed call, whatever it answers
pub goes_back_on : (list : List ℤ) (v : ℕ) (values : List ℕ) (trail : List ℤ) (p : Position) (n k : ℕ)
    → after (clauses_of list) v k [] ≡ some (start_of v values trail p)
    → (j : ℕ) × (after (clauses_of list) v j [] ≡ some (left_at v (resumption list v values trail p n)))
goes_back_on list v values trail p n k back =
    ⊎_elim (λ c. subst (λ r. (j : ℕ) × (after (clauses_of list) v j [] ≡ some (left_at v r))) (sym c.1) (k, back))
    (λ r.
    subst (λ r. (j : ℕ) × (after (clauses_of list) v j [] ≡ some (left_at v r))) (sym r.ends)
    (run-back list v r.is_list_ok k n (steps_of p) (start_of v values trail p) back values trail
    (held (resumed_run list v) list v values trail p n r).was_open))
    (called (resumed_run list v) list v values trail p n)

-- and after `search`
pub search-goes-back : (list : List ℤ) (v : ℕ) (values : List ℕ) (trail : List ℤ) (n : ℕ) → is_list v list ≡ true
    → v ≤ length values
    → v ≤ length trail → (j : ℕ) × (after (clauses_of list) v j []
    ≡ some (left_at v (with_record v (outcome list v values trail n))))
unfolding after WasOpen
search-goes-back list v values trail n is wide deep =
    subst (λ r. (j : ℕ) × (after (clauses_of list) v j [] ≡ some (left_at v r)))
    (sym (ap (with_record v) (runs list v values trail n is wide deep)
    ∙ end-recorded v trail values (search_run list v n) (search-open list v n is)))
    (run-back list v is 0 n zeros [] refl values trail tt)
