-- The record that goes with what `search` answers and leaves is the one that the end of its run has.
use mathlib.Core.Path.{◌≡◌, refl, ◌∙◌, ap}
use mathlib.Core.Bool.{true}
use mathlib.Core.List.{List, [], ◌∷◌, ◌++◌}
use Prim.Native.Nat.{ℕ, zero, suc, ◌+◌, ◌<◌, ◌≤◌}
use native.Mathlib.Omega.{arith}
use lib.IntN.{ℤ, pos, nat_abs}
use lib.ListN.{length, get_or, take, drop}
use lib.Seq.{take_at}
use borrow.Author.Tests.{ne_eqb}
use Rattle.clause_list.specs.ClauseList.{clauses_of, is_list}
use Rattle.search_rules.specs.declared.Steps.{Steps}
use Rattle.search_rules.specs.declared.Position.{Position}
use Rattle.search_rules.specs.Rules.{State, trail_of}
use Rattle.search_rules.specs.Run.{zeros, total, End, was_none, was_found, was_spent, run}
use Rattle.search_rules.specs.Held.{position_of, WasOpen}
use Rattle.search_rules.proofs.Ranges.{fine-list, ranged}
use Rattle.search_rules.proofs.StepView.{Ends, run_ends}
use Rattle.search_rules.proofs.Again.{open-keeps}
use Rattle.search_rules.proofs.Trails.{length-trail, past, on-trail}
use Rattle.search.specs.Answers.{answer_at, trail_at, finish, search_run}
use Rattle.search.specs.Resumed.{position_at, finish_at}
use Rattle.search.specs.Resuming.{trail_length, record_of, with_record}

-- words up to a place, and a 0 there
front : (n : ℕ) (trail : List ℤ) → ((i : ℕ) → i < n → 1 ≤ nat_abs (get_or trail i (pos 0))) → get_or trail n (pos 0) ≡ pos 0
    → trail_length trail ≡ n
unfolding trail_length
front zero [] h e = refl
front (suc n) [] h e = absurd (let l : 1 ≤ 0 = h 0 (omega arith) in omega arith)
front zero (l ∷ trail) h e = let q : l ≡ pos 0 = e in rw q refl
front (suc n) (l ∷ trail) h e =
    rw (ne_eqb (nat_abs l) 0 (λ d. let k : 1 ≤ nat_abs l = h 0 (omega arith) in omega arith))
    (ap suc (front n trail (λ i k. h (suc i) (omega arith)) e))

trail-length : (v : ℕ) (state : State) → WasOpen v state → trail_length (trail_of v state) ≡ length state
trail-length v state o = front (length state) (trail_of v state) (λ i l. on-trail v state i o l)
    (past v state (length state) (omega arith))

-- the state of an end, over the variables
unfoldable pub EndOpen : ℕ → End → Type 0
EndOpen v (was_none t) = Unit {0}
EndOpen v (was_found t state) = WasOpen v state
EndOpen v (was_spent t state) = WasOpen v state

module _ (v : ℕ) (trail : List ℤ) where
  left-length : (state : State) → WasOpen v state
      → trail_length (take v (trail_of v state ++ drop v trail)) ≡ length state
  left-length state o =
      ap trail_length (take_at (trail_of v state) (drop v trail) v (length-trail v state)) ∙ trail-length v state o

  with-record : (values : List ℕ) (end : End) → EndOpen v end → record_of v (finish v values trail end) ≡ position_at end
  unfolding EndOpen answer_at trail_at WasOpen
  with-record values (was_none t) o = ap (λ n. position_of n t) (left-length [] tt)
  with-record values (was_found t state) o = ap (λ n. position_of n t) (left-length state o)
  with-record values (was_spent t state) o = ap (λ n. position_of n t) (left-length state o)

  pub end-recorded : (values : List ℕ) (end : End) → EndOpen v end
      → with_record v (finish v values trail end) ≡ finish_at v values trail end
  end-recorded values end o = ap (λ (p : Position). record { outcome = finish v values trail end; position = p })
      (with-record values end o)

-- the end of a run over a list
pub run-open : (list : List ℤ) (v : ℕ) → is_list v list ≡ true → (n : ℕ) (t : Steps) (state : State) → WasOpen v state
    → EndOpen v (run (clauses_of list) v n t state)
unfolding Ends EndOpen
run-open list v is n t state o =
    of-ends (run (clauses_of list) v n t state)
    (run_ends (clauses_of list) v (λ u s. WasOpen v s)
    (λ u s kind s' p d. open-keeps v (clauses_of list) (ranged v list (fine-list v list is)) s kind s' p d)
    n t state (run (clauses_of list) v n t state) o refl)
  where
    of-ends : (end : End) → Ends (λ u s. WasOpen v s) (clauses_of list) v (total t + n) end → EndOpen v end
    of-ends (was_none u) h = tt
    of-ends (was_found u s) h = h.0
    of-ends (was_spent u s) h = h.0

pub search-open : (list : List ℤ) (v n : ℕ) → is_list v list ≡ true → EndOpen v (search_run list v n)
unfolding WasOpen
search-open list v n is = run-open list v is n zeros [] tt
