-- What the answers of a search mean: none-unsatisfiable, found_satisfies, found_first, spent_exactly and resume.
-- Each is stated over a run of the rules first, and then, as far as it speaks of a call, over the outcome that `search` ensures.
use mathlib.Core.Path.{◌≡◌, refl}
use mathlib.Core.Logic.{⊎_elim, ◌↔◌}
use mathlib.Core.List.{List, [], map}
use mathlib.Core.Option.{some}
use Prim.Native.Nat.{ℕ, zero, suc, ◌+◌}
use native.Mathlib.Nat.{zero-add, suc-add}
use lib.IntN.{ℤ}
use Rattle.prelude.specs.Order.{NoneBefore}
use Rattle.clause_list.specs.ClauseList.{Satisfying}
use Rattle.search_rules.specs.declared.Steps.{Steps}
use Rattle.search_rules.specs.Rules.{State, Kind, Next, end_none, end_found, step, values_of, next}
use Rattle.search_rules.specs.Run.{zeros, total, count, End, was_none, was_found, was_spent, run, after, EndedWithin}
use Rattle.search_rules.specs.Rules.{settle}
use Rattle.search_rules.proofs.Assignments.{Follows, assignment, model_of}
use Rattle.search_rules.proofs.Ranges.{Ranged}
use Rattle.search_rules.proofs.StepView.{Ends, run_ends}
use Rattle.search_rules.proofs.Invariant.{follows-keeps, follows-not-none}
use Rattle.search_rules.proofs.Found.{found-satisfying}
use Rattle.search_rules.proofs.First.{none_before}
use Rattle.search_rules.proofs.Reached.{after-keeps, reached-ends, reached-from, spending, spent-not-ended, ended-or-spent}

module _ (clauses : List (List ℤ)) (v : ℕ) where
  -- "none" from a state that the rules reach from a fresh start only if no assignment satisfies all clauses
  pub none-reached : (k budget : ℕ) (t t' : Steps) (state : State) → after clauses v k [] ≡ some state
      → run clauses v budget t state ≡ was_none t' → (a : List ℕ) → Satisfying v clauses a → ⊥
  unfolding Ends Follows
  none-reached k budget t t' state r e a s =
      let m = model_of a clauses s.holds in
      let p = reached-ends clauses v budget t state (was_none t') e in
      follows-not-none clauses v (assignment a) m p.0
      (after-keeps clauses v (Follows (assignment a)) (follows-keeps clauses v (assignment a) m) (k + p.1.done) [] p.0 tt
      (reached-from clauses v k [] state r p.1))
      p.2

  -- and so from a fresh start
  pub none-unsatisfiable : (budget : ℕ) (t : Steps) → run clauses v budget zeros [] ≡ was_none t → (a : List ℕ) → Satisfying v clauses a → ⊥
  unfolding after
  none-unsatisfiable budget t e = none-reached 0 budget zeros t [] refl e

  -- "found", from any state, only with values, each 0 or 1, that satisfy every clause
  pub found_satisfies : Ranged v clauses → (budget : ℕ) (t t' : Steps) (state s : State) → run clauses v budget t state ≡ was_found t' s
      → Satisfying v clauses (map settle (values_of v s))
  unfolding Ends
  found_satisfies r budget t t' state s e =
      let p = run_ends clauses v (λ t state. Unit {0}) (λ t state kind s f d. tt) budget t state (was_found t' s) tt e in
      found-satisfying clauses v r s p.1

  -- "found", from a state that the rules reach from a fresh start, with the first of all assignments that satisfy every clause
  pub found_first : Ranged v clauses → (k budget : ℕ) (t t' : Steps) (state s : State) → after clauses v k [] ≡ some state
      → run clauses v budget t state ≡ was_found t' s → NoneBefore (Satisfying v clauses) (map settle (values_of v s))
  unfolding Ends
  found_first ranged k budget t t' state s r e =
      let p = reached-ends clauses v budget t state (was_found t' s) e in
      none_before clauses v ranged (k + p.0.done) s (reached-from clauses v k [] state r p.0) p.1

  -- "spent" exactly when no end is reached after at most n steps
  pub spent_exactly : (n : ℕ) (t : Steps) (start : State)
      → ((t' : Steps) × (s : State) × (run clauses v n t start ≡ was_spent t' s)) ↔ (EndedWithin clauses v n start → ⊥)
  spent_exactly n t start = (
    λ h. spent-not-ended clauses v n t h.0 start h.1 h.2,
    λ h. ⊎_elim (λ w. absurd (h w)) (λ x. x) (ended-or-spent clauses v n t start (run clauses v n t start) refl),
  )

  -- the state is then the one after n steps, and n steps are counted
  pub spent-state : (n : ℕ) (t t' : Steps) (start s : State) → run clauses v n t start ≡ was_spent t' s
      → (after clauses v n start ≡ some s) × (total t' ≡ total t + n)
  spent-state n t t' start s e = let p = spending clauses v n t t' start s e in (p.is_after, p.figure)

  -- a run taken up again with n steps more
  unfoldable pub again : ℕ → End → End
  again n (was_none t) = was_none t
  again n (was_found t s) = was_found t s
  again n (was_spent t s) = run clauses v n t s

  -- m + n steps are m steps and then n
  pub resume : (m n : ℕ) (t : Steps) (state : State) → run clauses v (m + n) t state ≡ again n (run clauses v m t state)
  unfolding run again
  resume zero n t state = rw (zero-add n) (by n (next clauses v state) refl)
    where
      by : (n : ℕ) (x : Next) → next clauses v state ≡ x
          → run clauses v n t state
          ≡ again n (elim x as (λ _. End) [ end_none ↦ was_none t | end_found ↦ was_found t state | step kind s ↦ was_spent t state ])
      by zero end_none e = rw (e, run)
      by zero end_found e = rw (e, run)
      by zero (step kind s) e = refl
      by (suc n) end_none e = rw (e, run)
      by (suc n) end_found e = rw (e, run)
      by (suc n) (step kind s) e = refl
  resume (suc m) n t state = rw (suc-add m n) (by (next clauses v state) (λ kind s. resume m n (count kind t) s))
    where
      by : (x : Next) → ((kind : Kind) (s : State) → run clauses v (m + n) (count kind t) s ≡ again n (run clauses v m (count kind t) s))
          → ◌≡◌ {A = End} (elim x [ end_none ↦ was_none t | end_found ↦ was_found t state | step kind s ↦ run clauses v (m + n) (count kind t) s ])
          (again n (elim x as (λ _. End) [ end_none ↦ was_none t | end_found ↦ was_found t state | step kind s ↦ run clauses v m (count kind t) s ]))
      by end_none p = refl
      by end_found p = refl
      by (step kind s) p = p kind s
