-- A search with no steps that is spent leaves open slices, and taking it up from there on is a search over the slices that were lent.
use mathlib.Core.Path.{◌≡◌, refl, sym, ◌∙◌, ap}
use mathlib.Core.Bool.{true}
use mathlib.Core.List.{List, [], ◌++◌}
use Prim.Native.Nat.{ℕ, ◌≤◌}
use native.Mathlib.Omega.{arith}
use lib.IntN.{ℤ}
use lib.ListN.{length, take, drop, length-append}
use lib.Seq.{take_at, drop_at}
use Rattle.clause_list.specs.ClauseList.{clauses_of, is_list}
use Rattle.search_rules.specs.declared.Steps.{Steps}
use Rattle.search_rules.specs.Rules.{values_of, trail_of, Next, end_none, end_found, step, next}
use Rattle.search_rules.specs.Run.{zeros, End, was_none, was_found, was_spent, run}
use Rattle.search_rules.specs.Held.{step_limit}
use Rattle.search_rules.proofs.Invariant.{length-values}
use Rattle.search_rules.proofs.Trails.{length-trail}
use Rattle.search.specs.Answers.{spent, answer_at, values_at, trail_at, Outcome, outcome, finish, search_run}
use Rattle.search.specs.Resumed.{resumption}
use Rattle.search.specs.Resuming.{start}
use Rattle.search.proofs.Outcomes.{runs}
use Rattle.search.proofs.Resuming.{fresh_start}

module _ (list : List ℤ) (v : ℕ) (values : List ℕ) (trail : List ℤ) (is : is_list v list ≡ true) (wide : v ≤ length values) (deep : v ≤ length trail)
    (steps : Steps) (spends : (outcome list v values trail 0).answer ≡ spent steps) where
  abbrev first : Outcome
  first = outcome list v values trail 0

  -- with no steps done, no variable is set
  no_steps : (x : Next)
      → answer_at (elim x as (λ _. End) [ end_none ↦ was_none zeros | end_found ↦ was_found zeros [] | step kind s ↦ was_spent zeros [] ]) ≡ spent steps
      → elim x as (λ _. End) [ end_none ↦ was_none zeros | end_found ↦ was_found zeros [] | step kind s ↦ was_spent zeros [] ] ≡ was_spent zeros []
  unfolding answer_at
  no_steps end_none e = absurd (let z : ◌≡◌ {A = ℕ} 0 1 = cc in omega arith)
  no_steps end_found e = absurd (let z : ◌≡◌ {A = ℕ} 0 1 = cc in omega arith)
  no_steps (step kind s) e = refl

  none-set : first ≡ finish v values trail (was_spent zeros [])
  unfolding run
  none-set =
      let r = runs list v values trail 0 is wide deep in
      r ∙ ap (finish v values trail) (no_steps (next (clauses_of list) v []) (sym (ap (λ o. o.answer) r) ∙ spends))

  values-left : first.values ≡ values_of v [] ++ drop v values
  unfolding values_at
  values-left = ap (λ o. o.values) none-set

  trail-left : first.trail ≡ trail_of v [] ++ drop v trail
  unfolding trail_at
  trail-left = ap (λ o. o.trail) none-set

  values_open : take v first.values ≡ values_of v []
  values_open = ap (take v) values-left ∙ take_at (values_of v []) (drop v values) v (length-values v [])

  trail_open : take v first.trail ≡ trail_of v []
  trail_open = ap (take v) trail-left ∙ take_at (trail_of v []) (drop v trail) v (length-trail v [])

  values-behind : drop v first.values ≡ drop v values
  values-behind = ap (drop v) values-left ∙ drop_at (values_of v []) (drop v values) v (length-values v [])

  trail-behind : drop v first.trail ≡ drop v trail
  trail-behind = ap (drop v) trail-left ∙ drop_at (trail_of v []) (drop v trail) v (length-trail v [])

  still-wide : v ≤ length first.values
  still-wide = omega (arith, ap length values-left, length-append (values_of v []) (drop v values), length-values v [])

  still-deep : v ≤ length first.trail
  still-deep = omega (arith, ap length trail-left, length-append (trail_of v []) (drop v trail), length-trail v [])

  -- a search touches the first v bytes and words only
  over-open : (n : ℕ) → outcome list v first.values first.trail n ≡ outcome list v values trail n
  over-open n =
      let end = search_run list v n in
      runs list v first.values first.trail n is still-wide still-deep
      ∙ (λ i. record { answer = answer_at end; values = values_at v end ++ values-behind i; trail = trail_at v end ++ trail-behind i })
      ∙ sym (runs list v values trail n is wide deep)

  pub from-open : (n : ℕ) → n ≤ step_limit
      → (resumption list v first.values first.trail start n).outcome ≡ outcome list v values trail n
  from-open n few = ap (λ r. r.outcome) (fresh_start list v first.values
      first.trail n values_open trail_open few) ∙ over-open n
