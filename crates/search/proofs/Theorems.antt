-- What the answer of a call means, for every list, v, values, trail and budget: over the outcome that `search` ensures.
-- The same of the rules' run from any state, and `resume`, are in search_rules/proofs/Theorems.antt.
use mathlib.Core.Path.{◌≡◌, refl, sym, ◌∙◌, ap}
use mathlib.Core.Bool.{Bool, true, false}
use mathlib.Core.Logic.{◌⊎◌, inl, inr, ⊎_elim, ◌↔◌}
use mathlib.Core.List.{List, [], ◌++◌}
use mathlib.Core.Option.{some}
use Prim.Native.Nat.{ℕ, ◌≤◌}
use native.Mathlib.Omega.{arith}
use native.Mathlib.Nat.{zero-add}
use lib.Dec.{leb}
use lib.IntN.{ℤ}
use lib.ListN.{length, drop}
use borrow.Author.Tests.{leb-true, leb-false}
use Rattle.prelude.specs.Order.{NoneBefore}
use Rattle.clause_list.specs.ClauseList.{clauses_of, is_list, Satisfying}
use Rattle.search_rules.specs.declared.Steps.{Steps}
use Rattle.search_rules.specs.Rules.{State, values_of, trail_of}
use Rattle.search_rules.specs.Run.{zeros, total, after, EndedWithin}
use Rattle.search_rules.proofs.Theorems as rules
use Rattle.search.specs.Answers.{Answer, found, none, spent, refused, answer_at, values_at, trail_at, Outcome, refuse, finish}
use Rattle.search.specs.Answers.{search_run, outcome}
use Rattle.search.specs.First.{bits_of}
use Rattle.search.proofs.Outcomes.{no-list, short-values, short-trail, runs, was-none, was-spent}
use Rattle.search.proofs.FoundRuns.{satisfies, first}

module _ (list : List ℤ) (v : ℕ) (values : List ℕ) (trail : List ℤ) (budget : ℕ) where
  abbrev call : Outcome
  call = outcome list v values trail budget

  -- a call is refused, or runs the rules
  pub record Runs : Type 0 where
    pub is_list_ok : is_list v list ≡ true
    pub wide : v ≤ length values
    pub deep : v ≤ length trail
    pub ends : call ≡ finish v values trail (search_run list v budget)

  abbrev Called : Type 0
  Called = ((n : ℕ) × (call ≡ refuse n values trail)) ⊎ Runs

  pub called : Called
  called = by (is_list v list) (leb v (length values)) (leb v (length trail)) refl refl refl
    where
      by : (p h k : Bool) → is_list v list ≡ p → leb v (length values) ≡ h → leb v (length trail) ≡ k → Called
      by false h k d e f = inl (12, no-list list v values trail budget d)
      by true false k d e f = inl (13, short-values list v values trail budget d (leb-false _ _ e))
      by true true false d e f = inl (13, short-trail list v values trail budget d (leb-false _ _ f))
      by true true true d e f =
          let w = leb-true _ _ e in
          let k = leb-true _ _ f in
          inr (record { is_list_ok = d; wide = w; deep = k; ends = runs list v values trail budget d w k })

  -- an answer that is no refusal is that of the run
  pub answered : (a : Answer) → ((n : ℕ) → refused n ≡ a → ⊥) → call.answer ≡ a
      → Runs × (answer_at (search_run list v budget) ≡ a)
  answered a h e =
      ⊎_elim (λ c. absurd (h c.0 (sym (ap (λ o. o.answer) c.1) ∙ e)))
      (λ r. (r, sym (ap (λ o. o.answer) r.ends) ∙ e)) called

  -- "none" only if no assignment satisfies all clauses
  pub none-unsatisfiable : (steps : Steps) → call.answer ≡ none steps → (a : List ℕ) → Satisfying v (clauses_of list) a → ⊥
  none-unsatisfiable steps e =
      let r = answered (none steps) (λ n d. let z : ◌≡◌ {A = ℕ} 0 1 = cc in omega arith) e in
      rules.none-unsatisfiable (clauses_of list) v budget steps (was-none (search_run list v budget) steps r.1)

  -- "found" only with values that satisfy every clause, 3 taken as 0
  pub found_satisfies : (steps : Steps) → call.answer ≡ found steps → Satisfying v (clauses_of list) (bits_of v call.values)
  found_satisfies steps e =
      let r = answered (found steps) (λ n d. let z : ◌≡◌ {A = ℕ} 0 1 = cc in omega arith) e in
      satisfies list v budget zeros [] values trail r.0.is_list_ok call r.0.ends steps e

  -- and with the first such values
  pub found_first : (steps : Steps) → call.answer ≡ found steps → NoneBefore (Satisfying v (clauses_of list)) (bits_of v call.values)
  unfolding after
  found_first steps e =
      let r = answered (found steps) (λ n d. let z : ◌≡◌ {A = ℕ} 0 1 = cc in omega arith) e in
      first list v budget zeros [] values trail r.0.is_list_ok call r.0.ends steps e 0 refl

  -- "spent", of a call that is not refused, exactly when no end is reached after at most the budget's steps
  pub spent_exactly : is_list v list ≡ true → v ≤ length values → v ≤ length trail
      → ((steps : Steps) × (call.answer ≡ spent steps)) ↔ (EndedWithin (clauses_of list) v budget [] → ⊥)
  unfolding answer_at
  spent_exactly p h k =
      let x = rules.spent_exactly (clauses_of list) v budget zeros [] in
      let r = ap (λ o. o.answer) (runs list v values trail budget p h k) in (
        λ y. let w = was-spent (search_run list v budget) y.0 (sym r ∙ y.1) in x.0 (y.0, w.0, w.1),
        λ n. let w = x.1 n in (w.0, r ∙ ap answer_at w.2),
      )

  -- the state is then the one after the budget's steps
  pub record Spent (steps : Steps) : Type 0 where
    pub all_done : total steps ≡ budget
    pub state : State
    pub is_after : after (clauses_of list) v budget [] ≡ some state
    pub values_are : call.values ≡ values_of v state ++ drop v values
    pub trail_is : call.trail ≡ trail_of v state ++ drop v trail

  pub spent-state : (steps : Steps) → call.answer ≡ spent steps → Spent steps
  unfolding values_at trail_at total
  spent-state steps e =
      let r = answered (spent steps) (λ n d. let z : ◌≡◌ {A = ℕ} 0 1 = cc in omega arith) e in
      let w = was-spent (search_run list v budget) steps r.1 in
      let s = rules.spent-state (clauses_of list) v budget zeros steps [] w.0 w.1 in
      record {
        all_done = s.1 ∙ zero-add budget;
        state = w.0;
        is_after = s.0;
        values_are = ap (λ o. o.values) r.0.ends ∙ ap (λ x. values_at v x ++ drop v values) w.1;
        trail_is = ap (λ o. o.trail) r.0.ends ∙ ap (λ x. trail_at v x ++ drop v trail) w.1;
      }
