-- What the answer of a resumed call means, for every list, v, values, trail, record and budget: over the definition that `resumed` ensures.
use mathlib.Core.Path.{◌≡◌, sym, ◌∙◌, ap}
use mathlib.Core.Bool.{true, false}
use mathlib.Core.Logic.{◌↔◌}
use mathlib.Core.List.{List, []}
use mathlib.Core.Option.{some}
use Prim.Native.Nat.{ℕ, ◌≤◌}
use native.Mathlib.Omega.{arith}
use lib.IntN.{ℤ}
use lib.ListN.{length}
use Rattle.prelude.specs.Order.{NoneBefore}
use Rattle.clause_list.specs.ClauseList.{clauses_of, is_list, Satisfying}
use Rattle.search_rules.specs.declared.Steps.{Steps}
use Rattle.search_rules.specs.declared.Position.{Position}
use Rattle.search_rules.specs.Run.{End, after, EndedWithin}
use Rattle.search_rules.specs.Held.{steps_of}
use Rattle.search_rules.proofs.Theorems as rules
use Rattle.search.specs.Answers.{Answer, found, none, spent, refused, answer_at}
use Rattle.search.specs.Resumed.{Resumption, start_of, declines_state, resumed_run, resumption}
use Rattle.search.specs.First.{bits_of}
use Rattle.search.proofs.Outcomes.{was-none, was-spent, was-taken}
use Rattle.search.proofs.FoundRuns.{satisfies, first}
use Rattle.search.proofs.Resumptions.{takes}
use Rattle.search.proofs.ResumedCalls.{Runs, answered}

module _ (list : List ℤ) (v : ℕ) (values : List ℕ) (trail : List ℤ) (p : Position) (budget : ℕ) where
  abbrev call : Resumption
  call = resumption list v values trail p budget

  abbrev ending : End
  ending = resumed_run list v (steps_of p) (start_of v values trail p) budget

  tells : (a : Answer) → ((n : ℕ) → refused n ≡ a → ⊥) → call.outcome.answer ≡ a
      → Runs (resumed_run list v) list v values trail p budget × (answer_at ending ≡ a)
  tells = answered (resumed_run list v) list v values trail p budget

  -- "none", where the state is reached from a fresh start, only if no assignment satisfies all clauses
  pub none-unsatisfiable : (k : ℕ) (steps : Steps) → after (clauses_of list) v k [] ≡ some (start_of v values trail p)
      → call.outcome.answer ≡ none steps → (a : List ℕ) → Satisfying v (clauses_of list) a → ⊥
  none-unsatisfiable k steps r e =
      let c = tells (none steps) (λ n d. let z : ◌≡◌ {A = ℕ} 0 1 = cc in omega arith) e in
      rules.none-reached (clauses_of list) v k budget (steps_of p) steps (start_of v values trail p) r (was-none ending steps c.1)

  -- "found", from any state, only with values that satisfy every clause, 3 taken as 0
  pub found_satisfies : (steps : Steps) → call.outcome.answer ≡ found steps → Satisfying v (clauses_of list) (bits_of v call.outcome.values)
  found_satisfies steps e =
      let c = (tells (found steps) (λ n d. let z : ◌≡◌ {A = ℕ} 0 1 = cc in omega arith) e).0 in
      satisfies list v budget (steps_of p) (start_of v values trail p) values trail c.is_list_ok call.outcome (ap (λ o. o.outcome) c.ends)
      steps e

  -- and, where the state is reached from a fresh start, with the first such values
  pub found_first : (k : ℕ) (steps : Steps) → after (clauses_of list) v k [] ≡ some (start_of v values trail p)
      → call.outcome.answer ≡ found steps → NoneBefore (Satisfying v (clauses_of list)) (bits_of v call.outcome.values)
  found_first k steps r e =
      let c = (tells (found steps) (λ n d. let z : ◌≡◌ {A = ℕ} 0 1 = cc in omega arith) e).0 in
      first list v budget (steps_of p) (start_of v values trail p) values trail c.is_list_ok call.outcome (ap (λ o. o.outcome) c.ends)
      steps e k r

  -- a call over a list, with room, that 14 does not decline
  module _ (is : is_list v list ≡ true) (wide : v ≤ length values) (deep : v ≤ length trail)
      (taken : declines_state v values trail p budget ≡ false) where
    ends : call.outcome.answer ≡ answer_at ending
    ends = ap (λ o. o.outcome.answer) (takes (resumed_run list v) list v values trail p budget is wide deep taken)

    pub not_refused : (number : ℕ) → call.outcome.answer ≡ refused number → ⊥
    not_refused number e = was-taken ending number (sym ends ∙ e)

    -- "spent" exactly when no end is reached after at most the budget's steps from the state that is held
    pub spent_exactly : ((steps : Steps) × (call.outcome.answer ≡ spent steps))
        ↔ (EndedWithin (clauses_of list) v budget (start_of v values trail p) → ⊥)
    unfolding answer_at
    spent_exactly =
        let x = rules.spent_exactly (clauses_of list) v budget (steps_of p) (start_of v values trail p) in (
          λ y. let w = was-spent ending y.0 (sym ends ∙ y.1) in x.0 (y.0, w.0, w.1),
          λ n. let w = x.1 n in (w.0, ends ∙ ap answer_at w.2),
        )
