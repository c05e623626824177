-- A call that is not spent, of `search` or resumed, comes to the same where it is allowed more steps.
use mathlib.Core.Path.{◌≡◌, refl, sym, ◌∙◌, ap}
use mathlib.Core.Bool.{Bool, true, false}
use mathlib.Core.List.{List, []}
use Prim.Native.Nat.{ℕ, ◌+◌, ◌≤◌}
use native.Mathlib.Omega.{arith}
use lib.Dec.{leb}
use lib.IntN.{ℤ}
use lib.ListN.{length, take}
use borrow.Author.Tests.{leb-true, leb-false}
use Rattle.clause_list.specs.ClauseList.{clauses_of, is_list}
use Rattle.search_rules.specs.declared.Steps.{Steps}
use Rattle.search_rules.specs.declared.Position.{Position}
use Rattle.search_rules.specs.Run.{zeros, total, End, was_none, was_found, was_spent}
use Rattle.search_rules.specs.Held.{steps_of, no_state, step_limit}
use Rattle.search_rules.proofs.Theorems.{again, resume}
use Rattle.search.specs.Answers.{Answer, spent, answer_at, Outcome, finish, search_run, outcome}
use Rattle.search.specs.Resumed.{Resumption, finish_at, start_of, resumed_run, resumption}
use Rattle.search.proofs.Outcomes as search
use Rattle.search.proofs.Resumptions.{no-list, short-values, short-trail, no-state, runs}

-- an answer is not "spent"
abbrev pub Unspent : Answer → Type 0
Unspent a = (steps : Steps) → a ≡ spent steps → ⊥

-- an end that is not "spent" is the end
stays : (list : List ℤ) (v n : ℕ) (end : End) → Unspent (answer_at end) → again (clauses_of list) v n end ≡ end
unfolding again answer_at
stays list v n (was_none t) h = refl
stays list v n (was_found t s) h = refl
stays list v n (was_spent t s) h = absurd (h _ refl)

-- a resumed call
module _ (list : List ℤ) (v : ℕ) (values : List ℕ) (trail : List ℤ) (p : Position) (m n : ℕ) (few : total (steps_of p) + (m + n) ≤ step_limit)
    (unspent : Unspent (resumption list v values trail p m).outcome.answer) where
  abbrev call : ℕ → Resumption
  call = resumption list v values trail p

  abbrev ending : ℕ → End
  ending = resumed_run list v (steps_of p) (start_of v values trail p)

  -- where no call is refused
  module _ (is : is_list v list ≡ true) (wide : v ≤ length values) (deep : v ≤ length trail)
      (holds : no_state v (take v values) (take v trail) p.length ≡ false) where
    ends : call m ≡ finish_at v values trail (ending m)
    ends = runs (resumed_run list v) list v values trail p m is wide deep holds (omega arith)

    ends-alike : ending (m + n) ≡ ending m
    ends-alike =
        resume (clauses_of list) v m n (steps_of p) (start_of v values trail p)
        ∙ stays list v n (ending m) (λ steps e. unspent steps (ap (λ r. r.outcome.answer) ends ∙ e))

    runs-alike : call (m + n) ≡ call m
    runs-alike = runs (resumed_run list v) list v values trail p (m + n) is wide deep holds few ∙ ap (finish_at v values trail) ends-alike ∙ sym ends

  by_tests : (a b c d : Bool) → is_list v list ≡ a → leb v (length values) ≡ b → leb v (length trail) ≡ c
      → no_state v (take v values) (take v trail) p.length ≡ d → call (m + n) ≡ call m
  by_tests false b c d e f g h = no-list (resumed_run list v) list v values trail p (m + n) e
      ∙ sym (no-list (resumed_run list v) list v values trail p m e)
  by_tests true false c d e f g h =
      short-values (resumed_run list v) list v values trail p (m + n) e (leb-false _ _ f)
      ∙ sym (short-values (resumed_run list v) list v values trail p m e (leb-false _ _ f))
  by_tests true true false d e f g h =
      short-trail (resumed_run list v) list v values trail p (m + n) e (leb-false _ _ g)
      ∙ sym (short-trail (resumed_run list v) list v values trail p m e (leb-false _ _ g))
  by_tests true true true true e f g h =
      no-state (resumed_run list v) list v values trail p (m + n) e (leb-true _ _ f) (leb-true _ _ g) h
      ∙ sym (no-state (resumed_run list v) list v values trail p m e (leb-true _ _ f) (leb-true _ _ g) h)
  by_tests true true true false e f g h = runs-alike e (leb-true _ _ f) (leb-true _ _ g) h

  pub more-steps : call (m + n) ≡ call m
  more-steps =
      by_tests (is_list v list) (leb v (length values)) (leb v (length trail)) (no_state v (take v values) (take v trail) p.length)
      refl refl refl refl

-- a call of `search`
module _ (list : List ℤ) (v : ℕ) (values : List ℕ) (trail : List ℤ) (m n : ℕ) (unspent : Unspent (outcome list v values trail m).answer) where
  abbrev searched : ℕ → Outcome
  searched = outcome list v values trail

  -- where no call is refused
  module _ (is : is_list v list ≡ true) (wide : v ≤ length values) (deep : v ≤ length trail) where
    finishes : (k : ℕ) → searched k ≡ finish v values trail (search_run list v k)
    finishes k = search.runs list v values trail k is wide deep

    finishes-alike : searched (m + n) ≡ searched m
    finishes-alike =
        finishes (m + n)
        ∙ ap (finish v values trail)
        (resume (clauses_of list) v m n zeros []
        ∙ stays list v n (search_run list v m) (λ steps e. unspent steps (ap (λ o. o.answer) (finishes m) ∙ e)))
        ∙ sym (finishes m)

  by_cases : (a b c : Bool) → is_list v list ≡ a → leb v (length values) ≡ b → leb v (length trail) ≡ c → searched (m + n) ≡ searched m
  by_cases false b c e f g = search.no-list list v values trail (m + n) e ∙ sym (search.no-list list v values trail m e)
  by_cases true false c e f g =
      search.short-values list v values trail (m + n) e (leb-false _ _ f) ∙ sym (search.short-values list v values trail m e (leb-false _ _ f))
  by_cases true true false e f g =
      search.short-trail list v values trail (m + n) e (leb-false _ _ g) ∙ sym (search.short-trail list v values trail m e (leb-false _ _ g))
  by_cases true true true e f g = finishes-alike e (leb-true _ _ f) (leb-true _ _ g)

  pub more-searched : searched (m + n) ≡ searched m
  more-searched = by_cases (is_list v list) (leb v (length values)) (leb v (length trail)) refl refl refl
