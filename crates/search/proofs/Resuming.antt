-- A record of zeros over open slices is a fresh start; a chain of calls of one kind, resumed or for the next, comes to one.
use mathlib.Core.Path.{◌≡◌, refl, sym, ◌∙◌, ap, subst}
use mathlib.Core.Bool.{Bool, true, false}
use mathlib.Core.List.{List, []}
use Prim.Native.Nat.{ℕ, ◌+◌, ◌≤◌}
use native.Mathlib.Omega.{arith}
use native.Mathlib.Nat.{zero-add}
use lib.Dec.{leb}
use lib.IntN.{ℤ}
use lib.ListN.{length, take}
use borrow.Author.Tests.{leb-true, leb-false}
use Rattle.clause_list.specs.ClauseList.{clauses_of, is_list}
use Rattle.search_rules.specs.declared.Steps.{Steps}
use Rattle.search_rules.specs.declared.Position.{Position}
use Rattle.search_rules.specs.Rules.{State, values_of, trail_of}
use Rattle.search_rules.specs.Run.{zeros, total, End, was_spent, run}
use Rattle.search_rules.specs.Held.{steps_of, step_limit, state_in, WasOpen, Stored}
use Rattle.search_rules.proofs.Ranges.{fine-list, ranged}
use Rattle.search_rules.proofs.StateHeld.{stored-passes}
use Rattle.search_rules.proofs.Theorems.{spent-state, again, resume}
use Rattle.search_rules.proofs.Again.{spent-open}
use Rattle.search_rules.proofs.Following.{following-open, following-counted, following-again}
use Rattle.search.specs.Answers.{spent, answer_at, values_at, trail_at, outcome, search_run}
use Rattle.search.specs.Resumed.{Resumption, finish_at, start_of, Running, taken_up, resumed_run, resumption}
use Rattle.search.specs.Resuming.{start, record_of, with_record, FreshStart, SearchResumed, last, spends}
use Rattle.search.specs.Resuming.{ComesToOne, SameAsOne}
use Rattle.search.specs.Following.{followed_run, following}
use Rattle.search.proofs.Outcomes as searched
use Rattle.search.proofs.Outcomes.{was-spent}
use Rattle.search.proofs.Theorems as search
use Rattle.search.proofs.Records.{EndOpen, end-recorded, search-open}
use Rattle.search.proofs.Resumptions as resumed
use Rattle.search.proofs.ResumedCalls.{Runs, answered, held}
use Rattle.search.proofs.LeftStates.{stored, takes-left}

-- no steps done add nothing to those allowed
pub none_done : (budget : ℕ) → budget ≤ step_limit → total (steps_of start) + budget ≤ step_limit
unfolding total
none_done budget few = omega arith

-- a fresh start
module _ (list : List ℤ) (v : ℕ) (values : List ℕ) (trail : List ℤ) (budget : ℕ) (vs : take v values ≡ values_of v [])
    (ts : take v trail ≡ trail_of v []) (few : budget ≤ step_limit) where
  empty : Stored v [] (take v values) (take v trail) 0
  unfolding WasOpen
  empty = stored v [] tt values trail vs ts

  ends-alike : finish_at v values trail (resumed_run list v (steps_of start) (start_of v values trail start) budget)
      ≡ finish_at v values trail (search_run list v budget)
  unfolding state_in
  ends-alike = refl

  by_tests : (a b c : Bool) → is_list v list ≡ a → leb v (length values) ≡ b → leb v (length trail) ≡ c
      → resumption list v values trail start budget ≡ with_record v (outcome list v values trail budget)
  by_tests false b c d e f =
      resumed.no-list (resumed_run list v) list v values trail start budget d
      ∙ ap (with_record v) (sym (searched.no-list list v values trail budget d))
  by_tests true false c d e f =
      resumed.short-values (resumed_run list v) list v values trail start budget d (leb-false _ _ e)
      ∙ ap (with_record v) (sym (searched.short-values list v values trail budget d (leb-false _ _ e)))
  by_tests true true false d e f =
      resumed.short-trail (resumed_run list v) list v values trail start budget d (leb-false _ _ f)
      ∙ ap (with_record v) (sym (searched.short-trail list v values trail budget d (leb-false _ _ f)))
  by_tests true true true d e f =
      resumed.runs (resumed_run list v) list v values trail start budget d (leb-true _ _ e) (leb-true _ _ f)
      (stored-passes v [] _ _ 0 empty) (none_done budget few)
      ∙ ends-alike
      ∙ sym (end-recorded v trail values (search_run list v budget) (search-open list v budget d))
      ∙ ap (with_record v) (sym (searched.runs list v values trail budget d (leb-true _ _ e) (leb-true _ _ f)))

pub fresh_start : FreshStart
fresh_start list v values trail budget vs ts few =
    by_tests list v values trail budget vs ts few (is_list v list) (leb v (length values)) (leb v (length trail)) refl refl refl

-- a search that `search` began
module _ (list : List ℤ) (v : ℕ) (values : List ℕ) (trail : List ℤ) (m n : ℕ) (steps : Steps)
    (spends : (outcome list v values trail m).answer ≡ spent steps) (few : m + n ≤ step_limit) where
  begun : search.Runs list v values trail m × (answer_at (search_run list v m) ≡ spent steps)
  begun = search.answered list v values trail m (spent steps)
      (λ k d. let z : ◌≡◌ {A = ℕ} 0 1 = cc in omega arith) spends

  spent-at : (s : State) × (search_run list v m ≡ was_spent steps s)
  spent-at = was-spent (search_run list v m) steps begun.1

  opened-there : WasOpen v spent-at.0
  unfolding EndOpen
  opened-there = subst (EndOpen v) spent-at.1 (search-open list v m begun.0.is_list_ok)

  recorded : with_record v (outcome list v values trail m) ≡ finish_at v values trail (was_spent steps spent-at.0)
  recorded =
      ap (with_record v) begun.0.ends
      ∙ end-recorded v trail values (search_run list v m) (search-open list v m begun.0.is_list_ok)
      ∙ ap (finish_at v values trail) spent-at.1

  all_counted : total steps ≡ m
  unfolding total
  all_counted = (spent-state (clauses_of list) v m zeros steps [] spent-at.0 spent-at.1).1 ∙ zero-add m

  goes_further : run (clauses_of list) v n steps spent-at.0 ≡ search_run list v (m + n)
  unfolding again
  goes_further = sym (resume (clauses_of list) v m n zeros [] ∙ ap (again (clauses_of list) v n) spent-at.1)

  begun-resumed : let o = outcome list v values trail m in
      resumption list v o.values o.trail (record_of v o) n ≡ with_record v (outcome list v values trail (m + n))
  unfolding values_at trail_at
  begun-resumed =
      ap (λ r. resumption list v r.outcome.values r.outcome.trail r.position n) recorded
      ∙ takes-left (resumed_run list v) list v values trail steps spent-at.0 n begun.0.is_list_ok opened-there
      (omega (arith, all_counted))
      ∙ ap (finish_at v values trail) goes_further
      ∙ sym (end-recorded v trail values (search_run list v (m + n)) (search-open list v (m + n) begun.0.is_list_ok))
      ∙ ap (with_record v) (sym (searched.runs list v values trail (m + n) begun.0.is_list_ok begun.0.wide
      begun.0.deep))

pub search-resumed : SearchResumed
search-resumed = begun-resumed

-- a run that is spent and goes on from there is one run
pub record GoesOn (list : List ℤ) (v : ℕ) (running : Running) : Type 0 where
  pub stays_open : is_list v list ≡ true → (m : ℕ) (t t' : Steps) (state s : State) → WasOpen v state → running t state m ≡ was_spent t' s → WasOpen v s
  pub all_counted : (m : ℕ) (t t' : Steps) (state s : State) → running t state m ≡ was_spent t' s → total t' ≡ total t + m
  pub goes_on : (m n : ℕ) (t t' : Steps) (state s : State) → running t state m ≡ was_spent t' s → running t state (m + n) ≡ running t' s n

-- one call is spent, and another takes up what it left
module _ (list : List ℤ) (v : ℕ) (running : Running) (one : GoesOn list v running) (values : List ℕ) (trail : List ℤ) (p : Position)
    (m : ℕ) (t : Steps)
    (answers : (taken_up running list v values trail p m).outcome.answer ≡ spent t) where
  abbrev call : List ℕ → List ℤ → Position → ℕ → Resumption
  call = taken_up running list v

  abbrev first : Resumption
  first = call values trail p m

  abbrev from : State
  from = start_of v values trail p

  ran : Runs running list v values trail p m × (answer_at (running (steps_of p) from m) ≡ spent t)
  ran = answered running list v values trail p m (spent t) (λ n d. let z : ◌≡◌ {A = ℕ} 0 1 = cc in omega arith) answers

  spending : (s : State) × (running (steps_of p) from m ≡ was_spent t s)
  spending = was-spent (running (steps_of p) from m) t ran.1

  abbrev s : State
  s = spending.0

  -- what was left, and the state that it holds
  abbrev end : End
  end = was_spent t s

  left_is : first ≡ finish_at v values trail end
  left_is = ran.0.ends ∙ ap (finish_at v values trail) spending.1

  steps-left : total (steps_of first.position) ≡ total (steps_of p) + m
  steps-left = ap (λ r. total (steps_of r.position)) left_is ∙ one.all_counted m (steps_of p) t from s spending.1

  opened : WasOpen v s
  opened = one.stays_open ran.0.is_list_ok m (steps_of p) t from s (held running list v values trail p m ran.0).was_open spending.1

  module _ (n : ℕ) (few : total (steps_of p) + (m + n) ≤ step_limit) where
    at_once : call values trail p (m + n) ≡ finish_at v values trail (running (steps_of p) from (m + n))
    at_once =
        resumed.runs running list v values trail p (m + n) ran.0.is_list_ok ran.0.wide ran.0.deep ran.0.holds few

    -- m steps that are spent and n more are m + n steps
    pub taken-up : call first.outcome.values first.outcome.trail first.position n ≡ call values trail p (m + n)
    unfolding values_at trail_at
    taken-up =
        ap (λ r. call r.outcome.values r.outcome.trail r.position n) left_is
        ∙ takes-left running list v values trail t s n ran.0.is_list_ok opened (omega (arith, one.all_counted m (steps_of p) t from s spending.1))
        ∙ ap (finish_at v values trail) (sym (one.goes_on m n (steps_of p) t from s spending.1))
        ∙ sym at_once

comes-to-one : (list : List ℤ) (v : ℕ) (running : Running) → GoesOn list v running → ComesToOne (taken_up running list v)
comes-to-one list v running one values trail p n r (last k) few = refl
comes-to-one list v running one values trail p n r (spends {n = k} {steps} m e rest) few =
    comes-to-one list v running one _ _ _ k r rest (omega (arith, steps-left list v running one values trail p m steps e))
    ∙ taken-up list v running one values trail p m steps e k few

-- resumed calls
resumes : (list : List ℤ) (v : ℕ) → GoesOn list v (resumed_run list v)
unfolding again
resumes list v = record {
  stays_open = λ is m t t' state s. spent-open v (clauses_of list) (ranged v list (fine-list v list is)) m t t' state s;
  all_counted = λ m t t' state s e. (spent-state (clauses_of list) v m t t' state s e).1;
  goes_on = λ m n t t' state s e. resume (clauses_of list) v m n t state ∙ ap (again (clauses_of list) v n) e;
}

pub same_as_one : SameAsOne
same_as_one list v = comes-to-one list v (resumed_run list v) (resumes list v)

-- calls for the next
follows : (list : List ℤ) (v : ℕ) → GoesOn list v (followed_run list v)
follows list v = record {
  stays_open = λ is m t t' state s. following-open v (clauses_of list) (ranged v list (fine-list v list is)) m t t' state s;
  all_counted = λ m t t' state s e. following-counted (clauses_of list) v m t t' state s e;
  goes_on = λ m n t t' state s e. following-again (clauses_of list) v m n t t' state s e;
}

pub following-as-one : (list : List ℤ) (v : ℕ) → ComesToOne (following list v)
following-as-one list v = comes-to-one list v (followed_run list v) (follows list v)
