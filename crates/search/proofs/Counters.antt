-- Each counter by itself: the one handed in, and the steps of its kind that the rules' run takes in the call.
use mathlib.Core.Path.{◌≡◌, refl, sym, ◌∙◌, ap}
use mathlib.Core.Logic.{⊎_elim}
use mathlib.Core.List.{List, []}
use mathlib.Core.Option.{some}
use Prim.Native.Nat.{ℕ, ◌+◌, ◌≤◌}
use native.Mathlib.Omega.{arith}
use native.Mathlib.Nat.{zero-add}
use lib.IntN.{ℤ}
use Rattle.clause_list.specs.ClauseList.{clauses_of}
use Rattle.search_rules.specs.declared.Steps.{Steps}
use Rattle.search_rules.specs.declared.Position.{Position}
use Rattle.search_rules.specs.Rules.{Kind, propagation, decision, backtrack}
use Rattle.search_rules.specs.Run.{zeros, total, End, was_none, was_found, was_spent}
use Rattle.search_rules.specs.Held.{steps_of, step_limit}
use Rattle.search_rules.specs.Counting.{counter, kinds_taken, of_kind}
use Rattle.search_rules.specs.Inner.{steps_at}
use Rattle.search_rules.specs.Following.{following_kinds}
use Rattle.search_rules.proofs.Counting.{each_counts, following-counts}
use Rattle.search.specs.Answers.{refused, steps_in, answer_at, search_run, outcome}
use Rattle.search.specs.Resumed.{start_of, position_at, Running, taken_up, resumed_run, resumption}
use Rattle.search.specs.Resuming.{EachCounter}
use Rattle.search.specs.Following.{followed_run, following}
use Rattle.search.proofs.Theorems as fresh
use Rattle.search.proofs.Outcomes.{figure-within, following-within}
use Rattle.search.proofs.ResumedCalls.{Runs, called}

-- a refusal shows no steps, an answer at the end of a run those of the run, and the record has the same
pub refused-shows-none : (number : ℕ) (steps : Steps) → steps_in (refused number) ≡ some steps → ⊥
refused-shows-none number steps e = let z : ◌≡◌ {A = ℕ} 0 1 = cc in omega arith

answer-steps : (end : End) (steps : Steps) → steps_in (answer_at end) ≡ some steps → steps ≡ steps_at end
unfolding answer_at
answer-steps (was_none t) steps e = cc
answer-steps (was_found t s) steps e = cc
answer-steps (was_spent t s) steps e = cc

position-steps : (end : End) → steps_of (position_at end) ≡ steps_at end
position-steps (was_none t) = refl
position-steps (was_found t s) = refl
position-steps (was_spent t s) = refl

-- a call that takes up a state and shows its steps ran
module _ (running : Running) (list : List ℤ) (v : ℕ) (values : List ℕ) (trail : List ℤ) (p : Position) (budget : ℕ) (steps : Steps)
    (shows : steps_in (taken_up running list v values trail p budget).outcome.answer ≡ some steps) where
  ran : Runs running list v values trail p budget
  ran =
      ⊎_elim (λ d. absurd (refused-shows-none d.0 steps (ap (λ o. steps_in o.outcome.answer) (sym d.1) ∙ shows))) (λ r. r)
      (called running list v values trail p budget)

  abbrev end : End
  end = running (steps_of p) (start_of v values trail p) budget

  are-its : steps ≡ steps_at end
  are-its = answer-steps end steps (ap (λ o. steps_in o.outcome.answer) (sym ran.ends) ∙ shows)

  pub records : steps_of (taken_up running list v values trail p budget).position ≡ steps
  records = ap (λ o. steps_of o.position) ran.ends ∙ position-steps end ∙ sym are-its

-- a resumed call
module _ (list : List ℤ) (v : ℕ) (values : List ℕ) (trail : List ℤ) (p : Position) (budget : ℕ) (steps : Steps)
    (shows : steps_in (resumption list v values trail p budget).outcome.answer ≡ some steps) where
  resumed-counts : (kind : Kind)
      → counter kind steps ≡ counter kind (steps_of p) + of_kind kind (kinds_taken (clauses_of list) v budget (start_of v values trail p))
  resumed-counts kind =
      ap (counter kind) (are-its (resumed_run list v) list v values trail p budget steps shows)
      ∙ each_counts (clauses_of list) v budget (steps_of p) (start_of v values trail p) kind

  -- together they fit in 64 bits
  pub resumed-few : total steps ≤ step_limit
  resumed-few =
      let f = figure-within (clauses_of list) v budget (steps_of p) (start_of v values trail p) in
      omega (
        arith,
        f,
        ap total (are-its (resumed_run list v) list v values trail p budget steps shows),
        (ran (resumed_run list v) list v values trail p budget steps shows).few,
      )

-- a call for the next
module _ (list : List ℤ) (v : ℕ) (values : List ℕ) (trail : List ℤ) (p : Position) (budget : ℕ) (steps : Steps)
    (shows : steps_in (following list v values trail p budget).outcome.answer ≡ some steps) where
  pub followed-counts : (kind : Kind)
      → counter kind steps ≡ counter kind (steps_of p) + of_kind kind (following_kinds (clauses_of list) v budget (start_of v values trail p))
  followed-counts kind =
      ap (counter kind) (are-its (followed_run list v) list v values trail p budget steps shows)
      ∙ following-counts (clauses_of list) v kind budget (steps_of p) (start_of v values trail p)

  pub followed-few : total steps ≤ total (steps_of p) + budget
  followed-few =
      let f = following-within (clauses_of list) v budget (steps_of p) (start_of v values trail p) in
      omega (arith, f, ap total (are-its (followed_run list v) list v values trail p budget steps shows))

  -- together they fit in 64 bits
  pub followed-limit : total steps ≤ step_limit
  followed-limit = omega (arith, followed-few, (ran (followed_run list v) list v values trail p budget steps shows).few)

-- none is counted before a call from the start
none_before : (kind : Kind) → counter kind zeros ≡ 0
unfolding counter
none_before propagation = refl
none_before decision = refl
none_before backtrack = refl

-- it ran as well, where it shows its steps
module _ (list : List ℤ) (v : ℕ) (values : List ℕ) (trail : List ℤ) (budget : ℕ) (steps : Steps)
    (shows : steps_in (outcome list v values trail budget).answer ≡ some steps) where
  searching : fresh.Runs list v values trail budget
  searching =
      ⊎_elim (λ d. absurd (refused-shows-none d.0 steps (ap (λ o. steps_in o.answer) (sym d.1) ∙ shows))) (λ r. r)
      (fresh.called list v values trail budget)

  are-the-run's : steps ≡ steps_at (search_run list v budget)
  are-the-run's = answer-steps (search_run list v budget) steps (ap (λ o. steps_in o.answer) (sym searching.ends) ∙ shows)

  searched-counts : (kind : Kind) → counter kind steps ≡ of_kind kind (kinds_taken (clauses_of list) v budget [])
  searched-counts kind =
      ap (counter kind) are-the-run's
      ∙ each_counts (clauses_of list) v budget zeros [] kind
      ∙ ap (λ n. n + of_kind kind (kinds_taken (clauses_of list) v budget [])) (none_before kind)
      ∙ zero-add (of_kind kind (kinds_taken (clauses_of list) v budget []))

  pub searched-few : total steps ≤ budget
  unfolding total
  searched-few = let f = figure-within (clauses_of list) v budget zeros [] in omega (arith, f, ap total are-the-run's)

pub each-counter : EachCounter
each-counter = record { searched = searched-counts; resumed = resumed-counts; recorded = λ list v. records (resumed_run list v) list v }
