-- The outcome of a call, case by case, and the end of a run as the answer that it gives.
use Rattle.std.specs.Prelude.{Ok}
use mathlib.Core.Path.{◌≡◌, refl, ◌∙◌, ap}
use mathlib.Core.Bool.{Bool, true, false, cond, ◌&&◌}
use mathlib.Core.List.{List, ◌++◌}
use Prim.Native.Nat.{ℕ, zero, suc, ◌+◌, ◌<◌, ◌≤◌}
use native.Mathlib.Omega.{arith}
use lib.Dec.{leb}
use lib.IntN.{ℤ}
use lib.ListN.{length, take, drop}
use lib.Seq.{take_at}
use borrow.Author.Tests.{le-leb, lt-leb}
use Rattle.prelude.proofs.Laws.{and_both, and-not-left, and-not-right}
use Rattle.clause_list.specs.ClauseList.{is_list}
use Rattle.search_rules.specs.Rules.{State, values_of, Next, end_none, end_found, step}
use Rattle.search_rules.specs.declared.Steps.{Steps}
use Rattle.search_rules.specs.Run.{total, count, End, was_none, was_found, was_spent, run}
use Rattle.search_rules.specs.Held.{steps_of, position_of}
use Rattle.search_rules.specs.Inner.{steps_at}
use Rattle.search_rules.specs.Following.{first_step, following_run}
use Rattle.search_rules.proofs.Invariant.{length-values}
use Rattle.search_rules.proofs.StepView.{total-count, Ends, run_ends}
use Rattle.search_rules.proofs.Following.{first-not-found, follow-none, follow-waits, follow-step}
use Rattle.search_core.specs.declared.run.Ran.{Ran}
use Rattle.search_core.specs.Inner.{Ended}
use Rattle.search.specs.Answers.{Answer, found, none, spent, refused, end_answer, answer_at, values_at, trail_at, Outcome, refuse, finish}
use Rattle.search.specs.Answers.{search_run, outcome}
use Rattle.search.specs.declared.answer.Resumed.{Resumed}
use Rattle.search.specs.Inner.{Finished}

module _ (list : List ℤ) (v : ℕ) (values : List ℕ) (trail : List ℤ) (budget : ℕ) where
  abbrev long : Bool
  long = leb v (length values) && leb v (length trail)

  by_tests : (b c : Bool) → is_list v list ≡ b → long ≡ c
      → outcome list v values trail budget ≡ cond b (cond c (finish v values trail (search_run list v budget)) (refuse 13 values trail))
      (refuse 12 values trail)
  unfolding outcome
  by_tests b c p q =
      ap (λ x. cond x (cond long (finish v values trail (search_run list v budget)) (refuse 13 values trail)) (refuse 12 values trail)) p
      ∙ ap (λ x. cond b (cond x (finish v values trail (search_run list v budget)) (refuse 13 values trail)) (refuse 12 values trail)) q

  pub no-list : is_list v list ≡ false → outcome list v values trail budget ≡ refuse 12 values trail
  no-list p = by_tests false long p refl

  pub short-values : is_list v list ≡ true → length values < v → outcome list v values trail budget ≡ refuse 13 values trail
  short-values p h = by_tests true false p (and-not-left _ _ (lt-leb v (length values) h))

  pub short-trail : is_list v list ≡ true → length trail < v → outcome list v values trail budget ≡ refuse 13 values trail
  short-trail p h = by_tests true false p (and-not-right (leb v (length values)) _ (lt-leb v (length trail) h))

  pub runs : is_list v list ≡ true → v ≤ length values → v ≤ length trail
      → outcome list v values trail budget ≡ finish v values trail (search_run list v budget)
  runs p h k = by_tests true true p (and_both _ _ (le-leb v (length values) h) (le-leb v (length trail) k))

-- a refusal, as `search` ensures it
pub declines : (n : ℕ) (values : List ℕ) (trail : List ℤ) (o : Outcome) → o ≡ refuse n values trail
    → (refused n ≡ o.answer) × ((values ≡ o.values) × (trail ≡ o.trail))
declines n values trail o e = rw e (refl, (refl, refl))

-- the end of a run, as `search` ensures it
pub finishes : (v : ℕ) (end : End) (values vs : List ℕ) (trail ts : List ℤ) (a : Answer) (o : Outcome) → o ≡ finish v values trail end
    → a ≡ answer_at end → vs ≡ values_at v end → ts ≡ trail_at v end
    → (a ≡ o.answer) × ((vs ++ drop v values ≡ o.values) × (ts ++ drop v trail ≡ o.trail))
finishes v end values vs trail ts a o e p q r = rw (e, p, q, r) (refl, (refl, refl))

-- a run counts at most its budget
within : (clauses : List (List ℤ)) (v b : ℕ) (end : End) → Ends (λ t state. Unit {0}) clauses v b end → total (steps_at end) ≤ b
unfolding Ends
within clauses v b (was_none t) h = h.3
within clauses v b (was_found t s) h = h.2
within clauses v b (was_spent t s) h = let e = h.2 in omega arith

pub figure-within : (clauses : List (List ℤ)) (v n : ℕ) (t : Steps) (state : State) → total (steps_at (run clauses v n t state)) ≤ total t + n
figure-within clauses v n t state =
    within clauses v (total t + n) (run clauses v n t state)
    (run_ends clauses v (λ t state. Unit {0}) (λ t state kind s p e. tt) n t state (run clauses v n t state) tt refl)

-- and so with the first step of a call for the next
pub following-within : (clauses : List (List ℤ)) (v n : ℕ) (t : Steps) (state : State)
    → total (steps_at (following_run clauses v n t state)) ≤ total t + n
following-within clauses v n t state = by n (first_step clauses v state) refl
  where
    by : (n : ℕ) (x : Next) → first_step clauses v state ≡ x → total (steps_at (following_run clauses v n t state)) ≤ total t + n
    by n end_none e = rw (follow-none clauses v n t state e) (omega arith)
    by n end_found e = absurd (first-not-found clauses v state e)
    by zero (step kind s) e = rw (follow-waits clauses v t state kind s e) (omega arith)
    by (suc n) (step kind s) e =
        rw (follow-step clauses v n t state kind s e) (omega (arith, figure-within clauses v n (count kind t) s, total-count kind t))

-- the end of a run, as `go_on` ensures it
module _ (v : ℕ) (r : Ran) (values : List ℕ) (trail : List ℤ) where
  abbrev finished : Resumed
  finished = record { answer = Ok (record { end = r.end; steps = steps_of r.position }); position = r.position }

  pub finish-run : (end : End) → Ended v end r values trail → Finished v end finished values trail
  unfolding answer_at values_at trail_at
  finish-run (was_none t) h = record {
    answer_is = λ i. end_answer (h.end_is i) (h.steps_are i);
    values_are = h.stored.values_are;
    trail_is = h.stored.trail_is;
    position_is = λ i. position_of (h.stored.used_is i) (h.steps_are i);
  }
  finish-run (was_found t s) h = record {
    answer_is = λ i. end_answer (h.end_is i) (h.steps_are i);
    values_are = h.stored.values_are;
    trail_is = h.stored.trail_is;
    position_is = λ i. position_of (h.stored.used_is i) (h.steps_are i);
  }
  finish-run (was_spent t s) h = record {
    answer_is = λ i. end_answer (h.end_is i) (h.steps_are i);
    values_are = h.stored.values_are;
    trail_is = h.stored.trail_is;
    position_is = λ i. position_of (h.stored.used_is i) (h.steps_are i);
  }

-- the end of a run, told by its answer
pub was-none : (end : End) (t : Steps) → answer_at end ≡ none t → end ≡ was_none t
unfolding answer_at
was-none (was_none t) u e = let d : t ≡ u = cc in ap was_none d
was-none (was_found t s) u e = absurd (let z : ◌≡◌ {A = ℕ} 0 1 = cc in omega arith)
was-none (was_spent t s) u e = absurd (let z : ◌≡◌ {A = ℕ} 0 1 = cc in omega arith)

pub was-found : (end : End) (t : Steps) → answer_at end ≡ found t → (s : State) × (end ≡ was_found t s)
unfolding answer_at
was-found (was_none t) u e = absurd (let z : ◌≡◌ {A = ℕ} 0 1 = cc in omega arith)
was-found (was_found t s) u e = let d : t ≡ u = cc in (s, ap (λ x. was_found x s) d)
was-found (was_spent t s) u e = absurd (let z : ◌≡◌ {A = ℕ} 0 1 = cc in omega arith)

pub was-spent : (end : End) (t : Steps) → answer_at end ≡ spent t → (s : State) × (end ≡ was_spent t s)
unfolding answer_at
was-spent (was_none t) u e = absurd (let z : ◌≡◌ {A = ℕ} 0 1 = cc in omega arith)
was-spent (was_found t s) u e = absurd (let z : ◌≡◌ {A = ℕ} 0 1 = cc in omega arith)
was-spent (was_spent t s) u e = let d : t ≡ u = cc in (s, ap (λ x. was_spent x s) d)

-- it is no refusal
pub was-taken : (end : End) (number : ℕ) → answer_at end ≡ refused number → ⊥
unfolding answer_at
was-taken (was_none t) number e = let z : ◌≡◌ {A = ℕ} 0 1 = cc in omega arith
was-taken (was_found t s) number e = let z : ◌≡◌ {A = ℕ} 0 1 = cc in omega arith
was-taken (was_spent t s) number e = let z : ◌≡◌ {A = ℕ} 0 1 = cc in omega arith

-- what is left of a state in the first v values
pub found-values : (v : ℕ) (state : State) (values : List ℕ) → take v (values_of v state ++ drop v values) ≡ values_of v state
found-values v state values = take_at (values_of v state) (drop v values) v (length-values v state)
