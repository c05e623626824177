-- What is promised of one call for the next.
use mathlib.Core.Path.{◌≡◌, sym, ◌∙◌, ap}
use mathlib.Core.Bool.{true, false}
use mathlib.Core.Logic.{inl, inr}
use mathlib.Core.List.{List, ◌++◌, map}
use Prim.Native.Nat.{ℕ, ◌≤◌}
use native.Mathlib.Omega.{arith}
use lib.IntN.{ℤ}
use lib.ListN.{length, take, drop}
use lib.Seq.{length-take-le}
use Rattle.prelude.proofs.Laws.{clash}
use Rattle.clause_list.specs.ClauseList.{clauses_of, is_list, Satisfying}
use Rattle.search_rules.specs.declared.Steps.{Steps}
use Rattle.search_rules.specs.declared.Position.{Position}
use Rattle.search_rules.specs.Rules.{conflict, State, values_of, settle, end_found, next}
use Rattle.search_rules.specs.Run.{End, was_found}
use Rattle.search_rules.specs.Held.{steps_of, no_state, WasOpen}
use Rattle.search_rules.proofs.Booleans.{bool_false, or-false}
use Rattle.search_rules.proofs.StateHeld.{holds-state}
use Rattle.search_rules.proofs.Ranges.{fine-list, ranged}
use Rattle.search_rules.proofs.Invariant.{length-values}
use Rattle.search_rules.proofs.Found.{found-ended, found-satisfying}
use Rattle.search_rules.proofs.Following.{full-found, first-full, first-other, follow-resumes, FollowEnds, follow-ends, follow-spent-exactly}
use Rattle.search_rules.proofs.Ending.{following-ends}
use Rattle.search.specs.Answers.{found, answer_at, values_at}
use Rattle.search.specs.Resumed.{Resumption, start_of, declines_state, resumed_run, resumption}
use Rattle.search.specs.First.{bits_of}
use Rattle.search.specs.Following.{followed_run, following, OpenOrFalse, FirstStep, FollowingCall, FollowingTaken, FollowingCalls}
use Rattle.search.proofs.Outcomes.{was-found, was-spent, was-taken, found-values}
use Rattle.search.proofs.Resumptions.{takes}
use Rattle.search.proofs.ResumedCalls.{Runs, held, answered, alike}
use Rattle.search.proofs.Resuming.{following-as-one}
use Rattle.search.proofs.Counters.{records, followed-counts}

-- "found" is where no variable is open and no clause is false
module _ (list : List ℤ) (v : ℕ) (state : State) where
  abbrev here : List ℕ
  here = values_of v state

  not_found : OpenOrFalse list v here → next (clauses_of list) v state ≡ end_found → ⊥
  not_found (inl o) e = (found-ended (clauses_of list) v state e).1 o.0 (let h = o.1 in omega (arith, length-values v state)) o.2
  not_found (inr c) e = clash _ c (found-ended (clauses_of list) v state e).0

  pub is_found : is_list v list ≡ true → (OpenOrFalse list v here → ⊥) → next (clauses_of list) v state ≡ end_found
  is_found is h =
      full-found (clauses_of list) v (ranged v list (fine-list v list is)) state
      (λ i l e. h (inl (i, (omega (arith, length-values v state)), e))) (bool_false (conflict here (clauses_of list)) (λ c. h (inr c)))

  of_first_step : is_list v list ≡ true → FirstStep list v state
  of_first_step is =
      record {
        clashes = λ h. first-full (clauses_of list) v state (is_found is h);
        resumes = λ h. first-other (clauses_of list) v state (not_found h);
      }

module _ (list : List ℤ) (v : ℕ) (values : List ℕ) (trail : List ℤ) (p : Position) (budget : ℕ) where
  abbrev call : Resumption
  call = following list v values trail p budget

  abbrev begin : State
  begin = start_of v values trail p

  abbrev ending : End
  ending = followed_run list v (steps_of p) begin budget

  -- the values that are held are those of the state
  ran-values : (r : Runs (followed_run list v) list v values trail p budget) → take v values ≡ values_of v begin
  ran-values r = (held (followed_run list v) list v values trail p budget r).values_are

  as_resumed : OpenOrFalse list v (take v values) → call ≡ resumption list v values trail p budget
  as_resumed h =
      alike (followed_run list v) (resumed_run list v) list v values trail p budget
      (λ r. follow-resumes (clauses_of list) v budget (steps_of p) begin (not_found list v begin (rw (ran-values r) at h)))

  found_satisfies : (steps : Steps) → call.outcome.answer ≡ found steps → Satisfying v (clauses_of list) (bits_of v call.outcome.values)
  unfolding values_at FollowEnds
  found_satisfies steps e =
      let r = answered (followed_run list v) list v values trail p budget (found steps) (λ n d. let z : ◌≡◌ {A = ℕ} 0 1 = cc in omega arith) e in
      let w = was-found ending steps r.1 in
      let h = follow-ends (clauses_of list) v (λ s. Unit {0}) (λ s k s' u d. tt) budget (steps_of p) begin (was_found steps w.0)
      (λ k s d. tt) w.1 in
      let left : bits_of v call.outcome.values ≡ map settle (values_of v w.0) =
      ap (bits_of v) (ap (λ o. o.outcome.values) r.0.ends ∙ ap (λ x. values_at v x ++ drop v values) w.1)
      ∙ ap (map settle) (found-values v w.0 values) in
      rw left (found-satisfying (clauses_of list) v (ranged v list (fine-list v list r.0.is_list_ok)) w.0 h.1)

  one-call : FollowingCall list v values trail p budget
  one-call =
      record {
        as_resumed = as_resumed;
        found_satisfies = found_satisfies;
        counts = followed-counts list v values trail p budget;
        records = records (followed_run list v) list v values trail p budget;
      }

  -- where it is not refused
  module _ (is : is_list v list ≡ true) (wide : v ≤ length values) (deep : v ≤ length trail)
      (taken : declines_state v values trail p budget ≡ false) where
    ends : call.outcome.answer ≡ answer_at ending
    ends = ap (λ o. o.outcome.answer) (takes (followed_run list v) list v values trail p budget is wide deep taken)

    opened : WasOpen v begin
    opened = (holds-state v _ _ _ (or-false (no_state v (take v values) (take v trail) p.length) _ taken).0
        (length-take-le _ _ wide) (length-take-le _ _ deep)).was_open

    one-taken : FollowingTaken list v values trail p budget
    unfolding answer_at
    one-taken =
        let x = follow-spent-exactly (clauses_of list) v budget (steps_of p) begin in
        record {
          taken = λ number e. was-taken ending number (sym ends ∙ e);
          spent_exactly = (
            λ y. let w = was-spent ending y.0 (sym ends ∙ y.1) in x.0 (y.0, w.0, w.1),
            λ n. let w = x.1 n in (w.0, ends ∙ ap answer_at w.2),
          );
          ends = following-ends (clauses_of list) v (ranged v list (fine-list v list is)) begin opened;
        }

pub following-calls : FollowingCalls
following-calls =
    record { of_first_step = of_first_step; calls = one-call; takes = one-taken; same_as_one = following-as-one }
