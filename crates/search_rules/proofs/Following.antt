-- A call for the next: its first step, what holds at its end, and when it is spent.
use mathlib.Core.Path.{◌≡◌, refl, sym, ◌∙◌, ap}
use mathlib.Core.Bool.{false}
use mathlib.Core.Logic.{◌⊎◌, inl, inr, ⊎_elim, ◌↔◌}
use mathlib.Core.List.{List}
use Prim.Native.Nat.{ℕ, zero, suc, ◌+◌}
use native.Mathlib.Omega.{arith}
use native.Mathlib.Nat.{zero-add, suc-add}
use lib.IntN.{ℤ}
use Rattle.prelude.proofs.Laws.{clash}
use Rattle.search_rules.specs.declared.Steps.{Steps}
use Rattle.search_rules.specs.Rules.{conflict, place_of, State, values_of, Kind, backtrack, Next, end_none, end_found, step, turn, next}
use Rattle.search_rules.specs.Run.{total, count, End, was_none, was_found, was_spent, run, EndedWithin}
use Rattle.search_rules.specs.Held.{WasOpen}
use Rattle.search_rules.specs.Following.{first_step, following_run, FollowingEnded, at_once, later}
use Rattle.search_rules.proofs.Ranges.{Ranged}
use Rattle.search_rules.proofs.StepView.{Full, Step, ends-none, ends_found, backtracks, propagates, decides, view, turns-of}
use Rattle.search_rules.proofs.StepView.{total-count, turn-leads, Ends, run_ends}
use Rattle.search_rules.proofs.Invariant.{length-values, first-unit-open}
use Rattle.search_rules.proofs.Found.{place-below}
use Rattle.search_rules.proofs.Reached.{spending}
use Rattle.search_rules.proofs.Again.{open_kept, open-keeps}
use Rattle.search_rules.proofs.Theorems.{spent_exactly, spent-state, again, resume}

-- the rules end with "found" exactly where every variable is set and no clause is false
module _ (clauses : List (List ℤ)) (v : ℕ) (ranged : Ranged v clauses) where
  full-step : (state : State) → Full (values_of v state) → conflict (values_of v state) clauses ≡ false
      → (x : Next) → Step clauses v state x → x ≡ end_found
  full-step state f n x (ends-none d c t) = absurd (clash _ c n)
  full-step state f n x (ends_found d c u g) = d
  full-step state f n x (backtracks d c t) = absurd (clash _ c n)
  full-step state f n x (propagates {l = l} d c u) =
      let o = first-unit-open v (values_of v state) l clauses ranged u in
      absurd (f (place_of l) (rw (length-values v state) (place-below v l o.0)) o.1)
  full-step state f n x (decides {i = i} d c u l) = absurd (f i l.within l.is_open)

  pub full-found : (state : State) → Full (values_of v state) → conflict (values_of v state) clauses ≡ false → next clauses v state ≡ end_found
  full-found state f n = full-step state f n (next clauses v state) (view clauses v state)

module _ (clauses : List (List ℤ)) (v : ℕ) where
  -- the first step is one of the rules, or the turn of a full assignment
  pub first-cases : (state : State) (kind : Kind) (s : State) → first_step clauses v state ≡ step kind s
      → (next clauses v state ≡ step kind s) ⊎ ((next clauses v state ≡ end_found) × (turn state ≡ step kind s))
  unfolding first_step
  first-cases state kind s e = by (next clauses v state) refl e
    where
      by : (x : Next) → next clauses v state ≡ x
          → elim x as (λ _. Next) [ end_none ↦ end_none | end_found ↦ turn state | step kind s ↦ step kind s ] ≡ step kind s
          → (next clauses v state ≡ step kind s) ⊎ ((next clauses v state ≡ end_found) × (turn state ≡ step kind s))
      by end_none d e = absurd (let z : ◌≡◌ {A = ℕ} 0 1 = cc in omega arith)
      by end_found d e = inr (d, e)
      by (step k s') d e = inl (d ∙ e)

  -- it ends where the rules do with "none", or where no decision is left to turn
  pub first-none : (state : State) → first_step clauses v state ≡ end_none
      → (next clauses v state ≡ end_none) ⊎ ((next clauses v state ≡ end_found) × (turn state ≡ end_none))
  unfolding first_step
  first-none state e = by (next clauses v state) refl e
    where
      by : (x : Next) → next clauses v state ≡ x
          → elim x as (λ _. Next) [ end_none ↦ end_none | end_found ↦ turn state | step kind s ↦ step kind s ] ≡ end_none
          → (next clauses v state ≡ end_none) ⊎ ((next clauses v state ≡ end_found) × (turn state ≡ end_none))
      by end_none d e = inl d
      by end_found d e = inr (d, e)
      by (step k s') d e = absurd (let z : ◌≡◌ {A = ℕ} 0 1 = cc in omega arith)

  -- on a full assignment it is the turn
  pub first-full : (state : State) → next clauses v state ≡ end_found → first_step clauses v state ≡ turn state
  unfolding first_step
  first-full state e = rw (e, first_step) refl

  -- elsewhere it is the rules' next
  pub first-other : (state : State) → (next clauses v state ≡ end_found → ⊥) → first_step clauses v state ≡ next clauses v state
  unfolding first_step
  first-other state h = by (next clauses v state) refl
    where
      by : (x : Next) → next clauses v state ≡ x
          → elim x as (λ _. Next) [ end_none ↦ end_none | end_found ↦ turn state | step kind s ↦ step kind s ] ≡ x
      by end_none e = refl
      by end_found e = absurd (h e)
      by (step kind s) e = refl

  turn-not-found : (state : State) → turn state ≡ end_found → ⊥
  turn-not-found state e = ⊎_elim (λ t. let z : ◌≡◌ {A = ℕ} 0 1 = cc in omega arith) (λ t. other t.0 t.1) (turns-of state)
    where
      other : (s : State) → turn state ≡ step backtrack s → ⊥
      other s t = let z : ◌≡◌ {A = ℕ} 0 1 = cc in omega arith

  -- it is never an end with "found"
  pub first-not-found : (state : State) → first_step clauses v state ≡ end_found → ⊥
  unfolding first_step
  first-not-found state e = by (next clauses v state) e
    where
      by : (x : Next) → elim x as (λ _. Next) [ end_none ↦ end_none | end_found ↦ turn state | step kind s ↦ step kind s ] ≡ end_found → ⊥
      by end_none e = let z : ◌≡◌ {A = ℕ} 0 1 = cc in omega arith
      by end_found e = turn-not-found state e
      by (step k s) e = let z : ◌≡◌ {A = ℕ} 0 1 = cc in omega arith

  -- the run, by the first step
  pub follow-none : (n : ℕ) (t : Steps) (state : State) → first_step clauses v state ≡ end_none → following_run clauses v n t state ≡ was_none t
  unfolding following_run
  follow-none zero t state e = rw (e, following_run)
  follow-none (suc n) t state e = rw (e, following_run)

  pub follow-waits : (t : Steps) (state : State) (kind : Kind) (s : State) → first_step clauses v state ≡ step kind s
      → following_run clauses v 0 t state ≡ was_spent t state
  unfolding following_run
  follow-waits t state kind s e = rw (e, following_run)

  pub follow-step : (n : ℕ) (t : Steps) (state : State) (kind : Kind) (s : State) → first_step clauses v state ≡ step kind s
      → following_run clauses v (suc n) t state ≡ run clauses v n (count kind t) s
  unfolding following_run
  follow-step n t state kind s e = rw (e, following_run)

  -- elsewhere than on a full assignment the call is the resumed one
  pub follow-resumes : (n : ℕ) (t : Steps) (state : State) → (next clauses v state ≡ end_found → ⊥)
      → following_run clauses v n t state ≡ run clauses v n t state
  unfolding following_run first_step run
  follow-resumes n t state h = by n (next clauses v state) refl
    where
      by : (n : ℕ) (x : Next) → next clauses v state ≡ x → following_run clauses v n t state ≡ run clauses v n t state
      by zero end_none e = rw (e, following_run, first_step, run) refl
      by zero end_found e = absurd (h e)
      by zero (step kind s) e = rw (e, following_run, first_step, run) refl
      by (suc n) end_none e = rw (e, following_run, first_step, run) refl
      by (suc n) end_found e = absurd (h e)
      by (suc n) (step kind s) e = rw (e, following_run, first_step, run) refl

  -- what a call ends with, of a fact that its first step makes and every step keeps
  unfoldable pub FollowEnds : (State → Type 0) → State → End → Type 0
  FollowEnds P state (was_none t) = (first_step clauses v state ≡ end_none) ⊎ ((s : State) × P s × (next clauses v s ≡ end_none))
  FollowEnds P state (was_found t s) = P s × (next clauses v s ≡ end_found)
  FollowEnds P state (was_spent t s) = (s ≡ state) ⊎ (P s × (next clauses v s ≡ end_found → ⊥))

  module _ (P : State → Type 0) (keep : (state : State) (kind : Kind) (s : State) → P state → next clauses v state ≡ step kind s → P s) where
    of-run : (b : ℕ) (state : State) (end : End) → Ends (λ t s. P s) clauses v b end → FollowEnds P state end
    unfolding Ends FollowEnds
    of-run b state (was_none t) h = inr (h.0, h.1, h.2)
    of-run b state (was_found t s) h = (h.0, h.1)
    of-run b state (was_spent t s) h = inr (h.0, λ e. goes_on h.1.0 h.1.1 h.1.2 e)
      where
        goes_on : (kind : Kind) (s' : State) → next clauses v s ≡ step kind s' → next clauses v s ≡ end_found → ⊥
        goes_on kind s' d e = let z : ◌≡◌ {A = ℕ} 0 1 = cc in omega arith

    by_first : (n : ℕ) (t : Steps) (state : State) → ((kind : Kind) (s : State) → first_step clauses v state ≡ step kind s → P s)
        → (x : Next) → first_step clauses v state ≡ x → FollowEnds P state (following_run clauses v n t state)
    unfolding FollowEnds
    by_first n t state start end_none e = rw (follow-none n t state e) (inl e)
    by_first n t state start end_found e = absurd (first-not-found state e)
    by_first zero t state start (step kind s) e = rw (follow-waits t state kind s e) (inl refl)
    by_first (suc n) t state start (step kind s) e =
        rw (follow-step n t state kind s e) (of-run (total (count kind t) + n) state (run clauses v n (count kind t) s)
        (run_ends clauses v (λ t s. P s) (λ t state kind s p d. keep state kind s p d) n (count kind t) s (run clauses v n (count kind t) s)
        (start kind s e) refl))

    pub follow-ends : (n : ℕ) (t : Steps) (state : State) (end : End)
        → ((kind : Kind) (s : State) → first_step clauses v state ≡ step kind s → P s) → following_run clauses v n t state ≡ end
        → FollowEnds P state end
    follow-ends n t state end start e = rw e at (by_first n t state start (first_step clauses v state) refl)

  -- "spent" exactly when such a call has not ended within n steps
  abbrev Spends : ℕ → Steps → State → Type 0
  Spends n t state = (t' : Steps) × (s : State) × (following_run clauses v n t state ≡ was_spent t' s)

  spends-at : (n : ℕ) (t : Steps) (state : State) (x : Next) → first_step clauses v state ≡ x
      → Spends n t state ↔ (FollowingEnded clauses v n state → ⊥)
  spends-at n t state end_none e = (λ h. absurd (not_none h.0 h.1 h.2), λ h. absurd (h (at_once e)))
    where
      not_none : (t' : Steps) (s : State) → following_run clauses v n t state ≡ was_spent t' s → ⊥
      not_none t' s d = let q : was_none t ≡ was_spent t' s = sym (follow-none n t state e) ∙ d in let z : ◌≡◌ {A = ℕ} 0 1 = cc in omega arith
  spends-at n t state end_found e = absurd (first-not-found state e)
  spends-at zero t state (step kind s) e = (λ h. no_end, λ h. (t, state, follow-waits t state kind s e))
    where
      no_end : FollowingEnded clauses v 0 state → ⊥
      no_end (at_once d) = let z : ◌≡◌ {A = ℕ} 0 1 = cc in omega arith
  spends-at (suc n) t state (step kind s) e = (
    λ h. no_end (x.0 (h.0, h.1, sym step_is ∙ h.2)),
    λ h. let w = x.1 (λ d. h (later e d)) in (w.0, w.1, step_is ∙ w.2),
  )
    where
      x : ((t' : Steps) × (s' : State) × (run clauses v n (count kind t) s ≡ was_spent t' s')) ↔ (EndedWithin clauses v n s → ⊥)
      x = spent_exactly clauses v n (count kind t) s

      step_is : following_run clauses v (suc n) t state ≡ run clauses v n (count kind t) s
      step_is = follow-step n t state kind s e

      no_end : (EndedWithin clauses v n s → ⊥) → FollowingEnded clauses v (suc n) state → ⊥
      no_end h (at_once d) = let z : ◌≡◌ {A = ℕ} 0 1 = cc in omega arith
      no_end h (later {state' = s'} d w) = h (let q : s' ≡ s = cc in rw q at w)

  pub follow-spent-exactly : (n : ℕ) (t : Steps) (state : State) → Spends n t state ↔ (FollowingEnded clauses v n state → ⊥)
  follow-spent-exactly n t state = spends-at n t state (first_step clauses v state) refl

  -- a call that is spent did nothing and was allowed nothing, or stands where the rules go on
  data Spending (n : ℕ) (t : Steps) (state : State) (t' : Steps) (s : State) : Type 0 where
    nothing-done : n ≡ 0 → t' ≡ t → s ≡ state → Spending n t state t' s
    steps-done : {m : ℕ} {kind : Kind} {first : State} → n ≡ suc m → first_step clauses v state ≡ step kind first
        → run clauses v m (count kind t) first ≡ was_spent t' s → Spending n t state t' s

  spending-at : (n : ℕ) (t : Steps) (state : State) (t' : Steps) (s : State) (x : Next) → first_step clauses v state ≡ x
      → following_run clauses v n t state ≡ was_spent t' s → Spending n t state t' s
  spending-at n t state t' s end_none e d = absurd (not_none (sym (follow-none n t state e) ∙ d))
    where
      not_none : was_none t ≡ was_spent t' s → ⊥
      not_none q = let z : ◌≡◌ {A = ℕ} 0 1 = cc in omega arith
  spending-at n t state t' s end_found e d = absurd (first-not-found state e)
  spending-at zero t state t' s (step kind r) e d = same (sym (follow-waits t state kind r e) ∙ d)
    where
      same : was_spent t state ≡ was_spent t' s → Spending 0 t state t' s
      same q = nothing-done refl (let x : t ≡ t' = cc in sym x) (let x : state ≡ s = cc in sym x)
  spending-at (suc n) t state t' s (step kind r) e d = steps-done refl e (sym (follow-step n t state kind r e) ∙ d)

  spending-of : (n : ℕ) (t t' : Steps) (state s : State) → following_run clauses v n t state ≡ was_spent t' s → Spending n t state t' s
  spending-of n t t' state s d = spending-at n t state t' s (first_step clauses v state) refl d

  -- all steps are then counted
  pub following-counted : (n : ℕ) (t t' : Steps) (state s : State) → following_run clauses v n t state ≡ was_spent t' s → total t' ≡ total t + n
  following-counted n t t' state s d = by (spending-of n t t' state s d)
    where
      by : Spending n t state t' s → total t' ≡ total t + n
      by (nothing-done z q r) = rw (q, z) (omega arith)
      by (steps-done {m} {kind} {first} z e q) =
          omega (arith, z, total-count kind t, (spent-state clauses v m (count kind t) t' first s q).1)

  -- and a call for the next that takes it up comes to what one call would
  pub following-again : (m n : ℕ) (t t' : Steps) (state s : State) → following_run clauses v m t state ≡ was_spent t' s
      → following_run clauses v (m + n) t state ≡ following_run clauses v n t' s
  following-again m n t t' state s d = by (spending-of m t t' state s d)
    where
      goes_on : (kind : Kind) (s' : State) → next clauses v s ≡ step kind s' → next clauses v s ≡ end_found → ⊥
      goes_on kind s' d e = let z : ◌≡◌ {A = ℕ} 0 1 = cc in omega arith

      by : Spending m t state t' s → following_run clauses v (m + n) t state ≡ following_run clauses v n t' s
      by (nothing-done z q r) = rw (z, q, r, zero-add n) refl
      by (steps-done {m = k} {kind} {first} z e q) =
          let on = (spending clauses v k (count kind t) t' first s q).goes_on in
          let longer : m + n ≡ suc (k + n) = rw z (suc-add k n) in
          ap (λ x. following_run clauses v x t state) longer
          ∙ follow-step (k + n) t state kind first e
          ∙ resume clauses v k n (count kind t) first
          ∙ ap (again clauses v n) q
          ∙ unfold again in sym (follow-resumes n t' s (goes_on on.0 on.1 on.2))

-- the first step from a state over v variables leads to one
pub first-open : (v : ℕ) (clauses : List (List ℤ)) → Ranged v clauses → (state : State) → WasOpen v state → (kind : Kind) (s : State)
    → first_step clauses v state ≡ step kind s → WasOpen v s
first-open v clauses ranged state o kind s e =
    ⊎_elim (λ d. open-keeps v clauses ranged state kind s o d)
    (λ d. rw d.1 at (turn-leads clauses v (WasOpen v) (open_kept v clauses ranged) state o))
    (first-cases clauses v state kind s e)

-- and what is spent leaves a state over them
pub following-open : (v : ℕ) (clauses : List (List ℤ)) → Ranged v clauses → (n : ℕ) (t t' : Steps) (state s : State) → WasOpen v state
    → following_run clauses v n t state ≡ was_spent t' s → WasOpen v s
unfolding FollowEnds
following-open v clauses ranged n t t' state s o e =
    ⊎_elim (λ d. rw d o) (λ d. d.0)
    (follow-ends clauses v (WasOpen v) (open-keeps v clauses ranged) n t state (was_spent t' s) (first-open v clauses ranged state o) e)
