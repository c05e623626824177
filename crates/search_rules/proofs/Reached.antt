-- The states that a run comes through, and what that says of its end.
use mathlib.Core.Path.{◌≡◌, refl, sym, ◌∙◌}
use mathlib.Core.Logic.{◌⊎◌, inl, inr, ⊎_elim}
use mathlib.Core.List.{List}
use mathlib.Core.Option.{Option, none, some}
use Prim.Native.Nat.{ℕ, zero, suc, ◌+◌, ◌-◌, ◌≤◌}
use native.Mathlib.Omega.{arith}
use native.Mathlib.Nat.{zero-add, suc-add}
use lib.IntN.{ℤ}
use Rattle.search_rules.specs.declared.Steps.{Steps}
use Rattle.search_rules.specs.Rules.{State, Kind, Next, end_none, end_found, step, next}
use Rattle.search_rules.specs.Run.{total, count, End, was_none, was_found, was_spent, run, after, EndedWithin}
use Rattle.search_rules.proofs.StepView.{Ends, run_ends, total-count}

module _ (clauses : List (List ℤ)) (v : ℕ) where
  -- m + n steps are m steps and then n
  pub after-add : (m n : ℕ) (state s : State) → after clauses v m state ≡ some s → after clauses v (m + n) state ≡ after clauses v n s
  unfolding after
  after-add zero n state s e = let q : state ≡ s = cc in rw (zero-add n, q) refl
  after-add (suc m) n state s e = rw (suc-add m n) (by (next clauses v state) (after-add m n) e)
    where
      by : (x : Next) → ((state s : State) → after clauses v m state ≡ some s → after clauses v (m + n) state ≡ after clauses v n s)
          → elim x as (λ _. Option State) [ end_none ↦ none | end_found ↦ none | step kind s' ↦ after clauses v m s' ] ≡ some s
          → elim x as (λ _. Option State) [ end_none ↦ none | end_found ↦ none | step kind s' ↦ after clauses v (m + n) s' ] ≡ after clauses v n s
      by end_none p e = absurd (let z : ◌≡◌ {A = ℕ} 0 1 = cc in omega arith)
      by end_found p e = absurd (let z : ◌≡◌ {A = ℕ} 0 1 = cc in omega arith)
      by (step kind s') p e = p s' s e

  after_one : (state : State) (kind : Kind) (s : State) → next clauses v state ≡ step kind s → after clauses v 1 state ≡ some s
  unfolding after
  after_one state kind s e = rw (e, after) refl

  -- no step is done where the rules end
  after-end : (n : ℕ) (state s : State) → (next clauses v state ≡ end_none) ⊎ (next clauses v state ≡ end_found)
      → after clauses v n state ≡ some s → (n ≡ 0) × (state ≡ s)
  unfolding after
  after-end zero state s h e = (refl, cc)
  after-end (suc n) state s (inl h) e = absurd (let d : none ≡ some s = rw (h, after) at e in let z : ◌≡◌ {A = ℕ} 0 1 = cc in omega arith)
  after-end (suc n) state s (inr h) e = absurd (let d : none ≡ some s = rw (h, after) at e in let z : ◌≡◌ {A = ℕ} 0 1 = cc in omega arith)

  -- what every step keeps is kept by any number of them
  module _ (P : State → Type 0) (keep : (state : State) (kind : Kind) (s : State) → P state → next clauses v state ≡ step kind s → P s) where
    pub after-keeps : (n : ℕ) (start state : State) → P start → after clauses v n start ≡ some state → P state
    unfolding after
    after-keeps zero start state p e = let q : start ≡ state = cc in rw q at p
    after-keeps (suc n) start state p e = by (next clauses v start) refl (λ s. after-keeps n s state) e
      where
        by : (x : Next) → next clauses v start ≡ x → ((s : State) → P s → after clauses v n s ≡ some state → P state)
            → elim x as (λ _. Option State) [ end_none ↦ none | end_found ↦ none | step kind s ↦ after clauses v n s ] ≡ some state → P state
        by end_none d on e = absurd (let z : ◌≡◌ {A = ℕ} 0 1 = cc in omega arith)
        by end_found d on e = absurd (let z : ◌≡◌ {A = ℕ} 0 1 = cc in omega arith)
        by (step kind s) d on e = on s (keep start kind s p d) e

  -- so many steps from the start, all counted
  pub record Reached (t₀ : Steps) (start : State) (t : Steps) (state : State) : Type 0 where
    pub done : ℕ
    pub is_after : after clauses v done start ≡ some state
    pub figure : total t ≡ total t₀ + done

  reached-start : (t : Steps) (start : State) → Reached t start t start
  unfolding after
  reached-start t start = record { done = 0; is_after = refl; figure = omega arith }

  reached-step : (t₀ : Steps) (start : State) (t : Steps) (state : State) (kind : Kind) (s : State) → Reached t₀ start t state
      → next clauses v state ≡ step kind s → Reached t₀ start (count kind t) s
  reached-step t₀ start t state kind s r e = record {
    done = r.done + 1;
    is_after = after-add r.done 1 start state r.is_after ∙ after_one state kind s e;
    figure = let f = r.figure in omega (arith, total-count kind t);
  }

  -- where a run ends, by the steps done in it
  pub reached-ends : (n : ℕ) (t : Steps) (start : State) (end : End) → run clauses v n t start ≡ end
      → Ends (λ t' s. Reached t start t' s) clauses v (total t + n) end
  reached-ends n t start end e =
      run_ends clauses v (λ t' s. Reached t start t' s) (reached-step t start) n t start end (reached-start t start) e

  -- and by the steps from a state that led to its start
  pub reached-from : (k : ℕ) (first start : State) {t t' : Steps} {s : State} → after clauses v k first ≡ some start → (r : Reached t start t' s)
      → after clauses v (k + r.done) first ≡ some s
  reached-from k first start e r = after-add k r.done first start e ∙ r.is_after

  pub ended-none : (n : ℕ) (t t' : Steps) (start : State) → run clauses v n t start ≡ was_none t' → EndedWithin clauses v n start
  unfolding Ends
  ended-none n t t' start e =
      let p = reached-ends n t start (was_none t') e in
      let l : p.1.done ≤ n = (let f = p.1.figure in let m = p.3 in omega arith) in
      record { steps = p.1.done; within = l; state = p.0; reached = p.1.is_after; ends = inl p.2 }

  pub ended-found : (n : ℕ) (t t' : Steps) (start s : State) → run clauses v n t start ≡ was_found t' s → EndedWithin clauses v n start
  unfolding Ends
  ended-found n t t' start s e =
      let p = reached-ends n t start (was_found t' s) e in
      let l : p.0.done ≤ n = (let f = p.0.figure in let m = p.2 in omega arith) in
      record { steps = p.0.done; within = l; state = s; reached = p.0.is_after; ends = inr p.1 }

  -- a spent run: all steps are done, and another would follow
  pub record Spending (n : ℕ) (t : Steps) (start : State) (t' : Steps) (s : State) : Type 0 where
    pub is_after : after clauses v n start ≡ some s
    pub figure : total t' ≡ total t + n
    pub goes_on : (kind : Kind) × (s' : State) × (next clauses v s ≡ step kind s')

  pub spending : (n : ℕ) (t t' : Steps) (start s : State) → run clauses v n t start ≡ was_spent t' s → Spending n t start t' s
  unfolding Ends
  spending n t t' start s e =
      let p = reached-ends n t start (was_spent t' s) e in
      let m : p.0.done ≡ n = (let f = p.0.figure in let l = p.2 in omega arith) in
      record { is_after = rw m at p.0.is_after; figure = p.2; goes_on = p.1 }

  -- what goes on after n steps has not ended within them
  goes-not-ended : (n : ℕ) (start s : State) (kind : Kind) (s' : State) → after clauses v n start ≡ some s → next clauses v s ≡ step kind s'
      → EndedWithin clauses v n start → ⊥
  goes-not-ended n start s kind s' a g w =
      let m : w.steps + (n - w.steps) ≡ n = (let l = w.within in omega arith) in
      let d : after clauses v (n - w.steps) w.state ≡ some s = sym (after-add w.steps (n - w.steps) start w.state w.reached)
      ∙ (rw m a) in
      let q : w.state ≡ s = (after-end (n - w.steps) w.state s w.ends d).1 in
      let x : (next clauses v s ≡ end_none) ⊎ (next clauses v s ≡ end_found) = rw q at w.ends in
      ⊎_elim (λ y. let z : ◌≡◌ {A = ℕ} 0 1 = cc in omega arith) (λ y. let z : ◌≡◌ {A = ℕ} 0 1 = cc in omega arith) x

  pub spent-not-ended : (n : ℕ) (t t' : Steps) (start s : State) → run clauses v n t start ≡ was_spent t' s → EndedWithin clauses v n start → ⊥
  spent-not-ended n t t' start s e w =
      let p = spending n t t' start s e in goes-not-ended n start s p.goes_on.0 p.goes_on.1 p.is_after p.goes_on.2 w

  pub ended-or-spent : (n : ℕ) (t : Steps) (start : State) (end : End) → run clauses v n t start ≡ end
      → EndedWithin clauses v n start ⊎ ((t' : Steps) × (s : State) × (run clauses v n t start ≡ was_spent t' s))
  ended-or-spent n t start (was_none t') e = inl (ended-none n t t' start e)
  ended-or-spent n t start (was_found t' s) e = inl (ended-found n t t' start s e)
  ended-or-spent n t start (was_spent t' s) e = inr (t', s, e)
