-- Every run ends: from any state over v variables the rules end within some number of steps.
-- The states are ordered: an entry that a decision made comes before one that was turned or forced, and what stands below weighs more than all
-- above it together. Each step leads to a later state, and there are at most 3^v.
use mathlib.Core.Path.{◌≡◌, refl, sym, ◌∙◌, ap}
use mathlib.Core.Logic.{◌⊎◌, inl, inr}
use mathlib.Core.List.{List, [], ◌∷◌}
use Prim.Native.Nat.{ℕ, zero, suc, ◌+◌, ◌-◌, ◌<◌, ◌≤◌}
use native.Mathlib.Omega.{arith}
use lib.IntN.{ℤ, pos}
use lib.ListN.{length}
use Rattle.search_rules.specs.Held.{WasOpen}
use Rattle.search_rules.specs.Rules.{Entry, propagated, decided, State, word_of, Kind, backtrack, Next, end_none, end_found, step, turn, next}
use Rattle.search_rules.specs.Run.{after, EndedWithin}
use Rattle.search_rules.specs.Following.{first_step, FollowingEnded, at_once, later}
use Rattle.search_rules.proofs.Ranges.{Ranged}
use Rattle.search_rules.proofs.StepView.{Step, ends-none, ends_found, backtracks, propagates, decides, view}
use Rattle.search_rules.proofs.Found.{place-below}
use Rattle.search_rules.proofs.Trails.{room}
use Rattle.search_rules.proofs.Again.{open-keeps}
use Rattle.search_rules.proofs.Following.{first-not-found, first-open}

-- an entry of either kind, and what the lowest one above a state weighs; a weight of 3^v would be that of no entries, once more
weigh : Entry → ℕ → ℕ
weigh (propagated l) unit = unit + unit
weigh (decided i) unit = unit

power : ℕ → ℕ
power zero = 1
power (suc n) = power n + (power n + power n)

unit : ℕ → State → ℕ
unit v state = power (v - length state)

weight : ℕ → State → ℕ
weight v [] = 0
weight v (e ∷ state) = weight v state + weigh e (unit v (e ∷ state))

-- the weight that no state above this one comes up to
top : ℕ → State → ℕ
top v state = weight v state + unit v state

power-some : (n : ℕ) → 1 ≤ power n
unfolding power
power-some zero = omega arith
power-some (suc n) = let h = power-some n in omega arith

module _ (v : ℕ) where
  -- three entries' units are one below
  unit-step : (e : Entry) (state : State) → length state < v
      → unit v state ≡ unit v (e ∷ state) + (unit v (e ∷ state) + unit v (e ∷ state))
  unfolding unit power
  unit-step e state h = let q : v - length state ≡ suc (v - suc (length state)) = omega arith in ap power q

  unit-some : (state : State) → 1 ≤ unit v state
  unfolding unit
  unit-some state = power-some (v - length state)

  entry-room : (e : Entry) (state : State) → WasOpen v (e ∷ state) → length state < v
  unfolding WasOpen
  entry-room e state o = room v state _ o.2 (place-below v (word_of e) o.0) o.1

  weigh-some : (e : Entry) (u : ℕ) → 1 ≤ u → 1 ≤ weigh e u
  unfolding weigh
  weigh-some (propagated l) u h = omega arith
  weigh-some (decided i) u h = h

  weigh-most : (e : Entry) (u : ℕ) → weigh e u ≤ u + u
  unfolding weigh
  weigh-most (propagated l) u = omega arith
  weigh-most (decided i) u = omega arith

  -- one more entry
  push-more : (e : Entry) (state : State) → weight v state < weight v (e ∷ state)
  unfolding weight
  push-more e state = omega (arith, weigh-some e (unit v (e ∷ state)) (unit-some (e ∷ state)))

  push-below : (e : Entry) (state : State) → WasOpen v (e ∷ state) → top v (e ∷ state) ≤ top v state
  unfolding top weight
  push-below e state o = omega (arith, unit-step e state (entry-room e state o), weigh-most e (unit v (e ∷ state)))

  -- no state comes up to the top of none
  below_top : (state : State) → WasOpen v state → top v state ≤ top v []
  unfolding WasOpen
  below_top [] o = omega arith
  below_top (e ∷ state) o = omega (arith, push-below e state o, below_top state o.2)

  -- a turn leads up to the top of the state
  turn-top : (state : State) (kind : Kind) (s : State) → WasOpen v state → turn state ≡ step kind s → weight v s ≡ top v state
  unfolding turn WasOpen
  turn-top [] kind s o e = absurd (let z : ◌≡◌ {A = ℕ} 0 1 = cc in omega arith)
  turn-top (propagated l ∷ state) kind s o e =
      turn-top state kind s o.2 e
      ∙ unfold top weight weigh in omega (arith, unit-step (propagated l) state (entry-room (propagated l) state o))
  turn-top (decided i ∷ state) kind s o e =
      let q : propagated (pos (suc i)) ∷ state ≡ s = cc in
      ap (weight v) (sym q) ∙ unfold top weight weigh unit in omega arith

  turn_more : (state : State) (kind : Kind) (s : State) → WasOpen v state → turn state ≡ step kind s → weight v state < weight v s
  unfolding top
  turn_more state kind s o e = omega (arith, turn-top state kind s o e, unit-some state)

module _ (clauses : List (List ℤ)) (v : ℕ) (ranged : Ranged v clauses) where
  -- every step leads to more
  step-more : (state : State) → WasOpen v state → (kind : Kind) (s : State) (x : Next) → Step clauses v state x → x ≡ step kind s
      → weight v state < weight v s
  step-more state o kind s x (ends-none d c t) e = absurd (let z : ◌≡◌ {A = ℕ} 0 1 = cc in omega arith)
  step-more state o kind s x (ends_found d c u f) e = absurd (let z : ◌≡◌ {A = ℕ} 0 1 = cc in omega arith)
  step-more state o kind s x (backtracks {s = r} d c t) e =
      let q : r ≡ s = cc in rw q at (turn_more v state backtrack r o t)
  step-more state o kind s x (propagates {l = l} d c u) e =
      let q : propagated l ∷ state ≡ s = cc in rw q at (push-more v (propagated l) state)
  step-more state o kind s x (decides {i = i} d c u l) e =
      let q : decided i ∷ state ≡ s = cc in rw q at (push-more v (decided i) state)

  more : (state : State) → WasOpen v state → (kind : Kind) (s : State) → next clauses v state ≡ step kind s → weight v state < weight v s
  more state o kind s e = step-more state o kind s (next clauses v state) (view clauses v state) e

  here : (n : ℕ) (state : State) → (next clauses v state ≡ end_none) ⊎ (next clauses v state ≡ end_found) → EndedWithin clauses v n state
  unfolding after
  here n state e = record { steps = 0; within = omega arith; state = state; reached = refl; ends = e }

  -- one step ahead
  ahead : (n : ℕ) (state : State) (kind : Kind) (s : State) → next clauses v state ≡ step kind s → EndedWithin clauses v n s
      → EndedWithin clauses v (suc n) state
  unfolding after
  ahead n state kind s e w = record {
    steps = suc w.steps;
    within = let l = w.within in omega arith;
    state = w.state;
    reached = rw (e, after) w.reached;
    ends = w.ends;
  }

  ends_at : (n : ℕ) (state : State) → WasOpen v state → (x : Next) → next clauses v state ≡ x
      → ((kind : Kind) (s : State) → x ≡ step kind s → EndedWithin clauses v n state) → EndedWithin clauses v n state
  ends_at n state o end_none e on = here n state (inl e)
  ends_at n state o end_found e on = here n state (inr e)
  ends_at n state o (step kind s) e on = on kind s refl

  ends-in : (n : ℕ) (state : State) → WasOpen v state → top v [] ≤ weight v state + n → EndedWithin clauses v n state
  ends-in zero state o h = absurd (unfold top in omega (arith, below_top v state o, unit-some v state))
  ends-in (suc n) state o h =
      ends_at (suc n) state o (next clauses v state) refl
      (λ kind s e.
      ahead n state kind s e (ends-in n s (open-keeps v clauses ranged state kind s o e) (omega (arith, more state o kind s e))))

  -- from any state over v variables
  pub ends : (state : State) → WasOpen v state → (n : ℕ) × EndedWithin clauses v n state
  ends state o = (top v [], ends-in (top v []) state o (omega arith))

  -- and a call for the next
  pub following-ends : (state : State) → WasOpen v state → (n : ℕ) × FollowingEnded clauses v n state
  following-ends state o = by (first_step clauses v state) refl
    where
      by : (x : Next) → first_step clauses v state ≡ x → (n : ℕ) × FollowingEnded clauses v n state
      by end_none e = (0, at_once e)
      by end_found e = absurd (first-not-found clauses v state e)
      by (step kind s) e =
          let w = ends s (first-open v clauses ranged state o kind s e) in (suc w.0, later e w.1)
