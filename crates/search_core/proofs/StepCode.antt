-- A step of the code is a step of the rules.
use mathlib.Core.Path.{◌≡◌, refl, ◌∙◌, ap}
use mathlib.Core.Bool.{Bool, true, false}
use mathlib.Core.Logic.{⊎_elim}
use mathlib.Core.List.{List, ◌∷◌}
use mathlib.Core.Option
use mathlib.Core.Option.{Option, none, some}
use Prim.Native.Nat.{ℕ, suc, ◌+◌, ◌<◌, ◌≤◌}
use native.Mathlib.Omega.{arith}
use native.Mathlib.Numerals.{add-one}
use lib.IntN.{ℤ, pos, negsuc}
use lib.ListN.{length, get_or, set}
use mir.Syntax.{w32}
use mir.Val.{SFits}
use Rattle.literal.specs.Words.{last_variable}
use Rattle.search_core.specs.declared.steps.StepKind.TheVariants.{Propagation, Decision, Backtrack}
use Rattle.search_core.specs.declared.steps.Moved.TheVariants.{NoneLeft, AllSet, To}
use Rattle.search_rules.specs.Held.{InRange, Stored}
use Rattle.search_scan.specs.Seen.{Sight, conflicting, unit, neither, seen}
use Rattle.search_core.specs.Inner.{Turned, Stepped}
use Rattle.search_rules.specs.Rules.{conflict, first_unit, lowest_open, propagated, decided, State, word_of, byte_of, place_of, values_of}
use Rattle.search_rules.specs.Rules.{trail_of, Kind, propagation, backtrack, Next, end_none, end_found, step, turn, decide, next}
use Rattle.search_rules.proofs.Found.{place-below}
use Rattle.search_rules.proofs.Invariant.{OpenIn}
use Rattle.search_rules.proofs.StepView.{Lowest, low-cases, turns-of}
use Rattle.search_rules.proofs.Trails.{room}
use Rattle.search_core.proofs.Slices.{put-top, size-values, size-trail}

-- what a look shows, rule by rule
module _ (values : List ℕ) (clauses : List (List ℤ)) where
  abbrev sight : Bool → Option ℤ → Sight
  sight b u = elim b as (λ _. Sight) [ true ↦ conflicting | false ↦ elim u as (λ _. Sight) [ some l ↦ unit l | none ↦ neither ] ]

  pub saw-conflict : conflicting ≡ seen values clauses → conflict values clauses ≡ true
  unfolding seen
  saw-conflict e = by (conflict values clauses) (first_unit values clauses) e
    where
      by : (b : Bool) (u : Option ℤ) → conflicting ≡ sight b u → b ≡ true
      by true u e = refl
      by false none e = cc
      by false (some l) e = cc

  pub saw-unit : (l : ℤ) → unit l ≡ seen values clauses → (conflict values clauses ≡ false) × (first_unit values clauses ≡ some l)
  unfolding seen
  saw-unit l e = by (conflict values clauses) (first_unit values clauses) e
    where
      by : (b : Bool) (u : Option ℤ) → unit l ≡ sight b u → (b ≡ false) × (u ≡ some l)
      by true u e = absurd (let z : ◌≡◌ {A = ℕ} 0 1 = cc in omega arith)
      by false none e = absurd (let z : ◌≡◌ {A = ℕ} 0 1 = cc in omega arith)
      by false (some k) e = (refl, cc)

  pub saw-neither : neither ≡ seen values clauses → (conflict values clauses ≡ false) × (first_unit values clauses ≡ none)
  unfolding seen
  saw-neither e = by (conflict values clauses) (first_unit values clauses) e
    where
      by : (b : Bool) (u : Option ℤ) → neither ≡ sight b u → (b ≡ false) × (u ≡ none)
      by true u e = absurd (let z : ◌≡◌ {A = ℕ} 0 1 = cc in omega arith)
      by false none e = (refl, refl)
      by false (some k) e = absurd (let z : ◌≡◌ {A = ℕ} 0 1 = cc in omega arith)

-- what the rules do there
abbrev rules : State → List ℕ → Bool → Option ℤ → Next
rules state values b u =
    elim b as (λ _. Next) [
      | true ↦ turn state
      | false ↦ elim u as (λ _. Next) [ some l ↦ step propagation (propagated l ∷ state) | none ↦ decide state (lowest_open 0 values) ]
    ]

module _ (clauses : List (List ℤ)) (v : ℕ) (state : State) (values : List ℕ) (here : values ≡ values_of v state) where
  next-is : next clauses v state ≡ rules state values (conflict values clauses) (first_unit values clauses)
  unfolding next
  next-is = rw here refl

  by-conflict : (b : Bool) → conflict values clauses ≡ b → next clauses v state ≡ rules state values b (first_unit values clauses)
  by-conflict b e = next-is ∙ ap (λ b. rules state values b (first_unit values clauses)) e

  pub next-conflict : conflicting ≡ seen values clauses → next clauses v state ≡ turn state
  next-conflict e = by-conflict true (saw-conflict values clauses e)

  pub next-unit : (l : ℤ) → unit l ≡ seen values clauses → next clauses v state ≡ step propagation (propagated l ∷ state)
  next-unit l e = let h = saw-unit values clauses l e in by-conflict false h.0 ∙ ap (rules state values false) h.1

  pub next-neither : neither ≡ seen values clauses → next clauses v state ≡ decide state (lowest_open 0 values)
  next-neither e = let h = saw-neither values clauses e in by-conflict false h.0 ∙ ap (rules state values false) h.1

turn-kind : (state : State) (kind : Kind) (s : State) → turn state ≡ step kind s → kind ≡ backtrack
turn-kind state kind s d = ⊎_elim (λ h. cc) (λ h. same h.0 h.1) (turns-of state)
  where
    same : (s' : State) → turn state ≡ step backtrack s' → kind ≡ backtrack
    same s' e = cc

-- the lowest open variable, as `lowest_open` answers it
module _ (values : List ℕ) (r : ℕ) (e : r ≡ Option.get_or (lowest_open 0 values) (length values)) where
  pub low-full : r ≡ length values → lowest_open 0 values ≡ none
  low-full q = ⊎_elim (λ h. h.0) (λ h. absurd (beyond h.0 h.1 h.2)) (low-cases values)
    where
      beyond : (i : ℕ) → Lowest values i → lowest_open 0 values ≡ some i → ⊥
      beyond i l d = let w : r ≡ i = rw d at e in let b = l.within in omega arith

  pub low-open : (r ≡ length values → ⊥) → Lowest values r × (lowest_open 0 values ≡ some r)
  low-open q = ⊎_elim (λ h. absurd (q (rw h.0 at e))) (λ h. here h.0 h.1 h.2) (low-cases values)
    where
      here : (i : ℕ) → Lowest values i → lowest_open 0 values ≡ some i → Lowest values r × (lowest_open 0 values ≡ some r)
      here i l d = let w : r ≡ i = rw d at e in rw w (l, d)

pub range-fits : (v : ℕ) (l : ℤ) → InRange v l → v ≤ last_variable → SFits w32 l
range-fits v (pos n) h k = record { sfits = (let w = h.1 in omega arith) }
range-fits v (negsuc n) h k = record { sfits = (let w = h.1 in omega arith) }

decided-entry : (i : ℕ) → (word_of (decided i) ≡ negsuc i) × (byte_of (decided i) ≡ 3) × (place_of (word_of (decided i)) ≡ i)
unfolding word_of byte_of place_of
decided-entry i = (refl, refl, refl)

word-propagated : (l : ℤ) → word_of (propagated l) ≡ l
unfolding word_of
word-propagated l = refl

module _ (v : ℕ) (state : State) (values : List ℕ) (trail : List ℤ) (n : ℕ) (s : Stored v state values trail n) where
  -- an open variable leaves room on the trail
  pub has_room : (k : ℕ) → k < v → get_or values k 2 ≡ 2 → n < length trail
  has_room k h e = rw (size-trail v state values trail n s, s.used_is) (room v state k s.was_open h (rw s.values_are at e))

  pub open-room : (l : ℤ) → OpenIn v values l → n < length trail
  open-room l o = has_room (place_of l) (place-below v l o.0) o.1

  one_more : n + 1 ≡ suc (length state)
  one_more = add-one n ∙ ap suc s.used_is

  pub step-full : (clauses : List (List ℤ)) (r : ℕ) → neither ≡ seen values clauses
      → r ≡ Option.get_or (lowest_open 0 values) (length values) → r ≡ length values → Stepped v state (next clauses v state) AllSet values trail
  unfolding decide
  step-full clauses r e b z =
      rw (next-neither clauses v state values s.values_are e ∙ ap (decide state) (low-full values r b z)) (refl, rw s.used_is at s)

  module _ (clauses : List (List ℤ)) (values' : List ℕ) (trail' : List ℤ) where
    none_left : (x : Next) (r : ℕ) → Turned v x r values' trail' → r ≡ 0 → Stepped v state x NoneLeft values' trail'
    none_left end_none r b e = (refl, rw e at b)
    none_left end_found r b e = absurd b
    none_left (step kind s) r b e = absurd (let q = b.1 in omega arith)

    turned : (x : Next) (r : ℕ) → (turn state ≡ x) → Turned v x r values' trail' → (r ≡ 0 → ⊥) → Stepped v state x (To Backtrack r) values' trail'
    turned end_none r d b e = absurd (e b.used_is)
    turned end_found r d b e = absurd b
    turned (step kind s) r d b e =
        (rw (turn-kind state kind s d) (ap (To Backtrack) b.0.used_is), rw b.0.used_is at b.0)

    pub step-none : (r : ℕ) → conflicting ≡ seen values clauses → Turned v (turn state) r values' trail' → r ≡ 0
        → Stepped v state (next clauses v state) NoneLeft values' trail'
    step-none r e b z = rw (next-conflict clauses v state values s.values_are e) (none_left (turn state) r b z)

    pub step-turn : (r : ℕ) → conflicting ≡ seen values clauses → Turned v (turn state) r values' trail' → (r ≡ 0 → ⊥)
        → Stepped v state (next clauses v state) (To Backtrack r) values' trail'
    step-turn r e b z = rw (next-conflict clauses v state values s.values_are e) (turned (turn state) r refl b z)

    pub step-unit : (l : ℤ) → unit l ≡ seen values clauses → OpenIn v values l → values' ≡ set values (place_of l) (byte_of (propagated l))
        → trail' ≡ set trail n l → Stepped v state (next clauses v state) (To Propagation (n + 1)) values' trail'
    step-unit l e o p q =
        rw (next-unit clauses v state values s.values_are l e) (
          ap (To Propagation) one_more,
          put-top v state values' trail' (propagated l) (place_of l) (byte_of (propagated l)) l (suc (length state)) refl
              (p ∙ ap (λ x. set x (place_of l) (byte_of (propagated l))) s.values_are)
              (q ∙ ap (λ x. set x n l) s.trail_is ∙ ap (λ x. set (trail_of v state) x l) s.used_is)
              (ap place_of (word-propagated l)) refl (word-propagated l) o.0 (rw s.values_are at o.1) s.was_open,
        )

    pub step-decide : (r : ℕ) → neither ≡ seen values clauses → r ≡ Option.get_or (lowest_open 0 values) (length values) → (r ≡ length values → ⊥)
        → values' ≡ set values r 3 → trail' ≡ set trail n (negsuc r)
        → Stepped v state (next clauses v state) (To Decision (n + 1)) values' trail'
    unfolding decide
    step-decide r e b z p q =
        let w = low-open values r b z in
        let f = decided-entry r in
        let m : r < v = (let l = w.0.within in omega (arith, size-values v state values trail n s)) in
        rw (next-neither clauses v state values s.values_are e ∙ ap (decide state) w.1) (
          ap (To Decision) one_more,
          put-top v state values' trail' (decided r) r 3 (negsuc r) (suc (length state)) refl
              (p ∙ ap (λ x. set x r 3) s.values_are)
              (q ∙ ap (λ x. set x n (negsuc r)) s.trail_is ∙ ap (λ x. set (trail_of v state) x (negsuc r)) s.used_is)
              f.2 f.1 f.0 (omega arith, m) (rw s.values_are at w.0.is_open) s.was_open,
        )
