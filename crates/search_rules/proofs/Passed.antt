-- A full assignment that was turned away from stays behind: what is found after it comes later; and none is passed over (document 02, Change 6).
-- `Behind`: the assignment left the trail at a literal that a turn made true, with all lower variables set. Every step keeps that, since a turn
-- further back turns a decision that the assignment has. `Waiting`: all that follows holds in the assignment (`Follows`), and it is not the one
-- that stands there; a satisfying assignment waits until it is found.
use mathlib.Core.Path.{◌≡◌, refl, sym, ◌∙◌, ap}
use mathlib.Core.Bool.{true, false, not}
use mathlib.Core.Logic.{◌⊎◌, inl, inr, ⊎_elim}
use mathlib.Core.List.{List, [], ◌∷◌, map}
use Prim.Native.Nat.{ℕ, suc, ◌<◌, ◌≤◌}
use native.Mathlib.Omega.{arith}
use lib.Dec.{eqb}
use lib.IntN.{ℤ, pos, negsuc}
use lib.ListN.{get_or, get_or-map, get_or-replicate}
use lib.Seq.{get_or-set_same}
use borrow.Author.Tests.{not-true}
use Rattle.prelude.specs.Order.{Before}
use Rattle.prelude.proofs.Order.{before-irreflexive}
use Rattle.clause_list.specs.ClauseList.{Satisfying}
use Rattle.search_rules.specs.Held.{WasOpen}
use Rattle.search_rules.specs.Rules.{truth_of, Entry, propagated, decided, State, word_of, byte_of, place_of, values_of, settle}
use Rattle.search_rules.specs.Rules.{Kind, backtrack, Next, end_none, end_found, step, turn, next}
use Rattle.search_rules.specs.Following.{first_step}
use Rattle.search_rules.proofs.Assignments.{Assignment, assignment, holds, Has, Follows, model_of}
use Rattle.search_rules.proofs.Ranges.{Ranged}
use Rattle.search_rules.proofs.StepView.{Kept, Step, ends-none, ends_found, backtracks, propagates, decides, view, turn-leads}
use Rattle.search_rules.proofs.StepView.{steps-keep}
use Rattle.search_rules.proofs.Invariant.{length-values, Keeps, turn-keeps, follows-keeps, follows-not-none}
use Rattle.search_rules.proofs.Found.{place-below, found-ended}
use Rattle.search_rules.proofs.Again.{open_kept}
use Rattle.search_rules.proofs.First.{LowestDecided, lowest-kept, Parts, parts-later, parts-here, has-or-leaves, has_same, leaves_after}
use Rattle.search_rules.proofs.First.{set_other, left-before}
use Rattle.search_rules.proofs.Following.{first-cases, first-none}

-- the states that a search comes through, also after a full assignment was turned: each variable was open when it was set, and each decision
-- was that of the lowest open one
pub record Sound (v : ℕ) (state : State) : Type 0 where
  pub was_open : WasOpen v state
  pub lowest : LowestDecided v state

pub sound-fresh : (v : ℕ) → Sound v []
unfolding WasOpen LowestDecided
sound-fresh v = record { was_open = tt; lowest = tt }

module _ (clauses : List (List ℤ)) (v : ℕ) (ranged : Ranged v clauses) where
  sound-kept : Kept clauses v (Sound v)
  sound-kept =
      let o = open_kept v clauses ranged in
      let l = lowest-kept clauses v in
      record {
        on_opening = λ x s h. record { was_open = o.on_opening x s h.was_open; lowest = l.on_opening x s h.lowest };
        on_turning = λ i s h. record { was_open = o.on_turning i s h.was_open; lowest = l.on_turning i s h.lowest };
        on_propagation = λ x s u h. record { was_open = o.on_propagation x s u h.was_open; lowest = l.on_propagation x s u h.lowest };
        on_decision = λ i s d h. record { was_open = o.on_decision i s d h.was_open; lowest = l.on_decision i s d h.lowest };
      }

  pub sound-keeps : (state : State) (kind : Kind) (s : State) → Sound v state → next clauses v state ≡ step kind s → Sound v s
  sound-keeps = steps-keep clauses v (Sound v) sound-kept

  pub sound-first : (state : State) (kind : Kind) (s : State) → Sound v state → first_step clauses v state ≡ step kind s → Sound v s
  sound-first state kind s h e =
      ⊎_elim (λ d. sound-keeps state kind s h d) (λ d. rw d.1 at (turn-leads clauses v (Sound v) sound-kept state h))
      (first-cases clauses v state kind s e)

-- the assignment left the trail at a turned literal
pub data Behind (v : ℕ) (a : Assignment) : State → Type 0 where
  at_turn : {i : ℕ} {state : State} → Has a state → a i ≡ false → ((j : ℕ) → j < i → get_or (values_of v state) j 2 ≡ 2 → ⊥)
      → Behind v a (propagated (pos (suc i)) ∷ state)
  under : {e : Entry} {state : State} → Behind v a state → Behind v a (e ∷ state)

module _ (v : ℕ) (a : Assignment) where
  -- a turn from a trail that it has every literal of
  has-turn : (state : State) (kind : Kind) (s : State) → Has a state → LowestDecided v state → turn state ≡ step kind s → Behind v a s
  unfolding turn Has LowestDecided word_of holds
  has-turn [] kind s g low e = absurd (let z : ◌≡◌ {A = ℕ} 0 1 = cc in omega arith)
  has-turn (propagated l ∷ state) kind s g low e = has-turn state kind s g.1 low e
  has-turn (decided i ∷ state) kind s g low e =
      let q : propagated (pos (suc i)) ∷ state ≡ s = cc in
      rw q at (let r : Behind v a (propagated (pos (suc i)) ∷ state) = at_turn g.1 (not-true _ g.0) low.0 in r)

  behind-turn : {state : State} (kind : Kind) (s : State) → Behind v a state → LowestDecided v state → turn state ≡ step kind s → Behind v a s
  unfolding turn LowestDecided
  behind-turn kind s (at_turn {state = state} g z b) low e = has-turn state kind s g low e
  behind-turn kind s (under {e = propagated l} h) low e = behind-turn kind s h low e
  behind-turn kind s (under {e = decided i} {state = state} h) low e =
      let q : propagated (pos (suc i)) ∷ state ≡ s = cc in
      rw q at (let r : Behind v a (propagated (pos (suc i)) ∷ state) = under h in r)

  behind-step : (clauses : List (List ℤ)) (state : State) (kind : Kind) (s : State) → Behind v a state → LowestDecided v state
      → (x : Next) → Step clauses v state x → x ≡ step kind s → Behind v a s
  behind-step clauses state kind s b low x (ends-none d c t) e = absurd (let z : ◌≡◌ {A = ℕ} 0 1 = cc in omega arith)
  behind-step clauses state kind s b low x (ends_found d c u f) e = absurd (let z : ◌≡◌ {A = ℕ} 0 1 = cc in omega arith)
  behind-step clauses state kind s b low x (backtracks {s = r} d c t) e =
      let q : r ≡ s = cc in rw q at (behind-turn backtrack r b low t)
  behind-step clauses state kind s b low x (propagates {l = l} d c u) e =
      let q : propagated l ∷ state ≡ s = cc in rw q at (let r : Behind v a (propagated l ∷ state) = under b in r)
  behind-step clauses state kind s b low x (decides {i = i} d c u l) e =
      let q : decided i ∷ state ≡ s = cc in rw q at (let r : Behind v a (decided i ∷ state) = under b in r)

  -- where it left, the values say true and it has a 0
  behind-parts : {state : State} → WasOpen v state → Behind v a state → Parts false a (values_of v state)
  unfolding WasOpen
  behind-parts o (at_turn {i = i} {state = state} g z b) =
      parts-here a v false (propagated (pos (suc i))) state o (unfold byte_of truth_of in refl) (unfold word_of place_of in b) g
      (unfold word_of place_of in z)
  behind-parts o (under {e = e} {state = state} h) = parts-later a v false e state o.1 (behind-parts o.2 h)

-- what a state's values give has every literal of its trail
entry-holds : (a : Assignment) (e : Entry) → a (place_of (word_of e)) ≡ eqb (settle (byte_of e)) 1 → holds a (word_of e) ≡ true
unfolding holds word_of byte_of place_of
entry-holds a (propagated (pos n)) h = h
entry-holds a (propagated (negsuc n)) h = ap not h
entry-holds a (decided i) h = ap not h

byte-set : (e : Entry) → byte_of e ≡ 2 → ⊥
unfolding byte_of
byte-set (propagated (pos n)) h = omega arith
byte-set (propagated (negsuc n)) h = omega arith
byte-set (decided i) h = omega arith

module _ (v : ℕ) (a : Assignment) where
  has-if : (state : State) → WasOpen v state
      → ((j : ℕ) → (get_or (values_of v state) j 2 ≡ 2 → ⊥) → a j ≡ eqb (settle (get_or (values_of v state) j 2)) 1) → Has a state
  unfolding WasOpen Has
  has-if [] o h = tt
  has-if (e ∷ state) o h =
      let i = place_of (word_of e) in
      let here : get_or (values_of v (e ∷ state)) i 2 ≡ byte_of e =
      unfold values_of in get_or-set_same (values_of v state) i (byte_of e) 2 (rw (length-values v state) (place-below v (word_of e) o.0)) in (
        entry-holds a e (h i (λ d. byte-set e (sym here ∙ d)) ∙ ap (λ b. eqb (settle b) 1) here),
        has-if state o.2 (λ j n. let q = set_other a v e state j o.1 n in h j (λ d. n (sym q ∙ d)) ∙ ap (λ b. eqb (settle b) 1) q),
      )

pub settled-has : (v : ℕ) (state : State) → WasOpen v state → Has (assignment (map settle (values_of v state))) state
unfolding assignment
settled-has v state o = has-if v _ state o (λ j n. ap (λ b. eqb b 1) (get_or-map settle (values_of v state) j 2))

-- an assignment at a state: it was found there or is behind, or it waits
module _ (clauses : List (List ℤ)) (v : ℕ) (a : List ℕ) where
  abbrev pub Past : State → Type 0
  Past state = Behind v (assignment a) state ⊎ (Has (assignment a) state × (next clauses v state ≡ end_found))

  abbrev pub Waiting : State → Type 0
  Waiting state = Follows (assignment a) state × (Has (assignment a) state → next clauses v state ≡ end_found → ⊥)

  -- a step, also that of a clash, leaves behind what is past
  pub past-on : (state : State) (kind : Kind) (s : State) → Sound v state → Past state
      → first_step clauses v state ≡ step kind s
      → Behind v (assignment a) s
  past-on state kind s h p e = by p (first-cases clauses v state kind s e)
    where
      not-both : next clauses v state ≡ end_found → next clauses v state ≡ step kind s → ⊥
      not-both d e = let z : ◌≡◌ {A = ℕ} 0 1 = cc in omega arith

      by : Past state → (next clauses v state ≡ step kind s) ⊎ ((next clauses v state ≡ end_found) × (turn state ≡ step kind s))
          → Behind v (assignment a) s
      by (inl b) (inl d) = behind-step v (assignment a) clauses state kind s b h.lowest (next clauses v state) (view clauses v state) d
      by (inl b) (inr d) = behind-turn v (assignment a) kind s b h.lowest d.1
      by (inr g) (inl d) = absurd (not-both g.1 d)
      by (inr g) (inr d) = has-turn v (assignment a) state kind s g.0 h.lowest d.1

  -- at a fresh start all wait
  pub waiting-fresh : 1 ≤ v → Waiting []
  unfolding Follows
  waiting-fresh h = (
    tt,
    λ g e. (found-ended clauses v [] e).1 0 (omega (arith, length-values v []))
        (unfold values_of in get_or-replicate v 0 2 2 (omega arith)),
  )

  module _ (sat : Satisfying v clauses a) where
    -- what is found after it comes later
    pub past-before : (s : State) → Sound v s → Behind v (assignment a) s → next clauses v s ≡ end_found
        → Before a (map settle (values_of v s))
    past-before s h b e = left-before clauses v s (found-ended clauses v s e).1 a sat
        (behind-parts v (assignment a) h.was_open b)

    -- a step is followed by one that waits
    pub follows_on : (state : State) (kind : Kind) (s : State) → Waiting state → first_step clauses v state ≡ step kind s
        → Follows (assignment a) s
    unfolding Keeps
    follows_on state kind s w e =
        ⊎_elim (λ d. follows-keeps clauses v (assignment a) (model_of a clauses sat.holds) state kind s w.0 d)
        (λ d. rw d.1 at (turn-keeps (assignment a) state w.0 (λ g. w.1 g d.0)))
        (first-cases clauses v state kind s e)

    -- it is found, or comes later and waits on
    pub found-or-waits : (s : State) → Sound v s → Follows (assignment a) s → next clauses v s ≡ end_found
        → (map settle (values_of v s) ≡ a) ⊎ (Before (map settle (values_of v s)) a × Waiting s)
    found-or-waits s h f e =
        let full = (found-ended clauses v s e).1 in
        ⊎_elim (λ g. inl (has_same clauses v s full a sat g))
        (λ l.
        let b = leaves_after clauses v s full a sat l in
        inr (b, (f, λ g d. before-irreflexive a (rw (has_same clauses v s full a sat g) at b))))
        (has-or-leaves (assignment a) v s h.was_open h.lowest f)

    -- and there is no "none" where it waits
    pub waits-not-none : (state : State) → Waiting state → first_step clauses v state ≡ end_none → ⊥
    unfolding Keeps
    waits-not-none state w e =
        ⊎_elim (λ d. follows-not-none clauses v (assignment a) (model_of a clauses sat.holds) state w.0 d)
        (λ d. rw d.1 at (turn-keeps (assignment a) state w.0 (λ g. w.1 g d.0))) (first-none clauses v state e)
