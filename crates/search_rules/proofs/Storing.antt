-- A state in its own slices passes the conditions of 14, and is read from them again.
use mathlib.Core.Path.{◌≡◌, refl, sym, ◌∙◌, ap}
use mathlib.Core.Bool.{true}
use mathlib.Core.Logic.{⊎_elim}
use mathlib.Core.List.{List, [], ◌∷◌}
use Prim.Native.Nat.{ℕ, suc, ◌<◌}
use native.Mathlib.Omega.{arith}
use lib.IntN.{ℤ, pos, negsuc}
use lib.ListN.{length, get_or, get_or-replicate}
use lib.Seq.{get_or-set_same, get_or-set_other}
use Rattle.search_rules.specs.Rules.{Entry, propagated, decided, State, word_of, byte_of, place_of, values_of, trail_of}
use Rattle.search_rules.specs.Held.{InRange, goes_with, entry_of, state_in, WasOpen}
use Rattle.search_rules.proofs.Invariant.{length-values}
use Rattle.search_rules.proofs.Found.{place-below}
use Rattle.search_rules.proofs.Trails.{room, length-trail, below_suc}
use Rattle.search_rules.proofs.Conditions.{word_at, place_at, Off, Distinct, Consistent}

-- the value of an entry goes with its literal, is not open, and gives the entry
byte-goes : (e : Entry) → goes_with (word_of e) (byte_of e) ≡ true
unfolding goes_with word_of byte_of
byte-goes (propagated (pos n)) = refl
byte-goes (propagated (negsuc n)) = refl
byte-goes (decided i) = refl

goes_set : (l : ℤ) (b : ℕ) → goes_with l b ≡ true → b ≡ 2 → ⊥
unfolding goes_with
goes_set (pos n) b h e = let z : ◌≡◌ {A = ℕ} 0 1 = cc (rw e at h) in omega arith
goes_set (negsuc n) b h e = let z : ◌≡◌ {A = ℕ} 0 1 = cc (rw e at h) in omega arith

entry-again : (e : Entry) → entry_of (word_of e) (byte_of e) ≡ e
unfolding entry_of word_of byte_of
entry-again (propagated (pos n)) = refl
entry-again (propagated (negsuc n)) = refl
entry-again (decided i) = refl

-- an entry is put on a state whose slices pass
module _ (v : ℕ) (e : Entry) (state : State) (was_open : WasOpen v (e ∷ state))
    (c : Consistent v (values_of v state) (trail_of v state) (length state)) where
  abbrev old-values : List ℕ
  old-values = values_of v state

  abbrev new-values : List ℕ
  new-values = values_of v (e ∷ state)

  abbrev old-trail : List ℤ
  old-trail = trail_of v state

  abbrev new-trail : List ℤ
  new-trail = trail_of v (e ∷ state)

  abbrev place : ℕ
  place = place_of (word_of e)

  range-new : InRange v (word_of e)
  unfolding WasOpen
  range-new = was_open.0

  open-before : get_or old-values place 2 ≡ 2
  unfolding WasOpen
  open-before = was_open.1

  place_in : place < v
  place_in = place-below v (word_of e) range-new

  lower : length state < v
  unfolding WasOpen
  lower = room v state place was_open.2 place_in open-before

  word-new : word_at new-trail (length state) ≡ word_of e
  unfolding trail_of
  word-new = get_or-set_same old-trail (length state) (word_of e) (pos 0) (omega (arith, length-trail v state, lower))

  word-old : (i : ℕ) → (i ≡ length state → ⊥) → word_at new-trail i ≡ word_at old-trail i
  unfolding trail_of
  word-old i d = get_or-set_other old-trail (length state) i (word_of e) (pos 0) d

  word_below : (i : ℕ) → i < length state → word_at new-trail i ≡ word_at old-trail i
  word_below i l = word-old i (λ d. omega arith)

  word-top : (i : ℕ) → i ≡ length state → word_at new-trail i ≡ word_of e
  word-top i d = ap (word_at new-trail) d ∙ word-new

  value-new : get_or new-values place 2 ≡ byte_of e
  unfolding values_of
  value-new = get_or-set_same old-values place (byte_of e) 2 (omega (arith, length-values v state, place_in))

  value-old : (j : ℕ) → (j ≡ place → ⊥) → get_or new-values j 2 ≡ get_or old-values j 2
  unfolding values_of
  value-old j d = get_or-set_other old-values place j (byte_of e) 2 d

  other_place : (i : ℕ) → i < length state → place_at old-trail i ≡ place → ⊥
  other_place i l d = goes_set (word_at old-trail i) _ (c.agrees i l) (ap (λ p. get_or old-values p 2) d ∙ open-before)

  range-put : (i : ℕ) → i < suc (length state) → InRange v (word_at new-trail i)
  range-put i h = ⊎_elim (λ d. rw (word-top i d) range-new) (λ l. rw (word_below i l) (c.range i l)) (below_suc h)

  distinct-put : Distinct new-trail (suc (length state))
  distinct-put i j a b d =
      ⊎_elim
      (λ t. other_place i (omega arith) (ap place_of (sym (word_below i (omega arith)) ∙ d ∙ word-top j t)))
      (λ l. c.distinct i j a l (sym (word_below i (omega arith)) ∙ d ∙ word_below j l))
      (below_suc b)

  agrees-put : (i : ℕ) → i < suc (length state) → goes_with (word_at new-trail i) (get_or new-values (place_at new-trail i) 2) ≡ true
  agrees-put i h =
      ⊎_elim
      (λ d. rw (word-top i d, value-new) (byte-goes e))
      (λ l. rw (word_below i l, value-old (place_at old-trail i) (other_place i l)) (c.agrees i l))
      (below_suc h)

  open-put : (j : ℕ) → j < v → Off new-trail (suc (length state)) j → get_or new-values j 2 ≡ 2
  open-put j h off =
      value-old j (λ d. off (length state) (omega arith) (ap place_of word-new ∙ sym d))
      ∙ c.rest_open j h (λ i l d. off i (omega arith) (ap place_of (word_below i l) ∙ d))

  consistent-put : Consistent v new-values new-trail (suc (length state))
  consistent-put = record {
    short = lower;
    range = range-put;
    distinct = distinct-put;
    agrees = agrees-put;
    rest_open = open-put;
    rest_zero = λ i a b. word-old i (λ d. omega arith) ∙ c.rest_zero i (omega arith) b;
  }

consistent-none : (v : ℕ) → Consistent v (values_of v []) (trail_of v []) 0
unfolding values_of trail_of
consistent-none v = record {
  short = omega arith;
  range = λ i h. absurd (omega arith);
  distinct = λ i j a b d. omega arith;
  agrees = λ i h. absurd (omega arith);
  rest_open = λ j h off. get_or-replicate v j 2 2 h;
  rest_zero = λ i a b. get_or-replicate v i (pos 0) (pos 0) b;
}

pub consistent-own : (v : ℕ) (state : State) → WasOpen v state → Consistent v (values_of v state) (trail_of v state) (length state)
unfolding WasOpen
consistent-own v [] o = consistent-none v
consistent-own v (e ∷ state) o = consistent-put v e state o (consistent-own v state o.2)

-- slices that show each entry of a state: its word and its value
unfoldable Shows : List ℕ → List ℤ → State → Type 0
Shows values trail [] = Unit {0}
Shows values trail (e ∷ state) =
    (word_at trail (length state) ≡ word_of e) × (get_or values (place_of (word_of e)) 2 ≡ byte_of e) × Shows values trail state

read-shown : (values : List ℕ) (trail : List ℤ) (state : State) → Shows values trail state → state_in values trail (length state) ≡ state
unfolding state_in Shows
read-shown values trail [] h = refl
read-shown values trail (e ∷ state) h = rw (h.0, h.1, entry-again e, read-shown values trail state h.2) refl

byte-set : (e : Entry) → byte_of e ≡ 2 → ⊥
byte-set e h = goes_set (word_of e) (byte_of e) (byte-goes e) h

-- slices that have the same words, and the same values but for open variables
shows-still : (values new-values : List ℕ) (trail new-trail : List ℤ) (state : State)
    → ((i : ℕ) → i < length state → word_at new-trail i ≡ word_at trail i)
    → ((j : ℕ) → (get_or values j 2 ≡ 2 → ⊥) → get_or new-values j 2 ≡ get_or values j 2) → Shows values trail state → Shows new-values new-trail state
unfolding Shows
shows-still values new-values trail new-trail [] f g h = tt
shows-still values new-values trail new-trail (e ∷ state) f g h = (
  f (length state) (omega arith) ∙ h.0,
  g (place_of (word_of e)) (λ d. byte-set e (sym h.1 ∙ d)) ∙ h.1,
  shows-still values new-values trail new-trail state (λ i l. f i (omega arith)) g h.2,
)

shows-own : (v : ℕ) (state : State) → WasOpen v state → Shows (values_of v state) (trail_of v state) state
unfolding Shows WasOpen
shows-own v [] o = tt
shows-own v (e ∷ state) o =
    let c = consistent-own v state o.2 in (
      word-new v e state o c,
      value-new v e state o c,
      shows-still _ _ _ _ state (word_below v e state o c)
          (λ j d. value-old v e state o c j (λ q. d (ap (λ p. get_or (values_of v state) p 2) q ∙ o.1))) (shows-own v state o.2),
    )

pub read-own : (v : ℕ) (state : State) → WasOpen v state → state_in (values_of v state) (trail_of v state) (length state) ≡ state
read-own v state o = read-shown (values_of v state) (trail_of v state) state (shows-own v state o)
