-- The slices of a state: the top of the trail, taken off, turned, and put on.
use mathlib.Core.Path.{◌≡◌, refl, sym, ◌∙◌, ap}
use mathlib.Core.List.{List, [], ◌∷◌, ◌++◌}
use Prim.Native.Nat.{ℕ, zero, suc, ◌+◌, ◌-◌, ◌<◌, ◌≤◌}
use native.Mathlib.Omega.{arith}
use native.Mathlib.Numerals.{add-one}
use lib.IntN.{ℤ, pos, negsuc, neg_ℤ}
use lib.ListN.{length, get_or, take, set, replicate}
use lib.Seq.{get_or-set_same, set-set, set-get_or, take-suc-set, take_all}
use Rattle.literal.specs.Words.{last_variable, opposite_word, positive_word}
use Rattle.literal.proofs.Words.{opposite-is, positive-is}
use Rattle.search_rules.specs.Held.{InRange, WasOpen, Stored}
use Rattle.search_core.specs.Inner.{Turned}
use Rattle.search_rules.specs.Rules.{Entry, propagated, decided, State, word_of, byte_of, place_of, values_of, trail_of}
use Rattle.search_rules.specs.Rules.{step, backtrack, turn}
use Rattle.search_rules.proofs.Found.{place-below}
use Rattle.search_rules.proofs.Invariant.{length-values}
use Rattle.search_rules.proofs.Trails.{room, length-trail, past}

-- the lengths of slices that hold a state
module _ (v : ℕ) (state : State) (values : List ℕ) (trail : List ℤ) (n : ℕ) (s : Stored v state values trail n) where
  pub size-values : length values ≡ v
  size-values = ap length s.values_are ∙ length-values v state

  pub size-trail : length trail ≡ v
  size-trail = ap length s.trail_is ∙ length-trail v state

-- the top of the trail
pub record Top (v : ℕ) (state : State) (values : List ℕ) (trail : List ℤ) (n : ℕ) : Type 0 where
  pub e : Entry
  pub rest : State
  pub is_cons : state ≡ e ∷ rest
  pub was_open : WasOpen v (e ∷ rest)
  pub values_are : values ≡ values_of v (e ∷ rest)
  pub trail_is : trail ≡ trail_of v (e ∷ rest)
  pub index : n - 1 ≡ length rest
  pub long : n ≡ suc (length rest)
  pub below : n - 1 < v
  pub the_word : get_or trail (n - 1) (pos 0) ≡ word_of e
  pub range : InRange v (word_of e)
  pub here : place_of (word_of e) < v
  pub the_byte : get_or values (place_of (word_of e)) 0 ≡ byte_of e

pub top_of : (v : ℕ) (state : State) (values : List ℕ) (trail : List ℤ) (n : ℕ) → Stored v state values trail n → 0 < n
    → Top v state values trail n
unfolding WasOpen values_of trail_of
top_of v [] values trail n s h = absurd (let w : n ≡ 0 = s.used_is in omega arith)
top_of v (e ∷ state) values trail n s h =
    let w : n ≡ suc (length state) = s.used_is in
    let p : place_of (word_of e) < v = place-below v (word_of e) s.was_open.0 in
    let b : length state < v = room v state (place_of (word_of e)) s.was_open.2 p s.was_open.1 in
    let m : n - 1 ≡ length state = omega arith in
    record {
      e = e;
      rest = state;
      is_cons = refl;
      was_open = s.was_open;
      values_are = s.values_are;
      trail_is = s.trail_is;
      index = m;
      long = w;
      below = omega arith;
      the_word = rw (s.trail_is, m) (get_or-set_same (trail_of v state) (length state) (word_of e) (pos 0) (omega (arith, length-trail v state)));
      range = s.was_open.0;
      here = p;
      the_byte = rw s.values_are (get_or-set_same (values_of v state) (place_of (word_of e)) (byte_of e) 0 (omega (arith, length-values v state)));
    }

-- an entry is put on top
pub put-top : (v : ℕ) (state : State) (values : List ℕ) (trail : List ℤ) (e : Entry) (i b : ℕ) (w : ℤ) (m : ℕ) → m ≡ suc (length state)
    → values ≡ set (values_of v state) i b → trail ≡ set (trail_of v state) (length state) w → place_of (word_of e) ≡ i → byte_of e ≡ b → word_of e ≡ w
    → InRange v w → get_or (values_of v state) i 2 ≡ 2 → WasOpen v state → Stored v (e ∷ state) values trail m
unfolding values_of trail_of WasOpen
put-top v state values trail e i b w m j p q f g h r o k = record {
  values_are = rw (f, g) p;
  trail_is = rw h q;
  used_is = j;
  was_open = (rw h r, rw f o, k);
}

three : (e : Entry) → byte_of e ≡ 3 → e ≡ decided (place_of (word_of e))
unfolding byte_of word_of place_of
three (propagated (pos n)) h = absurd (omega arith)
three (propagated (negsuc n)) h = absurd (omega arith)
three (decided i) h = refl

decided-word : (e : Entry) → e ≡ decided (place_of (word_of e)) → word_of e ≡ negsuc (place_of (word_of e))
unfolding word_of place_of
decided-word e h = ap word_of h ∙ refl

turn-decided : (i : ℕ) (state : State) → turn (decided i ∷ state) ≡ step backtrack (propagated (pos (suc i)) ∷ state)
unfolding turn
turn-decided i state = refl

turn-other : (e : Entry) (state : State) → (byte_of e ≡ 3 → ⊥) → turn (e ∷ state) ≡ turn state
unfolding turn byte_of
turn-other (propagated l) state h = refl
turn-other (decided i) state h = absurd (h refl)

-- the entry of a turned decision
turned-entry : (i : ℕ) → (word_of (propagated (pos (suc i))) ≡ pos (suc i)) × (place_of (word_of (propagated (pos (suc i)))) ≡ i) ×
    (byte_of (propagated (pos (suc i))) ≡ 1)
unfolding word_of place_of byte_of
turned-entry i = (refl, refl, refl)

module _ (v : ℕ) (state : State) (values : List ℕ) (trail : List ℤ) (n : ℕ) (t : Top v state values trail n) where
  was-open-here : get_or (values_of v t.rest) (place_of (word_of t.e)) 2 ≡ 2
  unfolding WasOpen
  was-open-here = t.was_open.1

  rest_open : WasOpen v t.rest
  unfolding WasOpen
  rest_open = t.was_open.2

  values-over : (b : ℕ) → set values (place_of (word_of t.e)) b ≡ set (values_of v t.rest) (place_of (word_of t.e)) b
  unfolding values_of
  values-over b = rw t.values_are (set-set (values_of v t.rest) _ _ b)

  trail-over : (w : ℤ) → set trail (n - 1) w ≡ set (trail_of v t.rest) (length t.rest) w
  unfolding trail_of
  trail-over w = rw (t.trail_is, t.index) (set-set (trail_of v t.rest) _ _ w)

  -- the top is taken off
  pub off-top : Stored v t.rest (set values (place_of (word_of t.e)) 2) (set trail (n - 1) (pos 0)) (n - 1)
  off-top =
      let q : get_or (trail_of v t.rest) (length t.rest) (pos 0) ≡ pos 0 =
      past v t.rest (length t.rest) (omega arith) in
      record {
        values_are = values-over 2 ∙ ap (set (values_of v t.rest) (place_of (word_of t.e))) (sym was-open-here)
            ∙ set-get_or (values_of v t.rest) _ 2;
        trail_is = trail-over (pos 0) ∙ ap (set (trail_of v t.rest) (length t.rest)) (sym q) ∙ set-get_or (trail_of v t.rest) _ (pos 0);
        used_is = t.index;
        was_open = rest_open;
      }

  -- the top is a decision, and is turned
  pub turn-top : (w : ℤ) → byte_of t.e ≡ 3 → w ≡ pos (suc (place_of (word_of t.e)))
      → Turned v (turn state) n (set values (place_of (word_of t.e)) 1) (set trail (n - 1) w)
  turn-top w b d =
      let i : ℕ = place_of (word_of t.e) in
      let f = turned-entry i in
      let g : turn state ≡ step backtrack (propagated (pos (suc i)) ∷ t.rest) =
      ap turn t.is_cons ∙ ap (λ e. turn (e ∷ t.rest)) (three t.e b) ∙ turn-decided i t.rest in
      let r : Stored v (propagated (pos (suc i)) ∷ t.rest) (set values i 1) (set trail (n - 1) w) n =
      put-top v t.rest _ _ (propagated (pos (suc i))) i 1 w n t.long (values-over 1) (trail-over w) f.1 f.2 (f.0 ∙ sym d)
      (rw d (omega arith, t.here)) was-open-here rest_open in
      rw g (r, let l = t.long in omega arith)

  pub turn_on : (byte_of t.e ≡ 3 → ⊥) → turn t.rest ≡ turn state
  turn_on h = sym (ap turn t.is_cons ∙ turn-other t.e t.rest h)

-- what the loop of `back` keeps of the state that it began with
pub record Went (v : ℕ) (state : State) (values : List ℕ) (trail : List ℤ) (n : ℕ) : Type 0 where
  pub now_at : State
  pub stored : Stored v now_at values trail n
  pub alike : turn now_at ≡ turn state

turn-nil : (v : ℕ) (values : List ℕ) (trail : List ℤ) → Stored v [] values trail 0 → Turned v (turn []) 0 values trail
unfolding turn
turn-nil v values trail s = s

pub went-none : (v : ℕ) (state : State) (values : List ℕ) (trail : List ℤ) (n : ℕ) → Went v state values trail n → n ≤ 0
    → Turned v (turn state) 0 values trail
went-none v state values trail n w h = by w.now_at w.stored w.alike
  where
    by : (s : State) → Stored v s values trail n → turn s ≡ turn state → Turned v (turn state) 0 values trail
    by [] i e =
        let s : Stored v [] values trail 0 =
        record { values_are = i.values_are; trail_is = i.trail_is; used_is = refl; was_open = i.was_open } in
        rw (← e) (turn-nil v values trail s)
    by (x ∷ s) i e = absurd (let l : n ≡ suc (length s) = i.used_is in omega arith)

-- the opposite of a decision's word
pub turned-word : (v : ℕ) (e : Entry) → v ≤ last_variable → InRange v (word_of e) → byte_of e ≡ 3
    → opposite_word (word_of e) ≡ pos (suc (place_of (word_of e)))
turned-word v e k r b =
    let h = r.1 in
    opposite-is (word_of e) (omega arith) ∙ ap neg_ℤ (decided-word e (three e b))

-- the word of a decision
pub denial : (i : ℕ) → i < last_variable → opposite_word (positive_word (i + 1)) ≡ negsuc i
denial i h = ap opposite_word (positive-is (i + 1) (omega arith)) ∙ ap (λ n. neg_ℤ (pos n)) (add-one i)

-- a slice filled with one element
module _ {A : Type 0} (a : A) where
  rep-snoc : (i : ℕ) → replicate i a ++ (a ∷ []) ≡ replicate (suc i) a
  rep-snoc zero = refl
  rep-snoc (suc i) = ap (λ l. a ∷ l) (rep-snoc i)

  pub filled_more : (l : List A) (i : ℕ) → i < length l → take i l ≡ replicate i a → take (i + 1) (set l i a) ≡ replicate (i + 1) a
  filled_more l i h e = rw (add-one i) (take-suc-set l i a h ∙ ap (λ x. x ++ (a ∷ [])) e ∙ rep-snoc i)

  pub filled-all : (l : List A) (i n : ℕ) → i ≤ n → length l ≡ n → length l ≤ i → take i l ≡ replicate i a → l ≡ replicate n a
  filled-all l i n p q h e =
      let d : i ≡ n = omega arith in
      sym (take_all i l h) ∙ e ∙ ap (λ x. replicate x a) d

pub fresh : (v : ℕ) (values : List ℕ) (trail : List ℤ) → values ≡ replicate v 2 → trail ≡ replicate v (pos 0) → Stored v [] values trail 0
unfolding values_of trail_of WasOpen
fresh v values trail p q = record { values_are = p; trail_is = q; used_is = refl; was_open = tt }
