-- The state that is read from slices: they hold it, where they pass the conditions of 14.
use mathlib.Core.Path.{◌≡◌, refl, sym, ◌∙◌, ap, subst}
use mathlib.Core.Bool.{Bool, true, false, cond}
use mathlib.Core.Logic.{◌⊎◌, inl, inr, ⊎_elim}
use mathlib.Core.List.{List}
use Prim.Native.Nat.{ℕ, zero, suc, pred, ◌<◌, ◌≤◌}
use native.Mathlib.Omega.{arith}
use native.Mathlib.Decide.{ℕ_discrete}
use lib.Dec.{eqb, ltb}
use lib.IntN.{ℤ, pos, negsuc}
use lib.ListN.{length, get_or, set, get_or-replicate}
use lib.Seq.{get_or-set_same, get_or-set_other, ext_get_or}
use borrow.Author.Tests.{eqb-true, ltb-true, ltb-false}
use Rattle.prelude.proofs.Laws as laws
use Rattle.search_rules.specs.Rules.{propagated, decided, State, word_of, byte_of, place_of, values_of, trail_of}
use Rattle.search_rules.specs.Held.{InRange, goes_with, entry_of, state_in, WasOpen, Stored}
use Rattle.search_rules.proofs.Invariant.{length-values}
use Rattle.search_rules.proofs.Found.{place-below}
use Rattle.search_rules.proofs.Trails.{length-trail, past, below_suc}
use Rattle.search_rules.proofs.Conditions.{word_at, place_at, Off, Consistent}

-- the entry of a literal and a value that goes with it has both
word-entry : (l : ℤ) (b : ℕ) → word_of (entry_of l b) ≡ l
unfolding word_of entry_of
word-entry (pos n) b = refl
word-entry (negsuc i) b = by (eqb b 3)
  where
    by : (t : Bool) → word_of (cond t (decided i) (propagated (negsuc i))) ≡ negsuc i
    by true = refl
    by false = refl

-- what goes with a negative literal
false-values : (n b : ℕ) → goes_with (negsuc n) b ≡ true → (b ≡ 0) ⊎ (b ≡ 3)
unfolding goes_with
false-values n b h = ⊎_elim (λ e. inl (eqb-true b 0 e)) (λ e. inr (eqb-true b 3 e)) (laws.or_cases (eqb b 0) (eqb b 3) h)

true-value : (n b : ℕ) → goes_with (pos n) b ≡ true → b ≡ 1
unfolding goes_with
true-value n b h = eqb-true b 1 h

byte-entry : (l : ℤ) (b : ℕ) → goes_with l b ≡ true → byte_of (entry_of l b) ≡ b
unfolding byte_of entry_of
byte-entry (pos n) b h = sym (true-value n b h)
byte-entry (negsuc i) b h = ⊎_elim (λ e. rw e refl) (λ e. rw e refl) (false-values i b h)

-- literals of one variable that go with its value are equal
same_word : (v : ℕ) (k l : ℤ) (b : ℕ) → InRange v k → InRange v l → place_of k ≡ place_of l → goes_with k b ≡ true → goes_with l b ≡ true → k ≡ l
unfolding place_of
same_word v (pos n) (pos m) b r s e p q = let d : pred n ≡ pred m = e in ap pos (omega arith)
same_word v (pos n) (negsuc m) b r s e p q =
    let d = true-value n b p in absurd (⊎_elim (λ f. omega arith) (λ f. omega arith) (false-values m b q))
same_word v (negsuc n) (pos m) b r s e p q =
    let d = true-value m b q in absurd (⊎_elim (λ f. omega arith) (λ f. omega arith) (false-values n b p))
same_word v (negsuc n) (negsuc m) b r s e p q = ap negsuc e

-- a place below suc n is n or one below
length-state : (values : List ℕ) (trail : List ℤ) (n : ℕ) → length (state_in values trail n) ≡ n
unfolding state_in
length-state values trail zero = refl
length-state values trail (suc n) = ap suc (length-state values trail n)

module _ (v : ℕ) (values : List ℕ) (trail : List ℤ) (n : ℕ) (c : Consistent v values trail n) where
  below : (i : ℕ) → i < n → place_at trail i < v
  below i h = place-below v (word_at trail i) (c.range i h)

  apart : (i j : ℕ) → i < j → j < n → place_at trail i ≡ place_at trail j → ⊥
  apart i j a b e =
      c.distinct i j a b
      (same_word v (word_at trail i) (word_at trail j) (get_or values (place_at trail i) 2) (c.range i (omega arith)) (c.range j b) e
      (c.agrees i (omega arith)) (subst (λ p. goes_with (word_at trail j) (get_or values p 2) ≡ true) (sym e) (c.agrees j b)))

  -- the value of the k-th word's variable, and the values of the first k entries
  abbrev byte_at : ℕ → ℕ
  byte_at k = get_or values (place_at trail k) 2

  abbrev first : ℕ → List ℕ
  first k = values_of v (state_in values trail k)

  first-suc : (k : ℕ) → k < n → first (suc k) ≡ set (first k) (place_at trail k) (byte_at k)
  unfolding state_in values_of
  first-suc k h = rw (word-entry (word_at trail k) (byte_at k), byte-entry (word_at trail k) (byte_at k) (c.agrees k h)) refl

  inside : (k i : ℕ) → i < n → place_at trail i < length (first k)
  inside k i h = rw (length-values v (state_in values trail k)) (below i h)

  -- a variable of the first k words has its value
  set_there : (k i : ℕ) → k ≤ n → i < k → get_or (first k) (place_at trail i) 2 ≡ byte_at i
  set_there zero i a b = absurd (omega arith)
  set_there (suc k) i a b =
      rw (first-suc k a)
      (⊎_elim
      (λ e. rw e (get_or-set_same (first k) (place_at trail k) (byte_at k) 2 (inside k k a)))
      (λ l. get_or-set_other (first k) (place_at trail k) (place_at trail i) (byte_at k) 2 (apart i k l a) ∙ set_there k i (omega arith) l)
      (below_suc b))

  -- another is open
  open-there : (k j : ℕ) → k ≤ n → j < v → Off trail k j → get_or (first k) j 2 ≡ 2
  unfolding state_in values_of
  open-there zero j a b off = get_or-replicate v j 2 2 b
  open-there (suc k) j a b off =
      rw (first-suc k a)
      (get_or-set_other (first k) (place_at trail k) j (byte_at k) 2 (λ d. off k (omega arith) (sym d))
      ∙ open-there k j (omega arith) b (λ i l. off i (omega arith)))

  -- and so was each when it was set
  each-open : (k : ℕ) → k ≤ n → WasOpen v (state_in values trail k)
  unfolding state_in WasOpen
  each-open zero a = tt
  each-open (suc k) a =
      rw (word-entry (word_at trail k) (byte_at k)) (
        c.range k a,
        open-there k (place_at trail k) (omega arith) (below k a) (λ i l. apart i k l a),
        each-open k (omega arith),
      )

  -- the place of a variable on the trail, or that it has none
  on-or-off : (k j : ℕ) → ((i : ℕ) × (i < k) × (place_at trail i ≡ j)) ⊎ Off trail k j
  on-or-off zero j = inr (λ i h. absurd (omega arith))
  on-or-off (suc k) j = by (ℕ_discrete (place_at trail k) j) (on-or-off k j)
    where
      by : Dec (place_at trail k ≡ j) → ((i : ℕ) × (i < k) × (place_at trail i ≡ j)) ⊎ Off trail k j
          → ((i : ℕ) × (i < suc k) × (place_at trail i ≡ j)) ⊎ Off trail (suc k) j
      by (yes e) r = inl (k, omega arith, e)
      by (no e) (inl r) = inl (r.0, (let q = r.1 in omega arith), r.2)
      by (no e) (inr r) = inr (λ i h d. ⊎_elim (λ q. e (ap (place_at trail) (sym q) ∙ d)) (λ l. r i l d) (below_suc h))

  values_same : (j : ℕ) → j < v → get_or values j 2 ≡ get_or (first n) j 2
  values_same j h =
      ⊎_elim
      (λ r. subst (λ p. get_or values p 2 ≡ get_or (first n) p 2) r.2 (sym (set_there n r.0 (omega arith) r.1)))
      (λ off. c.rest_open j h off ∙ sym (open-there n j (omega arith) h off))
      (on-or-off n j)

  -- the first k words are those of the first k entries; past the n-th there are 0s
  trail-there : (k i : ℕ) → k ≤ n → i < k → word_at (trail_of v (state_in values trail k)) i ≡ word_at trail i
  unfolding state_in trail_of
  trail-there zero i a b = absurd (omega arith)
  trail-there (suc k) i a b =
      let t : List ℤ = trail_of v (state_in values trail k) in
      let s : k < length t = let q = c.short in omega (arith, length-trail v (state_in values trail k)) in
      rw (length-state values trail k, word-entry (word_at trail k) (byte_at k))
      (⊎_elim
      (λ e. rw e (get_or-set_same t k (word_at trail k) (pos 0) s))
      (λ l. get_or-set_other t k i (word_at trail k) (pos 0) (λ d. omega arith) ∙ trail-there k i (omega arith) l)
      (below_suc b))

  trail-past : (i : ℕ) → n ≤ i → i < v → word_at trail i ≡ word_at (trail_of v (state_in values trail n)) i
  trail-past i l h = c.rest_zero i l h
      ∙ sym (past v (state_in values trail n) i (omega (arith, length-state values trail n)))

  trail-same : (i : ℕ) → i < v → word_at trail i ≡ word_at (trail_of v (state_in values trail n)) i
  trail-same i h =
      ⊎_elim
      (λ e. sym (trail-there n i (omega arith) (ltb-true i n e)))
      (λ e. trail-past i (ltb-false i n e) h)
      (laws.decided (ltb i n))

  -- slices that pass hold the state that is read from them
  pub read_held : length values ≡ v → length trail ≡ v → Stored v (state_in values trail n) values trail n
  read_held p q =
      let s : State = state_in values trail n in
      record {
        values_are = ext_get_or 2 values (first n) (p ∙ sym (length-values v s)) (λ j h. values_same j (omega arith));
        trail_is = ext_get_or (pos 0) trail (trail_of v s) (q ∙ sym (length-trail v s)) (λ i h. trail-same i (omega arith));
        used_is = sym (length-state values trail n);
        was_open = each-open n (omega arith);
      }
