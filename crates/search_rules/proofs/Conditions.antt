-- The conditions of 14 as facts of the places: what passes them, and what they let through.
use mathlib.Core.Path.{◌≡◌, refl, sym, ◌∙◌, ap, subst}
use mathlib.Core.Bool.{Bool, true, false, not, ◌||◌}
use mathlib.Core.Logic.{⊎_elim}
use mathlib.Core.List.{List, [], ◌∷◌}
use Prim.Native.Nat.{ℕ, zero, suc, ◌+◌, ◌-◌, ◌<◌, ◌≤◌}
use native.Mathlib.Omega.{arith}
use lib.Dec.{eqb}
use lib.IntN.{ℤ, pos, negsuc}
use lib.ListN.{length, get_or, take, drop, length-drop}
use lib.Seq.{length-take-le, get_or-take, get_or-drop}
use borrow.Author.Tests.{ltb-false, le-ltb, eqb-true, eq-eqb, ne_eqb, eqb-false, not-false}
use Rattle.prelude.specs.Tests.{any}
use Rattle.prelude.proofs.Laws.{clash, decided, or_left, or_right, or_cases, each_at, each_of}
use Rattle.literal.specs.Literals.{is_literal}
use Rattle.literal.proofs.Words.{literal-low, literal-high, is-literal}
use Rattle.search_rules.specs.Rules.{same_literal, place_of}
use Rattle.search_rules.specs.Held.{InRange, too_long, strays, repeats, goes_with, contradicts, on_trail, set_outside, filled_outside, no_state}
use Rattle.search_rules.proofs.Booleans.{or-false, or-both-false, bool_false, none-at, none_of}

-- the word at a place of a trail; past the end, 0
abbrev pub word_at : List ℤ → ℕ → ℤ
word_at trail i = get_or trail i (pos 0)

-- the place of its variable
abbrev pub place_at : List ℤ → ℕ → ℕ
place_at trail i = place_of (word_at trail i)

-- the variable at place j is none of the first n words'
abbrev pub Off : List ℤ → ℕ → ℕ → Type 0
Off trail n j = (i : ℕ) → i < n → place_at trail i ≡ j → ⊥

-- no two of the first n words are equal
abbrev pub Distinct : List ℤ → ℕ → Type 0
Distinct trail n = (i j : ℕ) → i < j → j < n → word_at trail i ≡ word_at trail j → ⊥

-- slices and a length to which 14 does not apply, but for the steps
pub record Consistent (v : ℕ) (values : List ℕ) (trail : List ℤ) (n : ℕ) : Type 0 where
  pub short : n ≤ v
  pub range : (i : ℕ) → i < n → InRange v (word_at trail i)
  pub distinct : Distinct trail n
  pub agrees : (i : ℕ) → i < n → goes_with (word_at trail i) (get_or values (place_at trail i) 2) ≡ true
  pub rest_open : (j : ℕ) → j < v → Off trail n j → get_or values j 2 ≡ 2
  pub rest_zero : (i : ℕ) → n ≤ i → i < v → word_at trail i ≡ pos 0

-- literals are the same where they are equal
same-equal : (k l : ℤ) → same_literal k l ≡ true → k ≡ l
unfolding same_literal
same-equal (pos m) (pos n) e = ap pos (eqb-true m n e)
same-equal (pos m) (negsuc n) e = cc
same-equal (negsuc m) (pos n) e = cc
same-equal (negsuc m) (negsuc n) e = ap negsuc (eqb-true m n e)

equal-same : (k : ℤ) → same_literal k k ≡ true
unfolding same_literal
equal-same (pos n) = eq-eqb n n refl
equal-same (negsuc n) = eq-eqb n n refl

-- "repeated"
repeats-distinct : (ls : List ℤ) → repeats ls ≡ false → Distinct ls (length ls)
unfolding repeats
repeats-distinct [] r i j a b e = omega arith
repeats-distinct (l ∷ ls) r i zero a b e = omega arith
repeats-distinct (l ∷ ls) r zero (suc j) a b e =
    clash (same_literal l (word_at ls j)) (subst (λ k. same_literal l k ≡ true) e (equal-same l))
    (none-at (same_literal l) ls (or-false (any (same_literal l) ls) _ r).0 j (pos 0) (omega arith))
repeats-distinct (l ∷ ls) r (suc i) (suc j) a b e =
    repeats-distinct ls (or-false (any (same_literal l) ls) _ r).1 i j (omega arith) (omega arith) e

distinct-repeats : (ls : List ℤ) → Distinct ls (length ls) → repeats ls ≡ false
unfolding repeats
distinct-repeats [] h = refl
distinct-repeats (l ∷ ls) h =
    or-both-false _ _
    (none_of (same_literal l) ls (pos 0) (λ j b. bool_false _ (λ e. h 0 (suc j) (omega arith) (omega arith) (same-equal l _ e))))
    (distinct-repeats ls (λ i j a b e. h (suc i) (suc j) (omega arith) (omega arith) e))

module _ (v : ℕ) (values : List ℕ) (trail : List ℤ) (n : ℕ) (size : length trail ≡ v) where
  -- the first n words
  long : n ≤ v → length (take n trail) ≡ n
  long h = length-take-le n trail (omega arith)

  word_of : (i : ℕ) → i < n → word_at (take n trail) i ≡ word_at trail i
  word_of i h = get_or-take n trail i (pos 0) h

  -- what holds of none of the first n words; and the other way round
  none-used : (p : ℤ → Bool) → n ≤ v → any p (take n trail) ≡ false → (i : ℕ) → i < n → p (word_at trail i) ≡ false
  none-used p s e i h =
      subst (λ l. p l ≡ false) (word_of i h) (none-at p (take n trail) e i (pos 0) (omega (arith, long s)))

  used-none : (p : ℤ → Bool) → n ≤ v → ((i : ℕ) → i < n → p (word_at trail i) ≡ false) → any p (take n trail) ≡ false
  used-none p s h =
      none_of p (take n trail) (pos 0)
      (λ i b. let l : i < n = omega (arith, long s) in subst (λ l. p l ≡ false) (sym (word_of i l)) (h i l))

  -- "out of range"
  in-range : n ≤ v → strays v (take n trail) ≡ false → (i : ℕ) → i < n → InRange v (word_at trail i)
  in-range s e i h =
      let l : is_literal v (word_at trail i) ≡ true = not-false _ (none-used (λ l. not (is_literal v l)) s e i h) in
      (literal-low v (word_at trail i) l, literal-high v (word_at trail i) l)

  not-strays : n ≤ v → ((i : ℕ) → i < n → InRange v (word_at trail i)) → strays v (take n trail) ≡ false
  not-strays s r = used-none (λ l. not (is_literal v l)) s (λ i h. ap not (is-literal v (word_at trail i) (r i h).0 (r i h).1))

  all-distinct : n ≤ v → repeats (take n trail) ≡ false → Distinct trail n
  all-distinct s e i j a b d =
      repeats-distinct (take n trail) e i j a (omega (arith, long s)) (word_of i (omega arith) ∙ d ∙ sym (word_of j b))

  not-repeats : n ≤ v → Distinct trail n → repeats (take n trail) ≡ false
  not-repeats s h =
      let d : Distinct (take n trail) n = λ i j a b e. h i j a b (sym (word_of i (omega arith)) ∙ e ∙ word_of j b) in
      distinct-repeats (take n trail) (rw (long s) d)

  -- "outside the trail": bytes
  off-trail : n ≤ v → (j : ℕ) → Off trail n j → on_trail (take n trail) j ≡ false
  off-trail s j off = used-none (λ l. eqb (place_of l) j) s (λ i h. ne_eqb _ j (off i h))

  trail-off : n ≤ v → (j : ℕ) → on_trail (take n trail) j ≡ false → Off trail n j
  trail-off s j e i h = eqb-false _ j (none-used (λ l. eqb (place_of l) j) s e i h)

  abbrev open-or-on : ℕ → Bool
  open-or-on j = on_trail (take n trail) j || eqb (get_or values j 2) 2

  outside-open : n ≤ v → set_outside v values (take n trail) ≡ false → (j : ℕ) → j < v → Off trail n j → get_or values j 2 ≡ 2
  outside-open s e j h off =
      ⊎_elim (λ t. clash _ t (off-trail s j off)) (eqb-true _ 2) (or_cases _ _ (each_at open-or-on v (not-false _ e) j h))

  is-open-or-on : n ≤ v → (j : ℕ) → (Off trail n j → get_or values j 2 ≡ 2) → open-or-on j ≡ true
  is-open-or-on s j h =
      let on = on_trail (take n trail) j in
      ⊎_elim (or_left on _) (λ f. or_right on _ (eq-eqb _ 2 (h (trail-off s j f)))) (decided on)

  open-outside : n ≤ v → ((j : ℕ) → j < v → Off trail n j → get_or values j 2 ≡ 2) → set_outside v values (take n trail) ≡ false
  open-outside s h = ap not (each_of open-or-on v (λ j b. is-open-or-on s j (h j b)))

  -- and words
  behind-zero : filled_outside trail n ≡ false → (i : ℕ) → n ≤ i → i < v → word_at trail i ≡ pos 0
  behind-zero e i a b =
      let f : not (same_literal (word_at (drop n trail) (i - n)) (pos 0)) ≡ false =
      none-at (λ w. not (same_literal w (pos 0))) (drop n trail) e (i - n) (pos 0) (omega (arith, length-drop n trail)) in
      let d : n + (i - n) ≡ i = omega arith in
      ap (word_at trail) (sym d) ∙ sym (get_or-drop n trail (i - n) (pos 0)) ∙ same-equal _ (pos 0) (not-false _ f)

  zero-behind : ((i : ℕ) → n ≤ i → i < v → word_at trail i ≡ pos 0) → filled_outside trail n ≡ false
  zero-behind h =
      none_of (λ w. not (same_literal w (pos 0))) (drop n trail) (pos 0)
      (λ i b. rw (get_or-drop n trail i (pos 0), h (n + i) (omega arith) (omega (arith, length-drop n trail))) (ap not (equal-same (pos 0))))

  -- what 14 lets through
  pub consistent : no_state v values trail n ≡ false → Consistent v values trail n
  unfolding no_state
  consistent e =
      let a = or-false (too_long v n) _ e in
      let b = or-false (strays v (take n trail)) _ a.1 in
      let c = or-false (repeats (take n trail)) _ b.1 in
      let d = or-false (contradicts values (take n trail)) _ c.1 in
      let f = or-false (set_outside v values (take n trail)) _ d.1 in
      let s : n ≤ v = ltb-false v n a.0 in
      record {
        short = s;
        range = in-range s b.0;
        distinct = all-distinct s c.0;
        agrees = λ i h. not-false _ (none-used (λ l. not (goes_with l (get_or values (place_of l) 2))) s d.0 i h);
        rest_open = outside-open s f.0;
        rest_zero = behind-zero f.1;
      }

  -- and it lets all such slices through
  pub passes : Consistent v values trail n → no_state v values trail n ≡ false
  unfolding no_state
  passes c =
      let s : n ≤ v = c.short in
      or-both-false (too_long v n) _ (le-ltb v n s)
      (or-both-false (strays v (take n trail)) _ (not-strays s c.range)
      (or-both-false (repeats (take n trail)) _ (not-repeats s c.distinct)
      (or-both-false (contradicts values (take n trail)) _ (used-none _ s (λ i h. ap not (c.agrees i h)))
      (or-both-false (set_outside v values (take n trail)) _ (open-outside s c.rest_open) (zero-behind c.rest_zero)))))
