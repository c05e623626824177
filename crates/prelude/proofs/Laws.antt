-- Laws of the tests of specs/Tests.
use mathlib.Core.Path.{◌≡◌, refl, sym, ap, ◌∙◌}
use mathlib.Core.Bool.{Bool, true, false, ◌&&◌, ◌||◌, true≢false, false≢true, and_assoc, or_assoc}
use mathlib.Core.List.{List, [], ◌∷◌, ◌++◌, map}
use mathlib.Core.Logic.{◌⊎◌, inl, inr, ⊎_elim}
use Prim.Native.Nat.{ℕ, zero, suc, ◌+◌, ◌<◌, ◌≤◌}
use native.Mathlib.Nat.{not-suc-le-zero, le_of_suc-le-suc, eq-or-lt_of_le}
use native.Mathlib.Numerals.{add-one}
use native.Mathlib.Omega.{arith}
use lib.Dec.{leb}
use lib.ListN.{length, get_or, drop, drop_of_length-le}
use lib.Seq.{drop-cons}
use borrow.Author.Tests.{leb-true, le-leb, lt-leb}
use Rattle.prelude.specs.Tests.{between, each, all, any}

-- a test is true or false, and not both
pub clash {ℓ} : {A : Type ℓ} (b : Bool) → b ≡ true → b ≡ false → A
clash b t f = absurd (true≢false (sym t ∙ f))

pub decided : (b : Bool) → (b ≡ true) ⊎ (b ≡ false)
decided true = inl refl
decided false = inr refl

pub and_left : (a b : Bool) → a && b ≡ true → a ≡ true
and_left true b e = refl
and_left false b e = e

pub and_right : (a b : Bool) → a && b ≡ true → b ≡ true
and_right true b e = e
and_right false b e = absurd (false≢true e)

pub and_both : (a b : Bool) → a ≡ true → b ≡ true → a && b ≡ true
and_both true b d e = e
and_both false b d e = absurd (false≢true d)

pub and-not-left : (a b : Bool) → a ≡ false → a && b ≡ false
and-not-left true b e = absurd (true≢false e)
and-not-left false b e = refl

pub and-not-right : (a b : Bool) → b ≡ false → a && b ≡ false
and-not-right true b e = e
and-not-right false b e = refl

-- the first test passed: the rest decides
pub and-rest : (a b : Bool) → a ≡ true → a && b ≡ b
and-rest true b e = refl
and-rest false b e = absurd (false≢true e)

pub or_left : (a b : Bool) → a ≡ true → a || b ≡ true
or_left true b e = refl
or_left false b e = absurd (false≢true e)

pub or_right : (a b : Bool) → b ≡ true → a || b ≡ true
or_right true b e = refl
or_right false b e = e

pub or-rest : (a b : Bool) → a ≡ false → a || b ≡ b
or-rest true b e = absurd (true≢false e)
or-rest false b e = refl

pub or_cases : (a b : Bool) → a || b ≡ true → (a ≡ true) ⊎ (b ≡ true)
or_cases true b e = inl refl
or_cases false b e = inr e

module _ (lo hi n : ℕ) where
  pub between-low : between lo hi n ≡ true → lo ≤ n
  between-low e = leb-true lo n (and_left (leb lo n) (leb n hi) e)

  pub between-high : between lo hi n ≡ true → n ≤ hi
  between-high e = leb-true n hi (and_right (leb lo n) (leb n hi) e)

  pub is-between : lo ≤ n → n ≤ hi → between lo hi n ≡ true
  is-between l h = and_both (leb lo n) (leb n hi) (le-leb lo n l) (le-leb n hi h)

  pub below-not-between : n < lo → between lo hi n ≡ false
  below-not-between l = and-not-left (leb lo n) (leb n hi) (lt-leb lo n l)

  pub above-not-between : hi < n → between lo hi n ≡ false
  above-not-between h = and-not-right (leb lo n) (leb n hi) (lt-leb n hi h)

module _ (p : ℕ → Bool) where
  -- what each number below n has, a number below n has; and the other way round
  pub each_at : (n : ℕ) → each n p ≡ true → (i : ℕ) → i < n → p i ≡ true
  unfolding each
  each_at zero e i h = absurd (not-suc-le-zero h)
  each_at (suc n) e i h =
      ⊎_elim
      (λ s. rw s (and_right (each n p) (p n) e))
      (each_at n (and_left (each n p) (p n) e) i)
      (eq-or-lt_of_le (le_of_suc-le-suc h))

  pub each_of : (n : ℕ) → ((i : ℕ) → i < n → p i ≡ true) → each n p ≡ true
  unfolding each
  each_of zero h = refl
  each_of (suc n) h = and_both (each n p) (p n) (each_of n (λ i l. h i (omega arith))) (h n (omega arith))

pub each-cong : (p q : ℕ → Bool) (n : ℕ) → ((i : ℕ) → i < n → p i ≡ q i) → each n p ≡ each n q
unfolding each
each-cong p q zero h = refl
each-cong p q (suc n) h = rw (each-cong p q n (λ i l. h i (omega arith)), h n (omega arith))

module _ {A : Type 0} (p : A → Bool) where
  -- what all elements have, the element at an index has; and the other way round
  pub all-at : (xs : List A) → all p xs ≡ true → (i : ℕ) (d : A) → i < length xs → p (get_or xs i d) ≡ true
  unfolding all
  all-at [] e i d h = absurd (not-suc-le-zero h)
  all-at (x ∷ xs) e zero d h = and_left (p x) (all p xs) e
  all-at (x ∷ xs) e (suc i) d h = all-at xs (and_right (p x) (all p xs) e) i d (le_of_suc-le-suc h)

  pub all_of : (xs : List A) (d : A) → ((i : ℕ) → i < length xs → p (get_or xs i d) ≡ true) → all p xs ≡ true
  unfolding all
  all_of [] d h = refl
  all_of (x ∷ xs) d h = and_both (p x) (all p xs) (h 0 (omega arith)) (all_of xs d (λ i l. h (suc i) (omega arith)))

  -- the elements from an index on
  pub all_from : (xs : List A) (i : ℕ) (d : A) → i < length xs → all p (drop i xs) ≡ (p (get_or xs i d) && all p (drop (i + 1) xs))
  unfolding all
  all_from xs i d h = rw (drop-cons xs i d h, add-one)

  pub all-from-end : (xs : List A) (i : ℕ) → length xs ≤ i → all p (drop i xs) ≡ true
  unfolding all
  all-from-end xs i h = rw (drop_of_length-le xs h)

  pub all_append : (xs ys : List A) → all p (xs ++ ys) ≡ (all p xs && all p ys)
  unfolding all
  all_append [] ys = refl
  all_append (x ∷ xs) ys = ap (λ (b : Bool). p x && b) (all_append xs ys) ∙ sym (and_assoc (p x) (all p xs) (all p ys))

  pub any_append : (xs ys : List A) → any p (xs ++ ys) ≡ (any p xs || any p ys)
  unfolding any
  any_append [] ys = refl
  any_append (x ∷ xs) ys = ap (λ (b : Bool). p x || b) (any_append xs ys) ∙ sym (or_assoc (p x) (any p xs) (any p ys))

  -- an element that has p
  pub any_at : (xs : List A) (i : ℕ) (d : A) → i < length xs → p (get_or xs i d) ≡ true → any p xs ≡ true
  unfolding any
  any_at [] i d h e = absurd (not-suc-le-zero h)
  any_at (x ∷ xs) zero d h e = or_left (p x) (any p xs) e
  any_at (x ∷ xs) (suc i) d h e = or_right (p x) (any p xs) (any_at xs i d (le_of_suc-le-suc h) e)

pub all_map : {A B : Type 0} (p : B → Bool) (f : A → B) (xs : List A) → all p (map f xs) ≡ all (λ x. p (f x)) xs
unfolding all
all_map p f [] = refl
all_map p f (x ∷ xs) = ap (λ (b : Bool). p (f x) && b) (all_map p f xs)
