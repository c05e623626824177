-- Laws of the order of specs/Order.
use mathlib.Core.Path.{◌≡◌, refl, sym, ◌∙◌, ap}
use mathlib.Core.Bool.{true}
use mathlib.Core.List.{List, [], ◌∷◌, ◌++◌, map}
use mathlib.Core.Logic.{◌⊎◌, inl, inr, ⊎_elim}
use Prim.Native.Nat.{ℕ, zero, suc, ◌<◌}
use native.Mathlib.Omega.{arith}
use lib.Dec.{leb}
use lib.ListN.{length, get_or, take}
use borrow.Author.Tests.{leb-true}
use Rattle.prelude.specs.Tests.{all}
use Rattle.prelude.specs.Order.{Before, Each, Some, Pairs, Lists}
use Rattle.prelude.proofs.Laws.{and_left, and_right}

-- the order is strict and total on those that have a property
pub record StrictTotalOrder (P : List ℕ → Type 0) : Type 0 where
  pub irreflexive : (xs : List ℕ) → P xs → Before xs xs → ⊥
  pub transitive : (xs ys zs : List ℕ) → P xs → P ys → P zs → Before xs ys → Before ys zs → Before xs zs
  pub total : (xs ys : List ℕ) → P xs → P ys → (Before xs ys) ⊎ ((xs ≡ ys) ⊎ (Before ys xs))

pub before-irreflexive : (xs : List ℕ) → Before xs xs → ⊥
unfolding Before
before-irreflexive [] h = h
before-irreflexive (x ∷ xs) h = ⊎_elim (λ d. let p = d.0 in let q = d.1 in omega arith) (λ d. before-irreflexive xs d.1) h

pub before-transitive : (xs ys zs : List ℕ) → Before xs ys → Before ys zs → Before xs zs
unfolding Before
before-transitive [] ys zs h k = absurd h
before-transitive (x ∷ xs) [] zs h k = absurd h
before-transitive (x ∷ xs) (y ∷ ys) [] h k = absurd k
before-transitive (x ∷ xs) (y ∷ ys) (z ∷ zs) h k =
    ⊎_elim
    (λ d. ⊎_elim (λ e. let p = d.1 in let q = e.0 in absurd (omega arith)) (λ e. inl (d.0, sym e.0 ∙ d.1)) k)
    (λ d. ⊎_elim (λ e. inl (d.0 ∙ e.0, e.1)) (λ e. inr (d.0 ∙ e.0, before-transitive xs ys zs d.1 e.1)) k)
    h

-- ---- of any two lists of bits of one length
bit-cases : (b : ℕ) → leb b 1 ≡ true → (b ≡ 0) ⊎ (b ≡ 1)
bit-cases zero h = inl refl
bit-cases (suc zero) h = inr refl
bit-cases (suc (suc b)) h = absurd (omega (arith, leb-true (suc (suc b)) 1 h))

module _ (x y : ℕ) (xs ys : List ℕ) (rest : (Before xs ys) ⊎ ((xs ≡ ys) ⊎ (Before ys xs))) where
  abbrev Compared : Type 0
  Compared = (Before (x ∷ xs) (y ∷ ys)) ⊎ ((x ∷ xs ≡ y ∷ ys) ⊎ (Before (y ∷ ys) (x ∷ xs)))

  first-same : x ≡ y → Compared
  unfolding Before
  first-same e =
      ⊎_elim (λ h. inl (inr (e, h))) (⊎_elim (λ d. inr (inl (λ i. e i ∷ d i))) (λ h. inr (inr (inr (sym e, h))))) rest

  first-bits : (x ≡ 0) ⊎ (x ≡ 1) → (y ≡ 0) ⊎ (y ≡ 1) → Compared
  unfolding Before
  first-bits (inl d) (inl e) = first-same (d ∙ sym e)
  first-bits (inl d) (inr e) = inl (inl (d, e))
  first-bits (inr d) (inl e) = inr (inr (inl (e, d)))
  first-bits (inr d) (inr e) = first-same (d ∙ sym e)

pub before-total : (xs ys : List ℕ) → length xs ≡ length ys → all (λ b. leb b 1) xs ≡ true → all (λ b. leb b 1) ys ≡ true
    → (Before xs ys) ⊎ ((xs ≡ ys) ⊎ (Before ys xs))
unfolding all
before-total [] [] e h k = inr (inl refl)
before-total [] (y ∷ ys) e h k = absurd (omega arith)
before-total (x ∷ xs) [] e h k = absurd (omega arith)
before-total (x ∷ xs) (y ∷ ys) e h k =
    first-bits x y xs ys (before-total xs ys (omega arith) (and_right (leb x 1) _ h) (and_right (leb y 1) _ k))
    (bit-cases x (and_left _ _ h)) (bit-cases y (and_left _ _ k))

-- ---- by places

-- 0 and 1 at a place below which two lists are the same
pub before_at : (i : ℕ) (xs ys : List ℕ) → get_or xs i 2 ≡ 0 → get_or ys i 2 ≡ 1
    → ((j : ℕ) → j < i → get_or xs j 2 ≡ get_or ys j 2) → Before xs ys
unfolding Before
before_at i [] ys p q same = omega arith
before_at i (x ∷ xs) [] p q same = omega arith
before_at zero (x ∷ xs) (y ∷ ys) p q same = inl (p, q)
before_at (suc i) (x ∷ xs) (y ∷ ys) p q same =
    inr (same 0 (omega arith), before_at i xs ys p q (λ j h. same (suc j) (omega arith)))

-- what comes before by its front does so as a whole
pub before-front : (n : ℕ) (xs ys : List ℕ) → Before (take n xs) (take n ys) → Before xs ys
unfolding Before
before-front zero xs ys h = absurd h
before-front (suc n) [] ys h = absurd h
before-front (suc n) (x ∷ xs) [] h = absurd h
before-front (suc n) (x ∷ xs) (y ∷ ys) h = ⊎_elim inl (λ d. inr (d.0, before-front n xs ys d.1)) h

-- properties of a list's elements
module _ {A : Type 0} (P Q : A → Type 0) where
  pub each_map : ((x : A) → P x → Q x) → (xs : List A) → Each P xs → Each Q xs
  unfolding Each
  each_map f [] h = tt
  each_map f (x ∷ xs) h = (f x h.0, each_map f xs h.1)

-- one more at the end
module _ {A : Type 0} where
  pub each_more : (P : A → Type 0) (xs : List A) (x : A) → Each P xs → P x → Each P (xs ++ x ∷ [])
  unfolding Each
  each_more P [] x h k = (k, tt)
  each_more P (y ∷ xs) x h k = (h.0, each_more P xs x h.1 k)

  pub some_more : (P : A → Type 0) (xs : List A) (x : A) → (Some P xs) ⊎ (P x) → Some P (xs ++ x ∷ [])
  unfolding Some
  some_more P [] x (inl h) = absurd h
  some_more P [] x (inr k) = inl k
  some_more P (y ∷ xs) x (inl h) = ⊎_elim inl (λ d. inr (some_more P xs x (inl d))) h
  some_more P (y ∷ xs) x (inr k) = inr (some_more P xs x (inr k))

  pub pairs-more : (R : A → A → Type 0) (xs : List A) (x : A) → Pairs R xs → Each (λ y. R y x) xs
      → Pairs R (xs ++ x ∷ [])
  unfolding Pairs Each
  pairs-more R [] x h k = (tt, tt)
  pairs-more R (y ∷ xs) x h k = (each_more (R y) xs x h.0 k.0, pairs-more R xs x h.1 k.1)

-- what ascends is different
pub ascending-different : (xs : List (List ℕ)) → Pairs Before xs → Pairs (λ x y. x ≡ y → ⊥) xs
unfolding Pairs
ascending-different [] h = tt
ascending-different (x ∷ xs) h = (
  each_map (Before x) (λ y. x ≡ y → ⊥) (λ y b e. before-irreflexive y (rw e at b)) xs h.0,
  ascending-different xs h.1,
)

-- lists of those that have one property, and of what a map that keeps the order and reaches all makes of them
module _ (P Q : List ℕ → Type 0) (f : List ℕ → List ℕ) (maps : (x : List ℕ) → P x → Q (f x))
    (up : (x y : List ℕ) → P x → P y → Before x y → Before (f x) (f y)) (onto : (y : List ℕ) → Q y → (x : List ℕ) × P x × (f x ≡ y)) where
  each-of-map : (R S : List ℕ → Type 0) → ((x : List ℕ) → P x → R x → S (f x)) → (xs : List (List ℕ)) → Each P xs → Each R xs → Each S (map f xs)
  unfolding Each
  each-of-map R S g [] p h = tt
  each-of-map R S g (x ∷ xs) p h = (g x p.0 h.0, each-of-map R S g xs p.1 h.1)

  some-of-map : (y : List ℕ) (x : List ℕ) → f x ≡ y → (xs : List (List ℕ)) → Some (λ z. z ≡ x) xs → Some (λ z. z ≡ y) (map f xs)
  unfolding Some
  some-of-map y x e [] h = h
  some-of-map y x e (z ∷ xs) h = ⊎_elim (λ d. inl (ap f d ∙ e)) (λ d. inr (some-of-map y x e xs d)) h

  ascending-of-map : (xs : List (List ℕ)) → Each P xs → Pairs Before xs → Pairs Before (map f xs)
  unfolding Each Pairs
  ascending-of-map [] p h = tt
  ascending-of-map (x ∷ xs) p h = (
    each-of-map (Before x) (Before (f x)) (λ y q b. up x y p.0 q b) xs p.1 h.0,
    ascending-of-map xs p.1 h.1,
  )

  -- one that is among them is among what is made of them
  pub given-of-map : (xs : List (List ℕ)) → ((x : List ℕ) → P x → Some (λ z. z ≡ x) xs) → (y : List ℕ) → Q y → Some (λ z. z ≡ y) (map f xs)
  given-of-map xs h y q = let o = onto y q in some-of-map y o.0 o.2 xs (h o.0 o.1)

  pub lists-of-map : (xs : List (List ℕ)) → Lists P xs → Lists Q (map f xs)
  lists-of-map xs l =
      let rise = ascending-of-map xs l.each l.ascending in
      record {
        each = each-of-map P Q (λ x p r. maps x p) xs l.each l.each;
        ascending = rise;
        different = ascending-different (map f xs) rise;
        others_later = λ y q.
            let o = onto y q in
            ⊎_elim (λ h. inl (some-of-map y o.0 o.2 xs h))
            (λ h. inr (each-of-map (λ x. Before x o.0) (λ z. Before z y) (λ x p b. rw o.2 at (up x o.0 p o.1 b)) xs l.each h))
            (l.others_later o.0 o.1);
      }
