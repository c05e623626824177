-- How many there can be in ascending order: of lists of w bits at most 2^w.
use mathlib.Core.Path.{◌≡◌, sym, ◌∙◌}
use mathlib.Core.List.{List, [], ◌∷◌}
use mathlib.Core.Logic.{⊎_elim}
use Prim.Native.Nat.{ℕ, zero, suc, ◌+◌, ◌^◌, ◌<◌, ◌≤◌}
use native.Mathlib.Omega.{arith}
use native.Mathlib.Nat.{pow-zero, pow-suc}
use lib.ListN.{length}
use Rattle.prelude.specs.Order.{Before, Each, Pairs}
use Rattle.prelude.proofs.Order.{each_map}

-- the number that bits are, the first the heaviest
share : ℕ → ℕ → ℕ
share zero w = 0
share (suc b) w = 2 ^ w

number : List ℕ → ℕ
number [] = 0
number (x ∷ xs) = share x (length xs) + number xs

share-most : (b w : ℕ) → share b w ≤ 2 ^ w
unfolding share
share-most zero w = omega arith
share-most (suc b) w = omega arith

number-below : (xs : List ℕ) → number xs < 2 ^ length xs
unfolding number
number-below [] = omega (arith, pow-zero 2)
number-below (x ∷ xs) = omega (arith, number-below xs, share-most x (length xs), pow-suc 2 (length xs))

-- what comes before is less
first-differs : (x y m n w : ℕ) → x ≡ 0 → y ≡ 1 → m < 2 ^ w → share x w + m < share y w + n
unfolding share
first-differs x y m n w p q h = rw (p, q) (omega arith)

before-less : (xs ys : List ℕ) → length xs ≡ length ys → Before xs ys → number xs < number ys
unfolding number Before
before-less [] ys e h = absurd h
before-less (x ∷ xs) [] e h = absurd h
before-less (x ∷ xs) (y ∷ ys) e h =
    let q : length xs ≡ length ys = omega arith in
    ⊎_elim
    (λ d. rw q (first-differs x y (number xs) (number ys) (length ys) d.0 d.1 (rw q at (number-below xs))))
    (λ d. let l = before-less xs ys q d.1 in rw (d.0, q) (omega arith)) h

module _ (w : ℕ) where
  -- all that come after one are more
  more : (k : ℕ) (x : List ℕ) → length x ≡ w → k ≤ number x → (ys : List (List ℕ)) → Each (λ y. length y ≡ w) ys → Each (Before x) ys
      → Each (λ y. suc k ≤ number y) ys
  unfolding Each
  more k x e h [] s b = tt
  more k x e h (y ∷ ys) s b =
      let l = before-less x y (e ∙ sym s.0) b.0 in (omega arith, more k x e h ys s.1 b.1)

  few-from : (k : ℕ) (xs : List (List ℕ)) → k ≤ 2 ^ w → Each (λ x. length x ≡ w) xs → Pairs Before xs → Each (λ x. k ≤ number x) xs
      → length xs + k ≤ 2 ^ w
  unfolding Each Pairs
  few-from k [] h s p e = omega arith
  few-from k (x ∷ xs) h s p e =
      let below : number x < 2 ^ w = rw s.0 at (number-below x) in
      let low = e.0 in
      let l = few-from (suc k) xs (omega arith) s.1 p.1 (more k x s.0 low xs s.1 p.0) in
      omega arith

  pub ascending-few : (xs : List (List ℕ)) → Each (λ x. length x ≡ w) xs → Pairs Before xs → length xs ≤ 2 ^ w
  ascending-few xs s p =
      let l = few-from 0 xs (omega arith) s p (each_map (λ x. length x ≡ w) (λ x. 0 ≤ number x) (λ x e. omega arith) xs s) in omega arith
