-- A series is its members, and they stand in it one after the other.
use mathlib.Core.Path.{◌≡◌, refl, sym, ap, ◌∙◌}
use mathlib.Core.Logic.{◌⊎◌, inl, inr}
use mathlib.Core.List.{List, ◌++◌, append_assoc}
use Prim.Native.Nat.{ℕ, zero, suc, ◌+◌, ◌<◌}
use native.Mathlib.Nat.{eq-or-lt_of_le}
use native.Mathlib.Omega.{arith}
use lib.ListN.{length, get_or, length-append, get_or-append}
use lib.Seq.{get_or-append-add}
use Rattle.clauses_rules.specs.Whole.{series}

pub same-series : {A : Type 0} (n : ℕ) (f g : ℕ → List A) → ((i : ℕ) → i < n → f i ≡ g i) → series n f ≡ series n g
unfolding series
same-series zero f g e = refl
same-series (suc n) f g e = λ k. same-series n f g (λ i h. e i (omega arith)) k ++ e n (omega arith) k

-- list i of a series starts at place `start i`
module _ {A : Type 0} (f : ℕ → List A) (start : ℕ → ℕ) (next : (i : ℕ) → start (suc i) ≡ start i + length (f i)) where
  pub series-end : (n : ℕ) → start 0 + length (series n f) ≡ start n
  unfolding series
  series-end zero = omega arith
  series-end (suc n) = omega (arith, series-end n, length-append (series n f) (f n), next n)

  module _ (d : A) (front : List A) (first : length front ≡ start 0) where
    pub series-at : (n : ℕ) (rest : List A) (i p : ℕ) → i < n → p < length (f i)
        → get_or (front ++ (series n f ++ rest)) (start i + p) d ≡ get_or (f i) p d
    unfolding series
    series-at zero rest i p h l = absurd (omega arith)
    series-at (suc n) rest i p h l =
        ap (λ (t : List A). get_or (front ++ t) (start i + p) d) (append_assoc (series n f) (f n) rest)
        ∙ go (series-at n (f n ++ rest) i p) (eq-or-lt_of_le (omega arith))
      where
        Here : Type 0
        Here = get_or (front ++ (series n f ++ (f n ++ rest))) (start i + p) d ≡ get_or (f i) p d

        go : (i < n → p < length (f i) → Here) → (i ≡ n) ⊎ (i < n) → Here
        go before (inr k) = before k l
        go before (inl e) =
            let here : start n ≡ length (front ++ series n f)
            = omega (arith, length-append front (series n f), series-end n) in
            ap (λ (t : List A). get_or t (start i + p) d) (sym (append_assoc front (series n f) (f n ++ rest)))
            ∙ rw (e, here) (get_or-append-add (front ++ series n f) (f n ++ rest) p d) ∙ get_or-append (f i) rest d p l
