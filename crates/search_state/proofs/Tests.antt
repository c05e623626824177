-- Tests over a list and over its first elements.
use mathlib.Core.Path.{◌≡◌, refl, ap}
use mathlib.Core.Bool.{Bool, true, false, not, ◌&&◌, ◌||◌}
use mathlib.Core.List.{List, [], ◌∷◌, ◌++◌}
use Prim.Native.Nat.{ℕ, zero, suc, ◌+◌, ◌<◌}
use native.Mathlib.Nat.{not-suc-le-zero, le_of_suc-le-suc}
use native.Mathlib.Numerals.{add-one}
use lib.Dec.{eqb}
use lib.ListN.{length, get_or, take}
use lib.Seq.{take-suc}
use Rattle.std.specs.List.{list_all}
use Rattle.prelude.specs.Tests.{each, any}
use Rattle.prelude.proofs.Laws.{clash, any_append, each-cong}
use Rattle.search_rules.proofs.Booleans.{or-false, bool_false}
use Rattle.search_state.specs.Inner.{settled}

module _ {A : Type 0} (p : A → Bool) where
  any-more : (xs : List A) (x : A) → any p xs ≡ false → p x ≡ false → any p (xs ++ (x ∷ [])) ≡ false
  unfolding any
  any-more xs x e f = rw (any_append p xs (x ∷ []), e, f)

  -- one element more than the first k
  pub any-take : (xs : List A) (k : ℕ) (d : A) → k < length xs → any p (take k xs) ≡ false → p (get_or xs k d) ≡ false
      → any p (take (k + 1) xs) ≡ false
  any-take xs k d h e f = rw (add-one k, take-suc xs k d h) (any-more (take k xs) (get_or xs k d) e f)

  -- where no element passes the weaker test, none passes
  pub any-weaker : (q : A → Bool) (xs : List A) → ((x : A) → p x ≡ true → q x ≡ true) → any q xs ≡ false → any p xs ≡ false
  unfolding any
  any-weaker q [] h e = refl
  any-weaker q (x ∷ xs) h e =
      let b = or-false (q x) (any q xs) e in
      rw (bool_false (p x) (λ d. clash (q x) (h x d) b.0)) (any-weaker q xs h b.1)

-- each element passes where none fails
passes : (a b c : Bool) → b ≡ not c → a && b ≡ not (not a || c)
passes true b c e = e
passes false b c e = refl

pub all-pass : {A : Type 0} (p : A → Bool) (xs : List A) → list_all p xs ≡ not (any (λ x. not (p x)) xs)
unfolding any
all-pass p [] = refl
all-pass p (x ∷ xs) = passes (p x) (list_all p xs) (any (λ x. not (p x)) xs) (all-pass p xs)

-- an element that is there, by any default
pub get_d_any : {A : Type 0} (xs : List A) (i : ℕ) (d e : A) → i < length xs → get_or xs i d ≡ get_or xs i e
get_d_any [] i d e h = absurd (not-suc-le-zero h)
get_d_any (x ∷ xs) zero d e h = refl
get_d_any (x ∷ xs) (suc i) d e h = get_d_any xs i d e (le_of_suc-le-suc h)

-- the test of `open_outside`, where a place past the end counts as 0
pub all-settled : (values : List ℕ) (seen : List Bool)
    → each (length values) (λ i. get_or seen i false || eqb (get_or values i 0) 2)
    ≡ each (length values) (settled values seen)
all-settled values seen =
    each-cong (λ i. get_or seen i false || eqb (get_or values i 0) 2) (settled values seen) (length values)
    (λ i h. ap (λ k. get_or seen i false || eqb k 2) (get_d_any values i 0 2 h))
