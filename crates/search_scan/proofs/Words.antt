-- Literals as the machine has them: their place among the values, and what the values say of them.
use mathlib.Core.Path.{◌≡◌, refl, sym, ◌∙◌, ap}
use mathlib.Core.Bool.{Bool, true, false}
use mathlib.Core.List.{List, [], ◌∷◌}
use Prim.Native.Nat.{ℕ, zero, suc, ◌-◌, ◌<◌}
use native.Mathlib.Omega.{arith}
use native.Mathlib.Numerals.{sub-one}
use lib.IntN.{ℤ, pos, negsuc, nat_abs}
use lib.ListN.{length, get_or}
use borrow.Author.Tests.{ltb-false}
use Rattle.prelude.proofs.Laws.{clash}
use Rattle.literal.specs.Words.{is_positive}
use Rattle.search_rules.specs.Held.{InRange}
use Rattle.search_scan.specs.Seen.{truth_code}
use Rattle.search_rules.specs.Rules.{falsified, truth_of, negated, literal, propagated, byte_of, place_of}
use Rattle.search_rules.proofs.Found.{place-below}

-- a literal's place is its variable's, counted from 0
pub place-of : (l : ℤ) → nat_abs l - 1 ≡ place_of l
unfolding place_of
place-of (pos n) = sub-one n
place-of (negsuc n) = sub-one (suc n)

-- the sign of a literal
module _ (v : ℕ) (z l : ℤ) (e : z ≡ l) (r : InRange v l) where
  pub is-above : is_positive z ≡ true → (n : ℕ) × (l ≡ pos (suc n))
  is-above t = by l (rw e at t) r
    where
      by : (l : ℤ) → is_positive l ≡ true → InRange v l → (n : ℕ) × (l ≡ pos (suc n))
      by (pos zero) t r = absurd (let h = r.0 in omega arith)
      by (pos (suc n)) t r = (n, refl)
      by (negsuc n) t r = clash false t refl

  pub is_below : is_positive z ≡ false → (n : ℕ) × (l ≡ negsuc n)
  is_below t = by l (rw e at t) r
    where
      by : (l : ℤ) → is_positive l ≡ false → InRange v l → (n : ℕ) × (l ≡ negsuc n)
      by (pos n) t r = absurd (let h = r.0 in omega (arith, ltb-false 0 n t))
      by (negsuc n) t r = (n, refl)

pub default : (vs : List ℕ) (i d e : ℕ) → i < length vs → get_or vs i d ≡ get_or vs i e
default [] i d e h = absurd (omega arith)
default (x ∷ vs) zero d e h = refl
default (x ∷ vs) (suc i) d e h = default vs i d e (omega arith)

truth-false : (x : ℕ) → (x ≡ 1 → ⊥) → (x ≡ 2 → ⊥) → truth_of x ≡ falsified
unfolding truth_of
truth-false zero p q = refl
truth-false (suc zero) p q = absurd (p refl)
truth-false (suc (suc zero)) p q = absurd (q refl)
truth-false (suc (suc (suc n))) p q = refl

-- the five answers of `truth`: z is the literal as the machine has it, p its place, x the byte there
module _ (vs : List ℕ) (z l : ℤ) (p x : ℕ) (e : z ≡ l) (r : InRange (length vs) l) (d : p ≡ nat_abs z - 1) (b : x ≡ get_or vs p 0) where
  place_is : p ≡ place_of l
  place_is = d ∙ place-of z ∙ ap place_of e

  pub place-within : p < length vs
  place-within = rw place_is (place-below (length vs) l r)

  byte-is : get_or vs p 2 ≡ x
  byte-is = default vs p 2 0 place-within ∙ sym b

  literal-above : is_positive z ≡ true → literal vs l ≡ truth_of x
  unfolding literal place_of
  literal-above t =
      let q = is-above (length vs) z l e r t in
      let i : p ≡ q.0 = place_is ∙ ap place_of q.1 in
      rw q.1 (ap truth_of (ap (λ k. get_or vs k 2) (sym i) ∙ byte-is))

  literal-below : is_positive z ≡ false → literal vs l ≡ negated (truth_of x)
  unfolding literal place_of
  literal-below t =
      let q = is_below (length vs) z l e r t in
      let i : p ≡ q.0 = place_is ∙ ap place_of q.1 in
      rw q.1 (ap (λ y. negated (truth_of y)) (ap (λ k. get_or vs k 2) (sym i) ∙ byte-is))

  pub says-open : (t : Bool) → is_positive z ≡ t → x ≡ 2 → 2 ≡ truth_code (literal vs l)
  unfolding truth_of negated truth_code
  says-open true t q = sym (ap truth_code (literal-above t ∙ ap truth_of q))
  says-open false t q = sym (ap truth_code (literal-below t ∙ ap (λ y. negated (truth_of y)) q))

  pub says-true-above : is_positive z ≡ true → x ≡ 1 → 1 ≡ truth_code (literal vs l)
  unfolding truth_of truth_code
  says-true-above t q = sym (ap truth_code (literal-above t ∙ ap truth_of q))

  pub says-false-above : is_positive z ≡ true → (x ≡ 1 → ⊥) → (x ≡ 2 → ⊥) → 0 ≡ truth_code (literal vs l)
  unfolding truth_code
  says-false-above t q s = sym (ap truth_code (literal-above t ∙ truth-false x q s))

  pub says-false-below : is_positive z ≡ false → x ≡ 1 → 0 ≡ truth_code (literal vs l)
  unfolding truth_of negated truth_code
  says-false-below t q = sym (ap truth_code (literal-below t ∙ ap (λ y. negated (truth_of y)) q))

  pub says-true-below : is_positive z ≡ false → (x ≡ 1 → ⊥) → (x ≡ 2 → ⊥) → 1 ≡ truth_code (literal vs l)
  unfolding negated truth_code
  says-true-below t q s = sym (ap truth_code (literal-below t ∙ ap negated (truth-false x q s)))

-- the byte of a propagated literal, by its sign
module _ (v : ℕ) (z l : ℤ) (e : z ≡ l) (r : InRange v l) where
  pub byte_above : is_positive z ≡ true → byte_of (propagated l) ≡ 1
  unfolding byte_of
  byte_above t = rw (is-above v z l e r t).1 refl

  pub byte-below : is_positive z ≡ false → byte_of (propagated l) ≡ 0
  unfolding byte_of
  byte-below t = rw (is_below v z l e r t).1 refl
