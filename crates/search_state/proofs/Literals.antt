-- Literals against each other and against the byte of their variable.
use mathlib.Core.Path.{◌≡◌, refl, sym, ap, ◌∙◌}
use mathlib.Core.Bool.{Bool, true, false, ◌||◌}
use Prim.Native.Nat.{ℕ, zero, suc, min, ◌-◌, ◌≤◌}
use native.Mathlib.Numerals.{sub-one}
use native.Mathlib.Omega.{arith}
use lib.Dec.{eqb}
use lib.IntN.{ℤ, pos, negsuc, nat_abs}
use mir.Syntax.{w32}
use mir.Val.{SFits, of_z}
use borrow.Author.Tests.{eq-eqb, eqb-true, eqb-false, ltb-false}
use Rattle.prelude.proofs.Laws.{clash}
use Rattle.literal.specs.Literals.{is_literal}
use Rattle.literal.specs.Words.{is_positive, last_variable}
use Rattle.literal.proofs.Signs.{same_word}
use Rattle.literal.proofs.Words.{within-words}
use Rattle.search_rules.specs.Rules.{same_literal, place_of}
use Rattle.search_rules.specs.Held.{goes_with}
use Rattle.search_rules.proofs.Assignments.{same_true, same_refl}
use Rattle.search_rules.proofs.Booleans.{bool_false}

-- a literal's place is its variable's, counted from 0
pub place-of : (l : ℤ) → nat_abs l - 1 ≡ place_of l
unfolding place_of
place-of (pos n) = sub-one n
place-of (negsuc n) = sub-one (suc n)

-- the same literal has the same place
pub same_place : (k l : ℤ) → same_literal k l ≡ true → eqb (place_of k) (place_of l) ≡ true
same_place k l e = eq-eqb (place_of k) (place_of l) (ap place_of (same_true k l e))

-- no byte goes with both literals of a variable
one-sign : (b : ℕ) → eqb b 1 ≡ true → eqb b 0 || eqb b 3 ≡ false
one-sign b e = rw (eqb-true b 1 e)

-- so two literals of one variable that go with its byte are the same
pub same-literal : (k l : ℤ) (b : ℕ) → 1 ≤ nat_abs k → 1 ≤ nat_abs l → place_of k ≡ place_of l → goes_with k b ≡ true → goes_with l b ≡ true
    → same_literal k l ≡ true
unfolding same_literal place_of goes_with
same-literal (pos zero) l b g h e s t = absurd (omega arith)
same-literal (pos (suc m)) (pos zero) b g h e s t = absurd (omega arith)
same-literal (pos (suc m)) (pos (suc n)) b g h e s t = eq-eqb (suc m) (suc n) (ap suc e)
same-literal (pos (suc m)) (negsuc n) b g h e s t = clash _ t (one-sign b s)
same-literal (negsuc m) (pos n) b g h e s t = clash _ s (one-sign b t)
same-literal (negsuc m) (negsuc n) b g h e s t = eq-eqb m n e

-- the answers of `goes_with`: z is the literal as the machine has it
module _ (z l : ℤ) (b : ℕ) (e : z ≡ l) where
  pub goes_above : is_positive z ≡ true → eqb b 1 ≡ goes_with l b
  unfolding goes_with
  goes_above t = by l (rw e at t)
    where
      by : (l : ℤ) → is_positive l ≡ true → eqb b 1 ≡ goes_with l b
      by (pos n) t = refl
      by (negsuc n) t = clash false t refl

  pub goes-below : 1 ≤ nat_abs l → is_positive z ≡ false → eqb b 0 || eqb b 3 ≡ goes_with l b
  unfolding goes_with
  goes-below h t = by l h (rw e at t)
    where
      by : (l : ℤ) → 1 ≤ nat_abs l → is_positive l ≡ false → eqb b 0 || eqb b 3 ≡ goes_with l b
      by (pos n) h t = absurd (omega (arith, ltb-false 0 n t))
      by (negsuc n) h t = refl

-- the answer of `is_literal` for so many variables
pub is_within : (v : ℕ) (z l : ℤ) → v ≤ 16000 → z ≡ l → is_literal (min v last_variable) z ≡ is_literal v l
is_within v z l h e = ap (is_literal (min v last_variable)) e ∙ within-words v l (omega arith)

-- `w == 0` compares the bits
pub zero-word : (w : ℤ) → SFits w32 w → eqb (of_z w32 w) 0 ≡ same_literal w (pos 0)
zero-word w f = by (eqb (of_z w32 w) 0) refl
  where
    by : (b : Bool) → eqb (of_z w32 w) 0 ≡ b → b ≡ same_literal w (pos 0)
    by true e = sym (same_refl w (pos 0) (same_word w (pos 0) f (record { sfits = omega arith }) (eqb-true (of_z w32 w) 0 e)))
    by false e =
        sym (bool_false (same_literal w (pos 0)) (λ h. eqb-false (of_z w32 w) 0 e (ap (of_z w32) (same_true w (pos 0) h))))
