-- Words against the numbers and literals that they hold: no bits here.
use mathlib.Core.Path.{◌≡◌, refl, ap}
use mathlib.Core.Bool.{true}
use Prim.Native.Nat.{ℕ, zero, suc, min, ◌≤◌}
use native.Mathlib.Nat.{min-eq_left}
use lib.IntN.{ℤ, pos, negsuc, neg_ℤ, nat_abs}
use borrow.Author.Tests.{lt-ltb, le-leb}
use Rattle.prelude.proofs.Laws.{between-low, between-high, is-between}
use Rattle.literal.specs.Literals.{Literal, positive, negative, word_of}
use Rattle.literal.specs.Words.{variable, literal_of}
use Rattle.literal.specs.Literals.{is_literal}
use Rattle.literal.specs.Words.{last_variable, opposite_word, positive_word}

-- literals and their words
pub word-variable : (l : Literal) → nat_abs (word_of l) ≡ variable l
word-variable (positive v) = refl
word-variable (negative zero) = refl
word-variable (negative (suc v)) = refl

pub word-literal : (w : ℤ) → word_of (literal_of w) ≡ w
word-literal (pos n) = refl
word-literal (negsuc n) = refl

pub variable-of : (w : ℤ) → variable (literal_of w) ≡ nat_abs w
variable-of (pos n) = refl
variable-of (negsuc n) = refl

-- the opposite of a word
pub opposite-is : (w : ℤ) → nat_abs w ≤ last_variable → opposite_word w ≡ neg_ℤ w
opposite-is (pos n) h = refl
opposite-is (negsuc n) h = rw (lt-ltb n 2147483647 h)

pub positive-is : (v : ℕ) → v ≤ last_variable → positive_word v ≡ pos v
positive-is v h = rw (le-leb v 2147483647 h)

-- the range of a literal
module _ (v : ℕ) (w : ℤ) (e : is_literal v w ≡ true) where
  pub literal-low : 1 ≤ nat_abs w
  literal-low = between-low 1 v (nat_abs w) e

  pub literal-high : nat_abs w ≤ v
  literal-high = between-high 1 v (nat_abs w) e

pub is-literal : (v : ℕ) (w : ℤ) → 1 ≤ nat_abs w → nat_abs w ≤ v → is_literal v w ≡ true
is-literal v w l h = is-between 1 v (nat_abs w) l h

pub word-is-literal : (v : ℕ) (l : Literal) → 1 ≤ variable l → variable l ≤ v → is_literal v (word_of l) ≡ true
word-is-literal v l a b = is-literal v (word_of l) (rw (word-variable l) a) (rw (word-variable l) b)

-- what `is_literal` tests, where every variable up to v has two literals
pub within-words : (v : ℕ) (w : ℤ) → v ≤ last_variable → is_literal (min v last_variable) w ≡ is_literal v w
within-words v w h = ap (λ (n : ℕ). is_literal n w) (min-eq_left h)
