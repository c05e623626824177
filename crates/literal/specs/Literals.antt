-- Literals (document 01, "Clauses", first paragraph), and the 32-bit words that hold them.
use Rattle.std.specs.Prelude.{Bool, false, ℕ, eqb, ℤ, pos, neg_ℤ, nat_abs}
use Rattle.prelude.specs.Tests.{between}

-- "A literal is a signed 32-bit number: v says that variable v is true, -v that it is false."
pub data Literal : Type 0 where
  positive negative : ℕ → Literal

abbrev pub word_of : Literal → ℤ
word_of (positive v) = pos v
word_of (negative v) = neg_ℤ (pos v)

abbrev pub opposite : Literal → Literal
opposite (positive v) = negative v
opposite (negative v) = positive v

-- two literals are the same
abbrev pub is_same : Literal → Literal → Bool
is_same (positive v) (positive w) = eqb v w
is_same (positive v) (negative w) = false
is_same (negative v) (positive w) = false
is_same (negative v) (negative w) = eqb v w

-- a word is a literal of the variables 1 to v: not 0 and not beyond v
abbrev pub is_literal : ℕ → ℤ → Bool
is_literal v w = between 1 v (nat_abs w)
