-- When two literals are the same, and when two words are the same literal.
use mathlib.Core.Path.{◌≡◌, refl, sym, ap, ◌∙◌}
use mathlib.Core.Bool.{true, false, false≢true}
use mathlib.Core.Logic.{⊎_elim}
use lib.IntN.{ℤ}
use borrow.Author.Tests.{eqb-true, eq-eqb}
use Rattle.prelude.proofs.Laws.{decided}
use Rattle.literal.specs.Literals.{Literal, positive, negative, opposite, is_same, word_of}
use Rattle.literal.specs.Words.{literal_of}
use Rattle.literal.proofs.Words.{word-literal}

pub same-is : (k l : Literal) → is_same k l ≡ true → k ≡ l
same-is (positive v) (positive w) e = ap positive (eqb-true v w e)
same-is (positive v) (negative w) e = absurd (false≢true e)
same-is (negative v) (positive w) e = absurd (false≢true e)
same-is (negative v) (negative w) e = ap negative (eqb-true v w e)

pub same_self : (l : Literal) → is_same l l ≡ true
same_self (positive v) = eq-eqb v v refl
same_self (negative v) = eq-eqb v v refl

pub same_not : (k l : Literal) → (k ≡ l → ⊥) → is_same k l ≡ false
same_not k l n = ⊎_elim (λ t. absurd (n (same-is k l t))) (λ f. f) (decided (is_same k l))

-- the opposite of one literal against another
pub same-turned : (k l : Literal) → is_same (opposite k) l ≡ is_same k (opposite l)
same-turned (positive v) (positive w) = refl
same-turned (positive v) (negative w) = refl
same-turned (negative v) (positive w) = refl
same-turned (negative v) (negative w) = refl

pub opposite-other : (l : Literal) → is_same (opposite l) l ≡ false
opposite-other (positive v) = refl
opposite-other (negative v) = refl

pub opposite-twice : (l : Literal) → opposite (opposite l) ≡ l
opposite-twice (positive v) = refl
opposite-twice (negative v) = refl

-- words of one literal are one word
pub one_word : (v w : ℤ) → literal_of v ≡ literal_of w → v ≡ w
one_word v w e = sym (word-literal v) ∙ ap word_of e ∙ word-literal w
