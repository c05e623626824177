-- What the code asks of literals and of the 32-bit words that hold them.
-- No public contract reaches this file: nothing here needs belief.
use Rattle.std.specs.Prelude.{Bool, false, cond, ℕ, suc, leb, ltb, ℤ, pos, negsuc, neg_ℤ}
use Rattle.literal.specs.Literals.{Literal, positive, negative}

-- the variable of a literal
abbrev pub variable : Literal → ℕ
variable (positive v) = v
variable (negative v) = v

-- the literal that a word is (0 is none: it reads as a literal of variable 0)
abbrev pub literal_of : ℤ → Literal
literal_of (pos n) = positive n
literal_of (negsuc n) = negative (suc n)

-- the last variable whose two literals are 32-bit numbers: the lowest number has no opposite, and is no literal
abbrev pub last_variable : ℕ
last_variable = 2147483647

-- a word says that its variable is true
abbrev pub is_positive : ℤ → Bool
is_positive (pos n) = ltb 0 n
is_positive (negsuc n) = false

-- the opposite of a word; of the lowest number, which has none, 0
abbrev pub opposite_word : ℤ → ℤ
opposite_word (pos n) = neg_ℤ (pos n)
opposite_word (negsuc n) = cond (ltb n last_variable) (pos (suc n)) (pos 0)

-- the word that says that a variable is true; 0 where no word does
abbrev pub positive_word : ℕ → ℤ
positive_word v = cond (leb v last_variable) (pos v) (pos 0)

-- the count that a word gives: a word below 0 counts nothing
abbrev pub count_of : ℤ → ℕ
count_of (pos n) = n
count_of (negsuc n) = 0
