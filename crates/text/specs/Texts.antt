-- Printed text, as the bytes of its characters (document 01, "The finder program"): words, numbers, lines.
use Rattle.std.specs.Prelude.{◌≡◌, true, false, List, [], ◌∷◌, ◌++◌, ℕ, zero, suc, ◌+◌, ◌/◌, ◌%◌, leb, length, drop}
use Prim.Native.Char.{code}
use Prim.Native.String as text
use Prim.Native.String.{String}

-- every text of the papers is in ASCII
abbrev pub bytes_of : String → List ℕ
bytes_of text.[] = []
bytes_of (text.◌∷◌ c cs) = code c ∷ bytes_of cs

-- the byte of a digit: 0 is byte 48
abbrev pub digit : ℕ → ℕ
digit d = 48 + d

-- a number in decimal: the digits of its tenth, then its last digit, with no leading zero
unfoldable pub digits : ℕ → ℕ → List ℕ
digits zero n = []
digits (suc rounds) n =
    elim (leb n 9) [
      | true ↦ digit n ∷ []
      | false ↦ digits rounds (n / 10) ++ (digit (n % 10) ∷ [])
    ]

-- a number has fewer digits than one more than itself, so that as many rounds give them all
unfoldable pub decimal : ℕ → List ℕ
decimal n = digits (suc n) n

-- a word, a number, and the end of the line
abbrev pub end_line : List ℕ → ℕ → List ℕ
end_line word n = word ++ (decimal n ++ bytes_of "\n")

-- a text was printed to the front of a slice: it ends at the place answered, and what was lent after it is unchanged
pub record Prints (text lent left : List ℕ) (end : ℕ) : Type 0 where
  pub ends : end ≡ length text
  pub stands : left ≡ text ++ drop (length text) lent
