-- A 32-bit word and its bits. The machine reads a signed word through its bits at each use, as `to_z w32 (of_z w32 l)`:
-- each law takes the word in that form and speaks of the number l.
use mathlib.Core.Path.{◌≡◌, sym, ap, ◌∙◌}
use Prim.Native.Nat.{ℕ}
use lib.IntN.{ℤ}
use mir.Syntax.{w32}
use mir.Val.{SFits, to_z, of_z}
use mir.ValLaws.{to_z-of_z}

-- the word as it is read
abbrev pub read : ℤ → ℤ
read l = to_z w32 (of_z w32 l)

pub back : (l : ℤ) → SFits w32 l → read l ≡ l
back l f = to_z-of_z w32 l f

-- `l == m` compares the bits
pub same_word : (l m : ℤ) → SFits w32 l → SFits w32 m → of_z w32 l ≡ of_z w32 m → l ≡ m
same_word l m f g e = sym (back l f) ∙ ap (to_z w32) e ∙ back m g

-- a word with these bits
pub same-as : (l : ℤ) {n : ℕ} → SFits w32 l → of_z w32 l ≡ n → l ≡ to_z w32 n
same-as l f e = sym (back l f) ∙ ap (to_z w32) e
