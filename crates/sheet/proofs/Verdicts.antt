-- A test decides, or the next one does.
use mathlib.Core.Path.{◌≡◌, refl}
use mathlib.Core.Bool.{Bool, true, false}
use Prim.Native.Nat.{ℕ, ◌≤◌, ◌<◌}
use native.Mathlib.Omega.{arith}
use lib.Dec.{leb}
use borrow.Author.Tests.{lt-leb, le-leb}
use Rattle.sheet_rules.specs.Reading.{Answer, refused, unless}
use Rattle.sheet.specs.Filling.{capped}

-- the code's test t, negated in the source, is the definition's
pub refuse : (t fine : Bool) (n : ℕ) (next : Answer) → t ≡ fine → t ≡ false → refused n ≡ unless fine n next
refuse t fine n next e h = rw (← e, h) refl

pub pass : (t fine : Bool) (n : ℕ) (x next : Answer) → t ≡ fine → t ≡ true → x ≡ next → x ≡ unless fine n next
pass t fine n x next e f h = rw (← e, f) h

pub refuse-false : (fine : Bool) (n : ℕ) (next : Answer) → fine ≡ false → refused n ≡ unless fine n next
refuse-false fine n next e = rw e refl

pub pass-true : (fine : Bool) (n : ℕ) (x next : Answer) → fine ≡ true → x ≡ next → x ≡ unless fine n next
pass-true fine n x next e h = rw e h

-- capped visits are over the limit where the visits are
pub over-limit : (n r : ℕ) → r ≡ capped n → 1000000 < r → leb n 1000000 ≡ false
over-limit n r e h = lt-leb n 1000000 (omega arith)

pub under-limit : (n r : ℕ) → r ≡ capped n → r ≤ 1000000 → leb n 1000000 ≡ true
under-limit n r e h = le-leb n 1000000 (omega arith)
