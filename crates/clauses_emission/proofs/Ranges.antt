-- Words against the literals that they are, and the range of literals.
use mathlib.Core.Path.{◌≡◌, refl, sym, ap, ◌∙◌}
use mathlib.Core.List.{List, [], ◌∷◌, map}
use Prim.Native.Nat.{ℕ, zero, suc, ◌≤◌, ◌<◌}
use native.Mathlib.Omega.{arith}
use lib.IntN.{ℤ, pos, negsuc, neg_ℤ, nat_abs}
use lib.ListN.{length, get_or, get_or-map}
use mir.Syntax.{w32}
use mir.Val.{SFits}
use Rattle.literal.specs.Literals.{Literal, positive, negative, opposite}
use Rattle.literal.specs.Words.{literal_of, opposite_word}
use Rattle.literal.proofs.Words.{variable-of, opposite-is}
use Rattle.literal.proofs.Signs.{read, back}
use Rattle.clauses_rules.specs.Translation.{absent}
use Rattle.clauses_emission.specs.Emission.{Inside, AllInside, literals_of}

pub inside-grows : {n m : ℕ} {l : Literal} → n ≤ m → Inside n l → Inside m l
inside-grows h i = record { low = i.low; high = omega (arith, i.high) }

pub inside-opposite : {n : ℕ} (l : Literal) → Inside n l → Inside n (opposite l)
inside-opposite (positive v) i = record { low = i.low; high = i.high }
inside-opposite (negative v) i = record { low = i.low; high = i.high }

pub inside-absent : (n : ℕ) → 2 ≤ n → Inside n absent
inside-absent n h = record { low = omega arith; high = omega arith }

pub inside_one : (n : ℕ) → 2 ≤ n → Inside n (positive 1)
inside_one n h = record { low = omega arith; high = omega arith }

-- the opposite of a word is the word of the opposite: only 0, and a word past the range, have none
opposite-plain : (w : ℤ) → 1 ≤ nat_abs w → literal_of (neg_ℤ w) ≡ opposite (literal_of w)
opposite-plain (pos zero) h = absurd (omega arith)
opposite-plain (pos (suc n)) h = refl
opposite-plain (negsuc n) h = refl

pub opposite-word : (n : ℕ) (w : ℤ) → n ≤ 16002 → Inside n (literal_of w) → literal_of (opposite_word w) ≡ opposite (literal_of w)
opposite-word n w h i =
    let low : 1 ≤ nat_abs w = omega (arith, i.low, variable-of w) in
    ap literal_of (opposite-is w (omega (arith, i.high, variable-of w))) ∙ opposite-plain w low

-- what `literal::opposite` answers, as the machine hands it on
pub opposite-read : (n : ℕ) (w r : ℤ) → n ≤ 16002 → SFits w32 w → Inside n (literal_of w) → r ≡ opposite_word (read w) → SFits w32 r
    → literal_of (read r) ≡ opposite (literal_of w)
opposite-read n w r h f i e g =
    ap literal_of (back r g ∙ e ∙ ap opposite_word (back w f)) ∙ opposite-word n w h i

-- ---- lists of literals
module _ {n : ℕ} where
  pub all-grows : {m : ℕ} (ls : List Literal) → n ≤ m → AllInside n ls → AllInside m ls
  all-grows ls h i k = inside-grows h (i k)

  pub all_none : 2 ≤ n → AllInside n []
  all_none h zero = inside-absent n h
  all_none h (suc k) = inside-absent n h

  pub all_more : (l : Literal) (ls : List Literal) → Inside n l → AllInside n ls → AllInside n (l ∷ ls)
  all_more l ls i j zero = i
  all_more l ls i j (suc k) = j k

  pub all-opposites : (ls : List Literal) → 2 ≤ n → AllInside n ls → AllInside n (map opposite ls)
  all-opposites [] h i k = all_none h k
  all-opposites (l ∷ ls) h i zero = inside-opposite l (i 0)
  all-opposites (l ∷ ls) h i (suc k) = all-opposites ls h (λ j. i (suc j)) k

-- the literal at a place
pub literal-at : (ws : List ℤ) (k : ℕ) → k < length ws → get_or (literals_of ws) k absent ≡ literal_of (get_or ws k (pos 0))
literal-at [] k h = absurd (omega arith)
literal-at (w ∷ ws) zero h = refl
literal-at (w ∷ ws) (suc k) h = literal-at ws k (omega arith)

-- within a list the default is not read
pub get_d_any : {A : Type 0} (l : List A) (i : ℕ) (d e : A) → i < length l → get_or l i d ≡ get_or l i e
get_d_any [] i d e h = absurd (omega arith)
get_d_any (x ∷ l) zero d e h = refl
get_d_any (x ∷ l) (suc i) d e h = get_d_any l i d e (omega arith)

-- the literal at a place, past the end -1
pub literal-of : (ws : List ℤ) (i : ℕ) → literal_of (get_or ws i (negsuc 0)) ≡ get_or (literals_of ws) i absent
literal-of ws i = sym (get_or-map literal_of ws i (negsuc 0))
