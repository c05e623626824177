-- The text of a clause list, line by line, and how long it can be.
use mathlib.Core.Path.{◌≡◌, refl, sym, ap, ◌∙◌}
use mathlib.Core.Bool.{Bool, true, false}
use mathlib.Core.List.{List, [], ◌∷◌, ◌++◌}
use Prim.Native.Nat.{ℕ, suc, ◌+◌, ◌*◌, ◌^◌, ◌<◌, ◌≤◌}
use native.Mathlib.Numerals.{add-one}
use native.Mathlib.Omega.{arith}
use lib.Dec.{ltb}
use lib.IntN.{ℤ, pos, negsuc, nat_abs}
use lib.ListN.{length, get_or, drop, drop_of_length-le, length-append}
use lib.Seq.{drop-cons}
use borrow.Author.Tests.{lt-ltb}
use Rattle.prelude.specs.Tests.{all}
use Rattle.prelude.proofs.Laws.{clash, and_left, and_right}
use Rattle.text.specs.Texts.{decimal}
use Rattle.text.proofs.Decimals.{decimal-few, decimal-short}
use Rattle.literal.specs.Literals.{is_literal}
use Rattle.literal.specs.Words.{is_positive}
use Rattle.literal.proofs.Words.{literal-high}
use Rattle.clause_list.specs.ClauseList.{clauses_of, words_of, is_list}
use Rattle.clause_list.proofs.Laws.{list-clauses, list-literals, list-most-variables, list-most-words}
use Rattle.dimacs.specs.Text.{literal_text, clause_line, clause_lines, header, text_of}

-- a literal by its sign
positive-text : (l : ℤ) → is_positive l ≡ true → literal_text l ≡ decimal (nat_abs l)
unfolding literal_text
positive-text (pos n) e = refl
positive-text (negsuc n) e = clash false e refl

negative-text : (l : ℤ) → is_positive l ≡ false → 1 ≤ nat_abs l → literal_text l ≡ 45 ∷ decimal (nat_abs l)
unfolding literal_text
negative-text (pos n) e h = clash (ltb 0 n) (lt-ltb 0 n h) e
negative-text (negsuc n) e h = refl

-- the same by what `variable` and `is_positive` answer for the literal's word
module _ {l word : ℤ} {n : ℕ} {sign : Bool} (e : word ≡ l) (v : n ≡ nat_abs word) (s : sign ≡ is_positive word) where
  pub positive-word : sign ≡ true → literal_text l ≡ decimal n
  positive-word t = positive-text l (ap is_positive (sym e) ∙ sym s ∙ t) ∙ ap decimal (ap nat_abs (sym e) ∙ sym v)

  pub negative-word : sign ≡ false → 1 ≤ nat_abs l → literal_text l ≡ 45 ∷ decimal n
  negative-word f h =
      negative-text l (ap is_positive (sym e) ∙ sym s ∙ f) h ∙ ap (λ m. 45 ∷ decimal m) (ap nat_abs (sym e) ∙ sym v)

-- a clause from a literal on
pub line-from : (clause : List ℤ) (i : ℕ) → i < length clause
    → clause_line (drop i clause) ≡ literal_text (get_or clause i (pos 0)) ++ (32 ∷ clause_line (drop (suc i) clause))
unfolding clause_line
line-from clause i h = rw (drop-cons clause i (pos 0) h)

pub line-end : (clause : List ℤ) (i : ℕ) → length clause ≤ i → clause_line (drop i clause) ≡ 48 ∷ 10 ∷ []
unfolding clause_line
line-end clause i h = rw (drop_of_length-le clause h)

pub line-length : (clause : List ℤ) (i : ℕ) → i < length clause
    → length (clause_line (drop i clause)) ≡ length (literal_text (get_or clause i (pos 0))) + 1 + length (clause_line (drop (i + 1) clause))
line-length clause i h =
    omega (
      arith,
      ap length (line-from clause i h),
      length-append (literal_text (get_or clause i (pos 0))) (32 ∷ clause_line (drop (suc i) clause)),
      ap (λ (k : ℕ). length (clause_line (drop k clause))) (add-one i),
    )

-- a line has its closing 0 and its line feed at least
pub line-some : (clause : List ℤ) → 2 ≤ length (clause_line clause)
unfolding clause_line
line-some [] = omega arith
line-some (l ∷ ls) = omega (arith, length-append (literal_text l) (32 ∷ clause_line ls), line-some ls)

pub lines_none : clause_lines [] ≡ []
unfolding clause_lines
lines_none = refl

pub lines_more : (clause : List ℤ) (clauses : List (List ℤ)) → clause_lines (clause ∷ clauses) ≡ clause_line clause ++ clause_lines clauses
unfolding clause_lines
lines_more clause clauses = refl

-- a sign, five digits and a space at most
literal-short : (v : ℕ) (l : ℤ) → v ≤ 16000 → is_literal v l ≡ true → length (literal_text l) ≤ 6
unfolding literal_text
literal-short v (pos n) h e = omega (arith, literal-high v (pos n) e, decimal-short 4 n (omega (arith, literal-high v (pos n) e)))
literal-short v (negsuc n) h e =
    omega (arith, literal-high v (negsuc n) e, decimal-short 4 (suc n) (omega (arith, literal-high v (negsuc n) e)))

line-short : (v : ℕ) (clause : List ℤ) → v ≤ 16000 → all (is_literal v) clause ≡ true → length (clause_line clause) ≤ 7 * length clause + 2
unfolding clause_line all
line-short v [] h e = omega arith
line-short v (l ∷ ls) h e =
    omega (
      arith,
      length-append (literal_text l) (32 ∷ clause_line ls),
      literal-short v l h (and_left (is_literal v l) (all (is_literal v) ls) e),
      line-short v ls h (and_right (is_literal v l) (all (is_literal v) ls) e),
    )

-- the word of each count pays for the closing 0 of its clause and leaves five bytes
lines-short : (v : ℕ) (clauses : List (List ℤ)) → v ≤ 16000 → all (all (is_literal v)) clauses ≡ true
    → length (clause_lines clauses) + 5 * length clauses ≤ 7 * length (words_of clauses)
unfolding clause_lines words_of all
lines-short v [] h e = omega arith
lines-short v (clause ∷ clauses) h e =
    omega (
      arith,
      length-append (clause_line clause) (clause_lines clauses),
      length-append clause (words_of clauses),
      line-short v clause h (and_left (all (is_literal v) clause) (all (all (is_literal v)) clauses) e),
      lines-short v clauses h (and_right (all (is_literal v) clause) (all (all (is_literal v)) clauses) e),
    )

pub header-length : (v c : ℕ) → length (header v c) ≡ length (decimal v) + length (decimal c) + 8
unfolding header
header-length v c =
    omega (arith, length-append (decimal v) (32 ∷ (decimal c ++ (10 ∷ []))), length-append (decimal c) (10 ∷ []))

pub text-parts : (v : ℕ) (ws : List ℤ) → header v (length (clauses_of ws)) ++ clause_lines (clauses_of ws) ≡ text_of v ws
unfolding text_of
text-parts v ws = refl

pub text-length : (v : ℕ) (ws : List ℤ)
    → length (text_of v ws) ≡ length (header v (length (clauses_of ws))) + length (clause_lines (clauses_of ws))
unfolding text_of
text-length v ws = length-append (header v (length (clauses_of ws))) (clause_lines (clauses_of ws))

module _ (v : ℕ) (ws : List ℤ) (e : is_list v ws ≡ true) where
  -- at most 7 bytes for each word and 14 more, which are the header's where there is no clause: the five bytes that each clause leaves
  -- pay for the digits of their number
  pub text-short : length (text_of v ws) ≤ 7 * length ws + 14
  text-short =
      let cs = clauses_of ws in
      let most = list-most-variables v ws e in
      omega (
        arith,
        text-length v ws,
        header-length v (length cs),
        decimal-short 4 v (omega (arith, most)),
        decimal-few (length cs),
        lines-short v cs most (list-literals v ws e),
        ap length (list-clauses v ws e),
      )

  -- number 12 lets at most 2^31 - 1 words pass: the length of the text is a number of 64 bits, by far
  pub text-length-fits : length (text_of v ws) < 2 ^ 34
  text-length-fits = omega (arith, text-short, list-most-words v ws e)
