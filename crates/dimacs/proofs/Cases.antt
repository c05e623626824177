-- Answers computed from the definitions over K1's list of document 01 and over lists of few clauses. K1's text: crate `marked`.
use mathlib.Core.Path.{◌≡◌, refl}
use mathlib.Core.List.{List, [], ◌∷◌, ◌++◌}
use Prim.Native.Nat.{ℕ, zero, suc}
use lib.IntN.{ℤ, pos, negsuc}
use lib.ListN.{replicate}
use Rattle.prelude.specs.Tests.{all}
use Rattle.text.specs.Texts.{bytes_of, digits, decimal}
use Rattle.clause_list.specs.ClauseList.{cut, is_list, well_cut}
use Rattle.clause_list.specs.Marked.{k1}
use Rattle.dimacs.specs.Text.{literal_text, clause_line, clause_lines, header, text_of}
use Rattle.dimacs.specs.Answers.{Answer, bytes, refused, size_answer, write_answer, text_after}

-- the answer and the slice, for a slice of so many sevens
abbrev written : ℕ → Answer × List ℕ
written n = (write_answer 4 k1 (replicate n 7), text_after 4 k1 (replicate n 7))

-- K1's text has 41 bytes: one less is too short, as many are filled, one more keeps its last byte
pub k1-slices : (size_answer 4 k1 ≡ bytes 41) × (written 40 ≡ (refused 13, replicate 40 7)) × (written 41 ≡ (bytes 41, text_of 4 k1))
    × (written 42 ≡ (bytes 41, text_of 4 k1 ++ (7 ∷ [])))
unfolding cut digits decimal literal_text clause_line clause_lines header text_of all well_cut is_list size_answer write_answer text_after
k1-slices = (refl, refl, refl, refl)

-- its literal 4 is beyond 3 variables
pub k1-beyond : (size_answer 3 k1 ≡ refused 12) × (write_answer 3 k1 [] ≡ refused 12)
unfolding cut digits decimal literal_text clause_line clause_lines header text_of all well_cut is_list size_answer write_answer
k1-beyond = (refl, refl)

-- a literal of the last variable, alone
abbrev true-alone : ℕ → Answer
true-alone v = size_answer v (pos 1 ∷ pos v ∷ [])

abbrev false-alone : ℕ → Answer
false-alone n = size_answer (suc n) (pos 1 ∷ negsuc n ∷ [])

-- 1 to 5 digits in the header and in the literal, and a minus
pub literal-sizes : (true-alone 9 ≡ bytes 14) × (true-alone 10 ≡ bytes 16) × (true-alone 99 ≡ bytes 16) × (true-alone 100 ≡ bytes 18)
    × (true-alone 999 ≡ bytes 18) × (true-alone 1000 ≡ bytes 20) × (true-alone 9999 ≡ bytes 20) × (true-alone 10000 ≡ bytes 22)
    × (true-alone 16000 ≡ bytes 22) × (false-alone 8 ≡ bytes 15) × (false-alone 9 ≡ bytes 17) × (false-alone 15999 ≡ bytes 23)
unfolding cut digits decimal literal_text clause_line clause_lines header text_of all well_cut is_list size_answer
literal-sizes = (refl, refl, refl, refl, refl, refl, refl, refl, refl, refl, refl, refl)

-- so many clauses of one literal, 4 bytes each: the tenth has one byte more in the header, and so has the hundredth
pub units : ℕ → List ℤ
units zero = []
units (suc n) = pos 1 ∷ pos 1 ∷ units n

pub clause-sizes : (size_answer 1 (units 9) ≡ bytes 46) × (size_answer 1 (units 10) ≡ bytes 51) × (size_answer 1 (units 99) ≡ bytes 407)
    × (size_answer 1 (units 100) ≡ bytes 412)
unfolding units cut digits decimal literal_text clause_line clause_lines header text_of all well_cut is_list size_answer
clause-sizes = (refl, refl, refl, refl)

-- no clause at all
pub empty-text : text_of 1 [] ≡ bytes_of "p cnf 1 0\n"
unfolding cut digits decimal clause_lines header text_of
empty-text = refl
