-- What `size` and `write` answer, and what `write` leaves (document 01, "Answers that decline": clause text takes 12 and 13; document 02, Change 4).
use Rattle.std.specs.Prelude.{◌&&◌, cond, List, ◌++◌, ℕ, leb, ℤ, length, drop, Result, Ok, Err}
use Rattle.refusal.specs.declared.Refusal.{Refusal}
use Rattle.refusal.specs.Refusals.{number_of}
use Rattle.clause_list.specs.ClauseList.{is_list}
use Rattle.dimacs.specs.Text.{text_of}

-- an answer in the paper's terms: a number of bytes, or the number of a refusal
pub data Answer : Type 0 where
  bytes refused : ℕ → Answer

abbrev pub answer_of : Result ℕ Refusal → Answer
answer_of (Ok n) = bytes n
answer_of (Err r) = refused (number_of r)

-- "The sizing call now gives the text's exact length"; it takes 12 only
unfoldable pub size_answer : ℕ → List ℤ → Answer
size_answer v ws = cond (is_list v ws) (bytes (length (text_of v ws))) (refused 12)

-- "13 is given for clause text exactly when the slice is shorter than that", after 12; "and the text call answers the bytes written"
unfoldable pub write_answer : ℕ → List ℤ → List ℕ → Answer
write_answer v ws text =
    cond (is_list v ws) (cond (leb (length (text_of v ws)) (length text)) (bytes (length (text_of v ws))) (refused 13)) (refused 12)

-- the lent slice afterwards: the text, then the bytes that were there; a refusal changes nothing
unfoldable pub text_after : ℕ → List ℤ → List ℕ → List ℕ
text_after v ws text =
    cond (is_list v ws && leb (length (text_of v ws)) (length text)) (text_of v ws ++ drop (length (text_of v ws)) text) text
