-- What `count` and `write` answer, and what `write` leaves (document 01, "Clauses" and "Answers that decline").
use Rattle.std.specs.Prelude.{cond, List, ◌++◌, ℕ, leb, ℤ, length, drop, Result, Ok, Err}
use Rattle.refusal.specs.declared.Refusal.{Refusal}
use Rattle.refusal.specs.Refusals.{number_of}
use Rattle.sheet_rules.specs.Blocks.{Sheet, sheet_of}
use Rattle.sheet_rules.specs.Reading as sheets
use Rattle.sheet_rules.specs.Reading.{reading}
use Rattle.clauses.specs.declared.answer.Size.{Size}
use Rattle.clauses_rules.specs.Whole.{words, variable_total, clause_total, word_total}

-- an answer in the paper's terms: "the number of variables, of clauses and of words", or the number of a refusal
pub data Answer : Type 0 where
  fits : ℕ → ℕ → ℕ → Answer
  refused : ℕ → Answer

abbrev pub answer_of : Result Size Refusal → Answer
answer_of (Ok size) = fits size.variables size.clauses size.words
answer_of (Err r) = refused (number_of r)

-- "counting 1 to 10": those of reading, then 10 SIZE, "more than 16,000 variables"
abbrev pub count_after : sheets.Answer → Sheet → Answer
count_after (sheets.refused n) sheet = refused n
count_after (sheets.accepted layout) sheet =
    cond (leb (variable_total sheet) 16000) (fits (variable_total sheet) (clause_total sheet) (word_total sheet)) (refused 10)

unfoldable pub count_answer : List ℕ → Answer
count_answer sheet = count_after (reading sheet) (sheet_of sheet)

-- "writing clauses 1 to 10 and 13": those of counting, then 13 SHORT, "a lent slice is too short"
abbrev pub write_after : Answer → ℕ → Answer
write_after (fits v c w) room = cond (leb w room) (fits v c w) (refused 13)
write_after (refused n) room = refused n

unfoldable pub write_answer : List ℕ → List ℤ → Answer
write_answer sheet list = write_after (count_answer sheet) (length list)

-- the lent list afterwards: the words of the clauses, and "Words after the list are unchanged."; a refusal changes nothing
abbrev pub list_by : Answer → List ℤ → List ℤ → List ℤ
list_by (fits v c w) ws list = ws ++ drop (length ws) list
list_by (refused n) ws list = list

unfoldable pub list_after : List ℕ → List ℤ → List ℤ
list_after sheet list = list_by (write_answer sheet list) (words (sheet_of sheet)) list
