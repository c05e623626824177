-- What the program `every` prints, call by call (document 02, Change 6): each case as it is found.
use Rattle.std.specs.Prelude.{Bool, true, false, cond, List, [], ℕ, leb, ℤ, length, take, Result, Ok, Err}
use Rattle.text.specs.Texts.{bytes_of, end_line}
use Rattle.sheet_rules.specs.Blocks.{sheet_of}
use Rattle.sheet_rules.specs.Reading.{reading}
use Rattle.clauses.specs.Answers as count
use Rattle.clauses.specs.Answers.{count_answer, write_answer, list_after}
use Rattle.search_rules.specs.declared.Position.{Position}
use Rattle.search.specs.Answers.{Answer, found, none, spent, refused}
use Rattle.search.specs.Resumed.{Resumption}
use Rattle.search.specs.Every.{Standing, left_by, next_call}
use Rattle.solve_rules.specs.Finding.{instance_for}
use Rattle.report.specs.Printed.{report, lines_of}
use Rattle.clauses.specs.declared.answer.Size.{Size}

-- the finder's number: 12 LIST, "more than 2^31 - 1 words", comes before 13
abbrev pub finder_number : count.Answer → ℕ → ℕ
finder_number (count.refused m) n = n
finder_number (count.fits v c w) n = cond (leb w 2147483647) n 12

-- what writing answers, with that number
abbrev pub as_finder : count.Answer → count.Answer → count.Answer
as_finder counted (count.refused n) = count.refused (finder_number counted n)
as_finder counted (count.fits v c w) = count.fits v c w

-- how a listing begins: "An input over 4,096 bytes is printed as `refused 2` unparsed."
unfoldable pub beginning : List ℕ → List ℤ → count.Answer
beginning input list = cond (leb (length input) 4096) (as_finder (count_answer input) (write_answer input list))
    (count.refused 2)

-- the list that is left
unfoldable pub list_begun : List ℕ → List ℤ → List ℤ
list_begun input list = cond (leb (length input) 4096) (list_after input list) list

-- a refusal is printed as the finder prints it; of cases nothing is printed yet
abbrev pub begun_text : count.Answer → List ℕ
begun_text (count.refused n) = end_line (bytes_of "refused ") n
begun_text (count.fits v c w) = []

-- what beginning answers: the bytes printed of a refusal, or the three numbers
abbrev pub begun_of : count.Answer → Result Size ℕ
begun_of (count.refused n) = Err (length (end_line (bytes_of "refused ") n))
begun_of (count.fits v c w) = Ok (record { variables = v; clauses = c; words = w })

abbrev pub bytes_in : Result Size ℕ → ℕ
bytes_in (Err bytes) = bytes
bytes_in (Ok size) = 0

-- where calls for the next stand
abbrev pub standing : List ℕ → List ℤ → Position → Standing
standing values trail position = record { values = values; trail = trail; position = position }

-- the last line is "none" or "spent": only after "found" a call for the next gives more
abbrev pub is_found : Answer → Bool
is_found (found steps) = true
is_found (none steps) = false
is_found (spent steps) = false
is_found (refused n) = false

-- what one call prints, whether there can be more, and what it leaves
pub record Shown : Type 0 where
  pub text : List ℕ
  pub more : Bool
  pub left : Standing
  pub instance : List ℕ

-- of a call: its answer as the finder prints one, after "found" with read-back of the first v values
abbrev pub shown_of : List ℕ → ℕ → List ℕ → Resumption → Shown
shown_of input v instance call =
    let answer = call.outcome.answer in
    let read = instance_for answer input (take v call.outcome.values) instance in
    let lines = lines_of (reading input) (sheet_of input) read in
    record { text = report answer lines; more = is_found answer; left = left_by call; instance = read }

-- of a call for the next over a list of clauses
unfoldable pub shown : List ℕ → List ℤ → ℕ → Standing → ℕ → List ℕ → Shown
shown input list v at budget instance = shown_of input v instance (next_call list v at budget)
