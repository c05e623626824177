-- The answers of the library's functions as the boundary gives them: in numbers, the number of a refusal first.
use Rattle.std.specs.Prelude.{◌≡◌, List, ℕ}
use Rattle.sheet_rules.specs.Reading as sheets
use Rattle.instance.specs.Answers as checked
use Rattle.clauses.specs.Answers as counted
use Rattle.dimacs.specs.Answers as text
use Rattle.search_rules.specs.declared.Steps.{Steps}
use Rattle.search.specs.Answers as searched
use Rattle.solve_rules.specs.Answers as back
use Rattle.solve_rules.specs.Finding.{Slices}
use Rattle.solve_rules.specs.Finds.{Finds}
use Rattle.boundary.specs.declared.answer.CheckAnswer.{CheckAnswer}
use Rattle.boundary.specs.declared.answer.CountAnswer.{CountAnswer}
use Rattle.boundary.specs.declared.answer.SearchAnswer.{SearchAnswer}
use Rattle.boundary.specs.declared.answer.ReadBackAnswer.{ReadBackAnswer}
use Rattle.boundary.specs.declared.answer.TextAnswer.{TextAnswer}

-- reading
abbrev pub read_number : sheets.Answer → ℕ
read_number (sheets.accepted layout) = 0
read_number (sheets.refused n) = n

-- the check of an instance
abbrev pub check_numbers : checked.Answer → CheckAnswer
check_numbers checked.yes = record { refusal = 0; satisfies = 1 }
check_numbers checked.no = record { refusal = 0; satisfies = 0 }
check_numbers (checked.refused n) = record { refusal = n; satisfies = 0 }

-- what the numbers mean: they are those of the answer that the check must give
pub record Checked (sheet instance : List ℕ) (numbers : CheckAnswer) : Type 0 where
  pub answer : checked.Answer
  pub answers : checked.CheckAnswers sheet instance answer
  pub in_numbers : numbers ≡ check_numbers answer

-- counting and writing
abbrev pub count_numbers : counted.Answer → CountAnswer
count_numbers (counted.fits v c w) = record { refusal = 0; variables = v; clauses = c; words = w }
count_numbers (counted.refused n) = record { refusal = n; variables = 0; clauses = 0; words = 0 }

-- the search, and the whole run
abbrev pub end_numbers : ℕ → Steps → SearchAnswer
end_numbers end t =
    record {
      refusal = 0;
      end = end;
      propagations = t.propagations;
      decisions = t.decisions;
      backtracks = t.backtracks;
    }

abbrev pub search_numbers : searched.Answer → SearchAnswer
search_numbers (searched.found steps) = end_numbers 1 steps
search_numbers (searched.none steps) = end_numbers 2 steps
search_numbers (searched.spent steps) = end_numbers 3 steps
search_numbers (searched.refused n) = record { refusal = n; end = 0; propagations = 0; decisions = 0; backtracks = 0 }

-- what the numbers of the whole run mean: they are those of an answer of which `Finds` holds
pub record FindsNumbers (s : List ℕ) (lent : Slices) (budget : ℕ) (numbers : SearchAnswer) (left : Slices)
    : Type 0 where
  pub answer : searched.Answer
  pub finds : Finds s lent budget answer left
  pub in_numbers : numbers ≡ search_numbers answer

-- clause text and its size
abbrev pub text_numbers : text.Answer → TextAnswer
text_numbers (text.bytes n) = record { refusal = 0; bytes = n }
text_numbers (text.refused n) = record { refusal = n; bytes = 0 }

-- read-back
abbrev pub copy_numbers : back.Answer → ReadBackAnswer
copy_numbers (back.copied n) = record { refusal = 0; cells = n }
copy_numbers (back.refused n) = record { refusal = n; cells = 0 }
