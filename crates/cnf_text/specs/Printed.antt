-- What the program `cnf` prints: the clause text of a sheet, or `refused N` as the finder prints it (document 01, "The finder program").
use Rattle.std.specs.Prelude.{cond, List, ℕ, leb, ℤ, length}
use Rattle.text.specs.Texts.{bytes_of, end_line}
use Rattle.sheet_rules.specs.Blocks.{Sheet, sheet_of}
use Rattle.clauses_rules.specs.Whole.{words}
use Rattle.clauses.specs.Answers.{Answer, fits, refused, write_answer, list_after}
use Rattle.dimacs.specs.Text.{text_of}

-- the clause text of a sheet, or `refused N`
abbrev pub text_as : Answer → Sheet → List ℕ
text_as (fits v c w) sheet = text_of v (words sheet)
text_as (refused n) sheet = end_line (bytes_of "refused ") n

-- the text with a list to write the clauses to: "An input over 4,096 bytes is printed as `refused 2` unparsed."
unfoldable pub clause_text : List ℕ → List ℤ → List ℕ
clause_text input list =
    cond (leb (length input) 4096) (text_as (write_answer input list) (sheet_of input)) (end_line (bytes_of "refused ") 2)

-- the list that `cnf` leaves
unfoldable pub list_left : List ℕ → List ℤ → List ℤ
list_left input list = cond (leb (length input) 4096) (list_after input list) list
