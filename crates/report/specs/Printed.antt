-- What the finder prints (document 01, "The finder program").
use Rattle.std.specs.Prelude.{cond, List, [], ◌∷◌, ◌++◌, ℕ, eqb, leb, length}
use Rattle.text.specs.Texts.{bytes_of, digit, decimal, end_line}
use Rattle.sheet_rules.specs.Blocks.{Sheet, sheet_of, byte, sort_count, scope, is_bounded, relation_count}
use Rattle.sheet_rules.specs.Reading as sheets
use Rattle.relational.specs.Cells.{member_cell, row_count, row_length, cell}
use Rattle.clauses_rules.specs.Whole.{series}
use Rattle.search_rules.specs.Run.{total}
use Rattle.search.specs.Answers.{Answer, found, none, spent, refused}
use Rattle.solve_rules.specs.Finding.{Slices, finding}

-- a cell is 0 or 1
abbrev pub cell_digit : ℕ → ℕ
cell_digit b = cond (eqb b 0) (digit 0) (digit 1)

module _ (sheet : Sheet) (instance : List ℕ) where
  -- "its rows as digits"
  abbrev pub row_digits : ℕ → ℕ → List ℕ
  row_digits r i = series (row_length sheet r) λ j. cell_digit (byte instance (cell sheet r i j)) ∷ []

  -- "`r`, its number, then its rows as digits, separated by single spaces"
  abbrev pub relation_line : ℕ → List ℕ
  relation_line r =
      bytes_of "r" ++ (decimal r ++ (series (row_count sheet r) (λ i. bytes_of " " ++ row_digits r i) ++ bytes_of "\n"))

  -- "a line for each relation"
  unfoldable pub relation_lines : List ℕ
  relation_lines = series (relation_count sheet) relation_line

  -- "the finder prints them as lines `s`, the sort's number and the digits, before the relations" (Change 8)
  abbrev pub member_digits : ℕ → List ℕ
  member_digits k = series (scope sheet k) λ i. cell_digit (byte instance (member_cell sheet k i)) ∷ []

  abbrev pub member_line : ℕ → List ℕ
  member_line k =
      cond (is_bounded sheet k) (bytes_of "s" ++ (decimal k ++ ((bytes_of " " ++ member_digits k) ++ bytes_of "\n"))) []

  unfoldable pub member_lines : List ℕ
  member_lines = series (sort_count sheet) member_line

  abbrev pub instance_lines : List ℕ
  instance_lines = member_lines ++ relation_lines

-- "It prints `found N`, `none N` or `spent N` (N steps), or `refused N`. After found comes a line for each relation";
-- "the finder prints their sum, the old step figure" (document 02, Change 3)
abbrev pub report : Answer → List ℕ → List ℕ
report (found steps) lines = end_line (bytes_of "found ") (total steps) ++ lines
report (none steps) lines = end_line (bytes_of "none ") (total steps)
report (spent steps) lines = end_line (bytes_of "spent ") (total steps)
report (refused n) lines = end_line (bytes_of "refused ") n

-- any input has lines of an instance where it is an accepted sheet (one that is answered "found" is)
abbrev pub lines_of : sheets.Answer → Sheet → List ℕ → List ℕ
lines_of (sheets.accepted layout) sheet instance = instance_lines sheet instance
lines_of (sheets.refused n) sheet instance = []

-- "a budget of 1,000,000"
abbrev pub finder_budget : ℕ
finder_budget = 1000000

-- what is printed of a finding within a budget: "An input over 4,096 bytes is printed as `refused 2` unparsed." The
-- case printed is the smallest (document 02, Change 5): `Tells` says so of this text, and every function that prints it
-- ensures `Tells`.
unfoldable pub finding_text : ℕ → List ℕ → Slices → List ℕ
finding_text budget input lent =
    let f = finding input lent budget in
    cond (leb (length input) 4096) (report f.answer (instance_lines (sheet_of input) f.left.instance))
    (end_line (bytes_of "refused ") 2)

-- the slices that are left
unfoldable pub slices_after : ℕ → List ℕ → Slices → Slices
slices_after budget input lent = cond (leb (length input) 4096) (finding input lent budget).left lent
