-- Lines of relations, as the code puts them.
-- No public contract reaches this file: nothing here needs belief.
use Rattle.std.specs.Prelude.{List, [], ◌∷◌, ◌++◌, ℕ, ◌+◌, ◌*◌}
use Rattle.text.specs.Texts.{decimal}
use Rattle.sheet_rules.specs.Blocks.{byte}
use Rattle.clauses_rules.specs.Whole.{series}
use Rattle.report.specs.Printed.{cell_digit}

-- a space and the digits of n cells from a cell on
unfoldable pub row_from : List ℕ → ℕ → ℕ → List ℕ
row_from instance first n = 32 ∷ series n λ j. cell_digit (byte instance (first + j)) ∷ []

-- a line of rows from a cell on, with a letter and a number
unfoldable pub line_from : ℕ → List ℕ → ℕ → ℕ → ℕ → ℕ → List ℕ
line_from letter instance number first rows columns =
    letter ∷ (decimal number ++ (series rows (λ i. row_from instance (first + i * columns) columns) ++ (10 ∷ [])))
