-- Matrices of literals in an array of 64 words, and what the code makes of them, step by step.
-- No public contract reaches this file: nothing here needs belief.
use Rattle.std.specs.Prelude.{◌≡◌, List, map, ℕ, ◌+◌, ◌*◌, ◌≤◌, ◌<◌, ℤ, pos, negsuc, length, get_or, take}
use Rattle.literal.specs.Literals.{Literal}
use Rattle.relational.specs.Matrices.{upto, Matrix, same_size, matched}
use Rattle.clauses_rules.specs.Builder.{Built, Builder, ◌>>=◌, ◌<$>◌, each}
use Rattle.clauses_rules.specs.Gates.{or, and}
use Rattle.clauses_rules.specs.Translation.{Two, absent, both}
use Rattle.clauses_emission.specs.declared.Tape.{Tape}
use Rattle.clauses_emission.specs.declared.Pairing.{Pairing}
use Rattle.clauses_emission.specs.Emission.{AllInside, literals_of, Emits, EmitsLiteral, pairing}
use Rattle.nodes.specs.declared.matrix.Matrix as held

-- n cells, then -1s
pub record Cells (size : ℕ) (n : ℕ) (ws : List ℤ) : Type 0 where
  pub room : length ws ≡ 64
  pub small : size ≤ 64
  pub rest : (k : ℕ) → size ≤ k → k < 64 → get_or ws k (pos 0) ≡ negsuc 0
  pub inside : AllInside n (literals_of ws)

-- words, cell by cell
abbrev pub Literals : Type 0
Literals = held.Matrix ℤ

-- the matrix that stands in the first rows times columns words
abbrev pub cells_of : ℕ → List ℤ → List Literal
cells_of size ws = literals_of (take size ws)

abbrev pub matrix_of : Literals → Matrix Literal
matrix_of m = record { arity = m.arity; rows = m.rows; columns = m.columns; cells = cells_of (m.rows * m.columns) m.cells }

-- its sizes, and the range of its literals
pub record Operand (n : ℕ) (m : Literals) : Type 0 where
  pub arity_low : 1 ≤ m.arity
  pub arity_high : m.arity ≤ 2
  pub set : m.arity ≡ 1 → m.rows ≡ 1
  pub rows : m.rows ≤ 8
  pub columns : m.columns ≤ 8
  pub cells : Cells (m.rows * m.columns) n m.cells

-- ---- steps that give the cells of a matrix, a matrix
abbrev pub EmitsCells : ℕ → Built (List Literal) → List ℤ → Tape → List ℤ → List ℤ → Tape → Type 0
EmitsCells size built old before ws new after = Emits built old before (cells_of size ws) new after (λ n. Cells size n ws)

abbrev pub EmitsMatrix : Built (Matrix Literal) → List ℤ → Tape → Literals → List ℤ → Tape → Type 0
EmitsMatrix built old before m new after = Emits built old before (matrix_of m) new after (λ n. Operand n m)

-- the same of a step over two matrices, over one
abbrev pub EmitsBinary : (Matrix Literal → Matrix Literal → Builder (Matrix Literal)) → Literals → Literals
    → List ℤ → Tape → Literals → List ℤ → Tape → Type 0
EmitsBinary step p q old before = EmitsMatrix (step (matrix_of p) (matrix_of q) before.next) old before

abbrev pub EmitsUnary : (Matrix Literal → Builder (Matrix Literal)) → Literals → List ℤ → Tape → Literals → List ℤ → Tape → Type 0
EmitsUnary step p old before = EmitsMatrix (step (matrix_of p) before.next) old before

abbrev pub EmitsTest : (List Literal → Builder Literal) → Literals → List ℤ → Tape → ℤ → List ℤ → Tape → Type 0
EmitsTest step p old before = EmitsLiteral (step (matrix_of p).cells before.next) old before

-- cell by cell: union, intersection, difference; equal, within
abbrev pub paired : Pairing → Matrix Literal → Matrix Literal → Builder (List Literal)
paired kind p q = each (pairing kind) (matched absent p q)

abbrev pub paired_matrix : Pairing → Matrix Literal → Matrix Literal → Builder (Matrix Literal)
paired_matrix kind p q = same_size p <$> paired kind p q

abbrev pub compared : Pairing → Matrix Literal → Matrix Literal → Builder Literal
compared kind p q = paired kind p q >>= and

-- one cell of a join, from what meets at its middle atoms
abbrev pub join_cell : List Two → Builder Literal
join_cell met = each both met >>= or

-- what meets at middle atom k: of a row, and of column j of a matrix of so many columns
abbrev pub middle_at : List Literal → List Literal → ℕ → ℕ → ℕ → Two
middle_at row cells columns j k = (get_or row k absent, get_or cells (k * columns + j) absent)

-- the middles of a row and a column
abbrev pub row_middles : List Literal → List Literal → ℕ → ℕ → List Two
row_middles row cells columns j = map (middle_at row cells columns j) (upto (length row))

-- words that are a row, and those of a matrix of so many columns, of which j is one
pub record RowAndColumn (n : ℕ) (row cells : List ℤ) (columns j : ℕ) : Type 0 where
  pub few : length row ≤ 8
  pub room : length cells ≡ 64
  pub narrow : columns ≤ 8
  pub column : j < columns
  pub row_inside : AllInside n (literals_of row)
  pub cells_inside_ok : AllInside n (literals_of cells)
