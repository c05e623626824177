-- What a value of the code stands for: a matrix of flags (relational, specs/Matrices), in an array of 64.
-- No public contract reaches this file: nothing here needs belief.
use Rattle.std.specs.Prelude.{◌≡◌, ◌⊎◌, Bool, false, List, map, ℕ, ◌*◌, ◌≤◌, eqb, length, get_or, take}
use Rattle.sheet_rules.specs.Blocks.{byte}
use Rattle.relational.specs.Matrices.{Matrix, from}
use Rattle.nodes.specs.declared.matrix.Matrix as held

-- flags, cell by cell
abbrev pub Value : Type 0
Value = held.Matrix Bool

-- the first rows * columns cells are the matrix
abbrev pub matrix_of : Value → Matrix Bool
matrix_of v = record { arity = v.arity; rows = v.rows; columns = v.columns; cells = take (v.rows * v.columns) v.cells }

abbrev pub sized : ℕ → ℕ → ℕ → List Bool → Matrix Bool
sized arity rows columns cells = record { arity = arity; rows = rows; columns = columns; cells = cells }

-- the bytes of an instance that are 1, from a cell on
abbrev pub flags_from : List ℕ → ℕ → ℕ → List Bool
flags_from instance first n = map (λ (i : ℕ). eqb (byte instance i) 1) (from first n)

-- a set is a single row
abbrev pub SetOrRelation : ℕ → ℕ → Type 0
SetOrRelation arity rows = ((arity ≡ 1) × (rows ≡ 1)) ⊎ (arity ≡ 2)

-- scopes are at most 8; what lies past the matrix is false
pub record Fine (v : Value) : Type 0 where
  pub few_rows : v.rows ≤ 8
  pub few_columns : v.columns ≤ 8
  pub set_or_relation : SetOrRelation v.arity v.rows
  pub long : length v.cells ≡ 64
  pub rest : (k : ℕ) → v.rows * v.columns ≤ k → get_or v.cells k false ≡ false

-- a value stands for a matrix
pub record Gives (v : Value) (m : Matrix Bool) : Type 0 where
  pub fine : Fine v
  pub is : matrix_of v ≡ m
