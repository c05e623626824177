-- The matrices of leaves.
-- No public contract reaches this file: nothing here needs belief.
use Rattle.std.specs.Prelude.{◌≡◌, false, cond, List, map, ℕ, ◌+◌, ◌≤◌, ◌<◌, eqb, ℤ, pos, negsuc, length, get_or}
use Rattle.literal.specs.Literals.{Literal}
use Rattle.literal.specs.Words.{literal_of}
use Rattle.sheet_rules.specs.Blocks.{Sheet}
use Rattle.relational.specs.declared.Leaf.{Leaf}
use Rattle.relational.specs.Meaning.{Environment}
use Rattle.relational.specs.Matrices.{upto, Place, places, Matrix, set_of, relation_of, leaf_matrix}
use Rattle.clauses_rules.specs.Translation.{constant, absent, literal_at}
use Rattle.clauses_emission.specs.declared.Tape.{Tape}
use Rattle.clauses_emission.specs.Emission.{AllInside, literals_of, Bounded}
use Rattle.clauses_matrix.specs.Matrices.{Literals, matrix_of, Operand}

-- the literals of the cells, from the first on
abbrev pub cell_from : List ℤ → ℕ → ℕ → Literal
cell_from given first k = get_or (literals_of given) (first + k) absent

-- a matrix is that of a leaf
pub record LeafIs (sheet : Sheet) (given : List ℤ) (l : Leaf) (a : ℕ) (env : Environment) (m : Literals) : Type 0 where
  pub matrix : matrix_of m ≡ leaf_matrix sheet (literal_at sheet (literals_of given)) constant l a env
  pub room : length m.cells ≡ 64
  pub fine : (n : ℕ) → AllInside n (literals_of given) → Operand n m

-- a matrix of constants
pub record Constants (matrix : Matrix Literal) (m : Literals) : Type 0 where
  pub is : matrix_of m ≡ matrix
  pub fine : (n : ℕ) → 2 ≤ n → Operand n m

-- the identity on the atoms of a set
pub record Diagonal (p m : Literals) : Type 0 where
  pub is : (n : ℕ) (f : ℕ → Literal) → matrix_of p ≡ set_of n (map f (upto n))
      → matrix_of m
      ≡ relation_of n n (map (λ (t : Place). cond (eqb t.0 t.1) (f t.0) (constant false)) (places n n))
  pub room : length m.cells ≡ 64
  pub fine : (k : ℕ) → 2 ≤ k → Operand k p → Operand k m

-- the bodies of a binder were walked
pub record Bodies (given : List ℤ) (p : Literals) (tape : Tape) : Type 0 where
  pub bounded : Bounded tape
  pub fine : Operand tape.next p
  pub inside : AllInside tape.next (literals_of given)

-- the first k words are the literals that f gives, the others -1
pub record Filled (f : ℕ → Literal) (k : ℕ) (ws : List ℤ) : Type 0 where
  pub room : length ws ≡ 64
  pub done : (i : ℕ) → i < k → literal_of (get_or ws i (pos 0)) ≡ f i
  pub rest : (i : ℕ) → k ≤ i → i < 64 → get_or ws i (pos 0) ≡ negsuc 0

-- one row of n cells
abbrev pub row_matrix : ℕ → List ℤ → Literals
row_matrix n ws = record { arity = 1; rows = 1; columns = n; cells = ws }
