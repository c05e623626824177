-- Matrices of cells, and the size of what each operator gives. The cells are flags in the check of an instance and literals in the
-- clauses: what both have in common stands here, for any type of cells with a neutral one (false, the literal -1).
-- Document 01: "An expression is a set of sort S or a relation from S to T; matrices have rows and columns by atom."
use Rattle.std.specs.Prelude.{Bool, true, false, cond, List, [], ◌∷◌, ◌++◌, map, ℕ, zero, suc, ◌+◌, ◌*◌, ◌^◌, eqb, leb, get_or}
use Rattle.sheet_rules.specs.Blocks.{Sheet, scope, is_bounded, sort_of, columns}
use Rattle.relational.specs.declared.Leaf.{Leaf}
use Rattle.relational.specs.declared.Leaf.TheVariants.{Relation as relation, Variable as variable, Atoms as atoms}
use Rattle.relational.specs.declared.Leaf.TheVariants.{Identity as identity}
use Rattle.relational.specs.Cells.{row_count, row_length, cells_of, member_cell, first_cell}
use Rattle.relational.specs.Meaning.{Environment}

-- ---- numbers and places in order
-- n numbers, from s on
abbrev pub from : ℕ → ℕ → List ℕ
from s zero = []
from s (suc n) = s ∷ from (suc s) n

abbrev pub upto : ℕ → List ℕ
upto n = from 0 n

-- a row and a column
abbrev pub Place : Type 0
Place = ℕ × ℕ

-- "in row order": the places of r rows of c columns, from row i on
abbrev pub places_from : ℕ → ℕ → ℕ → List Place
places_from i zero c = []
places_from i (suc r) c = map {B = Place} (λ j. (i, j)) (upto c) ++ places_from (suc i) r c

abbrev pub places : ℕ → ℕ → List Place
places r c = places_from 0 r c

-- the first number from k on that passes a test, if it is one of the first n
abbrev pub least_from : (ℕ → Bool) → ℕ → ℕ → ℕ
least_from test k zero = k
least_from test k (suc n) = elim (test k) [ true ↦ k | false ↦ least_from test (suc k) n ]

-- "as many rounds as the least k with 2^k at least n"
unfoldable pub rounds : ℕ → ℕ
rounds n = least_from (λ k. leb n (2 ^ k)) 0 n

-- the pairs of a list's elements, in order
abbrev pub pairs : {A : Type 0} → List A → List (A × A)
pairs [] = []
pairs {A} (x ∷ xs) = map {B = A × A} (λ y. (x, y)) xs ++ pairs xs

-- ---- matrices: arity 1 is a set (one row), arity 2 a relation; cells in row order
pub record Matrix (A : Type 0) : Type 0 where
  pub arity : ℕ
  pub rows : ℕ
  pub columns : ℕ
  pub cells : List A

module _ {A : Type 0} where
  abbrev pub set_of : ℕ → List A → Matrix A
  set_of n cells = record { arity = 1; rows = 1; columns = n; cells = cells }

  abbrev pub relation_of : ℕ → ℕ → List A → Matrix A
  relation_of r c cells = record { arity = 2; rows = r; columns = c; cells = cells }

  -- the leaves, from the literal or flag of each cell and of a constant
  module _ (sheet : Sheet) (given : ℕ → A) (constant : Bool → A) where
    -- atom i of sort k, of a bounded one its membership cell: "Kinds 3 and 4, and all binders, take members only"
    abbrev pub member : ℕ → ℕ → A
    member k i = cond (is_bounded sheet k) (given (member_cell sheet k i)) (constant true)

    abbrev pub leaf_matrix : Leaf → ℕ → Environment → Matrix A
    leaf_matrix relation r env =
        record {
          arity = columns sheet r;
          rows = row_count sheet r;
          columns = row_length sheet r;
          cells = map given (from (first_cell sheet r) (cells_of sheet r));
        }
    leaf_matrix variable x env =
        set_of (scope sheet (sort_of sheet x)) (map (λ (i : ℕ). constant (eqb i (env x))) (upto (scope sheet (sort_of sheet x))))
    leaf_matrix atoms k env = set_of (scope sheet k) (map (member k) (upto (scope sheet k)))
    leaf_matrix identity k env =
        relation_of (scope sheet k) (scope sheet k)
        (map (λ (t : Place). cond (eqb t.0 t.1) (member k t.0) (constant false))
        (places (scope sheet k) (scope sheet k)))

  -- ---- sizes of results
  -- union, intersection, difference, closure: those of p
  abbrev pub same_size : Matrix A → List A → Matrix A
  same_size p cells = record { arity = p.arity; rows = p.rows; columns = p.columns; cells = cells }

  abbrev pub size : Matrix A → ℕ
  size p = p.rows * p.columns

  -- join: a set on the left is a row, on the right a column; the result is a set unless both are relations
  abbrev pub join_columns : Matrix A → ℕ
  join_columns q = cond (eqb q.arity 1) 1 q.columns

  abbrev pub join_places : Matrix A → Matrix A → List Place
  join_places p q = places p.rows (join_columns q)

  abbrev pub join_size : Matrix A → Matrix A → List A → Matrix A
  join_size p q cells =
      cond (eqb (p.arity + q.arity) 4) (relation_of p.rows (join_columns q) cells) (set_of (p.rows * join_columns q) cells)

  -- product of two sets
  abbrev pub product_places : Matrix A → Matrix A → List Place
  product_places p q = places p.columns q.columns

  abbrev pub product_size : Matrix A → Matrix A → List A → Matrix A
  product_size p q cells = relation_of p.columns q.columns cells

  -- ---- the operands' cells that make a cell of the result
  module _ (neutral : A) where
    abbrev pub cell_at : Matrix A → ℕ → A
    cell_at p k = get_or p.cells k neutral

    -- the cells at the same place, place by place
    abbrev pub matched : Matrix A → Matrix A → List (A × A)
    matched p q = map {B = A × A} (λ (k : ℕ). (cell_at p k, cell_at q k)) (upto (size p))

    -- "join OR over the middle atoms of AND": row i of p with column j of q, by middle atom
    abbrev pub middles : Matrix A → Matrix A → Place → List (A × A)
    middles p q t = map {B = A × A} (λ (k : ℕ). (cell_at p (t.0 * p.columns + k), cell_at q (k * join_columns q + t.1))) (upto p.columns)

    -- product: atom i of p with atom j of q
    abbrev pub crossed : Matrix A → Matrix A → List (A × A)
    crossed p q = map {B = A × A} (λ (t : Place). (cell_at p t.0, cell_at q t.1)) (product_places p q)

    -- "Inverse transposes its operand's cells."
    abbrev pub inverted : Matrix A → Matrix A
    inverted p =
        relation_of p.columns p.rows
        (map (λ (t : Place). cell_at p (t.1 * p.columns + t.0)) (places p.columns p.rows))
