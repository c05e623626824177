-- The clauses of a sheet as a whole: members, marks, order, words, and the three numbers (document 01, "Clauses").
use Rattle.std.specs.Prelude.{cond, List, [], ◌∷◌, ◌++◌, map, ℕ, zero, suc, pred, ◌+◌, ℤ, length, take, drop}
use Rattle.literal.specs.Literals.{Literal, positive, opposite, word_of}
use Rattle.clause_list.specs.ClauseList.{words_of}
use Rattle.sheet_rules.specs.Blocks.{Sheet, is_bounded, relation_count, multiplicity, first_sort, second_sort}
use Rattle.relational.specs.Trees.{root_tree}
use Rattle.relational.specs.Cells.{is_set, row_count, row_length, member_cell, cell_count, cell}
use Rattle.relational.specs.Matrices.{from, upto, pairs}
use Rattle.clauses_rules.specs.Builder.{Built}
use Rattle.clauses_rules.specs.Gates.{Clause, gates_clauses}
use Rattle.clauses_rules.specs.Translation.{Two, literal_at, translate_tree}

-- what f gives for 0, for 1, and so on to n - 1, one after the other
unfoldable pub series : {A : Type 0} → ℕ → (ℕ → List A) → List A
series zero f = []
series (suc n) f = series n f ++ f n

-- "(-p, -q) for each pair in order, then for mark 2 the whole row"
abbrev pub pair_clause : Two → Clause
pair_clause t = opposite t.0 ∷ opposite t.1 ∷ []

-- (document 02, Change 8: "its row clause starts with the opposite of the row's member", if it has one)
abbrev pub row_clauses : ℕ → List Literal → List Literal → List Clause
row_clauses zero members row = []
row_clauses (suc zero) members row = map pair_clause (pairs row)
row_clauses (suc (suc m)) members row = map pair_clause (pairs row) ++ ((map opposite members ++ row) ∷ [])

-- "the marks, relation by relation, row by row", and the clauses of members, over the literals of the cells
module _ (sheet : Sheet) (cells : List Literal) where
  abbrev pub row_literals : ℕ → ℕ → List Literal
  row_literals r i = map (literal_at sheet cells) (from (cell sheet r i 0) (row_length sheet r))

  -- the membership literal of atom i of sort k, where the sort is bounded
  abbrev pub member_literals : ℕ → ℕ → List Literal
  member_literals k i = cond (is_bounded sheet k) (literal_at sheet cells (member_cell sheet k i) ∷ []) []

  -- "Mark 2 on a relation of two columns with a limited first sort binds only rows of members"; not so a set's row
  abbrev pub row_members : ℕ → ℕ → List Literal
  row_members r i = cond (is_set sheet r) [] (member_literals (first_sort sheet r) i)

  unfoldable pub mark_clauses : List Clause
  mark_clauses =
      series (relation_count sheet) λ r. series (row_count sheet r) λ i.
      row_clauses (multiplicity sheet r) (row_members r i) (row_literals r i)

  -- "a clause (-cell, member) for each relation cell and each of its columns over a limited sort, first column first"
  abbrev pub cell_members : ℕ → ℕ → ℕ → List Literal
  cell_members r i j =
      cond (is_set sheet r) (member_literals (first_sort sheet r) j)
      (member_literals (first_sort sheet r) i ++ member_literals (second_sort sheet r) j)

  abbrev pub cell_clauses : ℕ → ℕ → ℕ → List Clause
  cell_clauses r i j = map (λ m. opposite (literal_at sheet cells (cell sheet r i j)) ∷ m ∷ []) (cell_members r i j)

  unfoldable pub member_clauses : List Clause
  member_clauses =
      series (relation_count sheet) λ r. series (row_count sheet r) λ i. series (row_length sheet r) (cell_clauses r i)

module _ (sheet : Sheet) where
  -- "Variable 1 is the constant true. Cells come next: relation by relation, row by row, column by column. So the variable of a
  -- cell is 2, plus all cells of earlier relations, plus row times the cells in one row, plus column"
  abbrev pub cell_literals : List Literal
  cell_literals = map (λ (i : ℕ). positive (2 + i)) (upto (cell_count sheet))

  -- "the root's walk", after the variables of the cells
  abbrev pub first_gate : ℕ
  first_gate = 2 + cell_count sheet

  unfoldable pub root_walk : Built Literal
  root_walk = translate_tree sheet cell_literals (root_tree sheet) first_gate

  -- "Order: the clause (1); the marks ..; the root's walk; the root's literal alone."; members "ahead of the marks"
  unfoldable pub clauses : List Clause
  clauses =
      (positive 1 ∷ []) ∷
      (member_clauses sheet cell_literals
      ++ (mark_clauses sheet cell_literals ++ (gates_clauses first_gate root_walk.gates ++ ((root_walk.value ∷ []) ∷ []))))

  -- "The list lies in a lent slice of 32-bit words, each clause headed by its literal count."
  unfoldable pub words : List ℤ
  words = words_of (map (map word_of) clauses)

  -- "Counting and writing both answer the number of variables, of clauses and of words."
  unfoldable pub variable_total : ℕ
  variable_total = pred root_walk.next

  abbrev pub clause_total : ℕ
  clause_total = length clauses

  abbrev pub word_total : ℕ
  word_total = length words

  -- "An instance is one byte for each cell, in variable order; read-back copies the cells' values there."
  abbrev pub read_back : List ℕ → List ℕ
  read_back values = take (cell_count sheet) (drop 1 values)
