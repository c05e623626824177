-- What the code of the marks takes for granted, and what it adds to the list.
-- No public contract reaches this file: nothing here needs belief.
use Rattle.std.specs.Prelude.{Bool, false, cond, List, [], ◌∷◌, ◌++◌, map, ℕ, ◌+◌, ◌≤◌, ◌<◌, ℤ, length}
use Rattle.literal.specs.Literals.{Literal, opposite}
use Rattle.sheet_rules.specs.Blocks.{Sheet, is_bounded, multiplicity, first_sort}
use Rattle.relational.specs.Cells.{is_set, row_count, row_length}
use Rattle.clauses_rules.specs.Gates.{Clause}
use Rattle.clauses_rules.specs.Translation.{Two}
use Rattle.clauses_rules.specs.Whole.{series, row_clauses, row_literals, member_literals, row_members, cell_members}
use Rattle.clauses_rules.specs.Whole.{cell_clauses}
use Rattle.clauses_emission.specs.declared.Tape.{Tape}
use Rattle.clauses_emission.specs.Emission.{AllInside, literals_of, Appends}

-- clauses and words so far
pub record Small (most : ℕ) (tape : Tape) : Type 0 where
  pub clauses : tape.clauses ≤ most
  pub words : tape.words ≤ most

-- literals of a row
pub record Members (most : ℕ) (ws : List ℤ) : Type 0 where
  pub few : length ws ≤ most
  pub inside : AllInside 16002 (literals_of ws)

pub record Some (ws : List ℤ) : Type 0 where
  pub some : 1 ≤ length ws

-- these clauses were written after what was there, and they are few
pub record Adds (most : ℕ) (clauses : List Clause) (old : List ℤ) (before : Tape) (new : List ℤ) (after : Tape) : Type 0 where
  pub appends : Appends clauses old before new after
  pub few_clauses : after.clauses ≤ before.clauses + most
  pub few_words : after.words ≤ before.words + most

-- row i of relation r, and its literals
pub record RowOf (r i : ℕ) (row : List ℤ) : Type 0 where
  pub relation : r < 256
  pub atom : i < 8
  pub members : Members 8 row
  pub some : Some row

-- the pairs with one first member
abbrev pub pairs_with : Literal → List Literal → List Two
pairs_with p qs = map {B = Two} (λ q. (p, q)) qs

-- the whole row, from its member on where there is one
abbrev pub is_guarded : Sheet → ℕ → Bool
is_guarded sheet r = cond (is_set sheet r) false (is_bounded sheet (first_sort sheet r))

abbrev pub row_clause : Sheet → List Literal → ℕ → ℕ → List Literal → List Clause
row_clause sheet cells r i row = (map opposite (row_members sheet cells r i) ++ row) ∷ []

-- a row of a relation, and all rows of it
abbrev pub row_marks : Sheet → List Literal → ℕ → ℕ → List Clause
row_marks sheet cells r i = row_clauses (multiplicity sheet r) (row_members sheet cells r i) (row_literals sheet cells r i)

abbrev pub relation_clauses : Sheet → List Literal → ℕ → List Clause
relation_clauses sheet cells r = series (row_count sheet r) (row_marks sheet cells r)

-- (-cell, member): of an atom, of a cell's columns, of a row, of a relation
abbrev pub member_clause : Literal → Literal → Clause
member_clause l m = opposite l ∷ m ∷ []

abbrev pub atom_clauses : Sheet → List Literal → Literal → ℕ → ℕ → List Clause
atom_clauses sheet cells l k i = map (member_clause l) (member_literals sheet cells k i)

abbrev pub column_clauses : Sheet → List Literal → Literal → ℕ → ℕ → ℕ → List Clause
column_clauses sheet cells l r i j = map (member_clause l) (cell_members sheet cells r i j)

abbrev pub row_inside : Sheet → List Literal → ℕ → ℕ → List Clause
row_inside sheet cells r i = series (row_length sheet r) (cell_clauses sheet cells r i)

abbrev pub relation_inside : Sheet → List Literal → ℕ → List Clause
relation_inside sheet cells r = series (row_count sheet r) (row_inside sheet cells r)
