-- The members of rows and cells, by sort.
use mathlib.Core.Path.{◌≡◌, refl, sym}
use mathlib.Core.Bool.{Bool, true, false, cond, false≢true}
use mathlib.Core.List.{List, [], ◌∷◌, ◌++◌, map, map-append}
use Prim.Native.Nat.{ℕ}
use Rattle.literal.specs.Literals.{Literal, opposite}
use Rattle.sheet_rules.specs.Blocks.{Sheet, is_bounded, columns, first_sort, second_sort}
use Rattle.relational.specs.Cells.{is_set, member_cell}
use Rattle.cells.proofs.Layouts.{set_is, relation-is}
use Rattle.clauses_rules.specs.Gates.{Clause}
use Rattle.clauses_rules.specs.Translation.{literal_at}
use Rattle.clauses_rules.specs.Whole.{member_literals}
use Rattle.clauses_marks.specs.Marking.{is_guarded, row_clause, member_clause, atom_clauses, column_clauses}

module _ (sheet : Sheet) (cells : List Literal) where
  -- ---- atoms
  pub bounded-atom : (l : Literal) (k i : ℕ) → is_bounded sheet k ≡ true
      → member_clause l (literal_at sheet cells (member_cell sheet k i)) ∷ [] ≡ atom_clauses sheet cells l k i
  bounded-atom l k i b = rw b refl

  pub full-atom : (l : Literal) (k i : ℕ) → is_bounded sheet k ≡ false → [] ≡ atom_clauses sheet cells l k i
  full-atom l k i b = rw b refl

  -- ---- cells of a set, of a relation
  module _ (l : Literal) (r i j : ℕ) {n k : ℕ} (en : n ≡ columns sheet r) (ek : k ≡ first_sort sheet r) where
    pub set-columns : n ≡ 1 → atom_clauses sheet cells l k j ≡ column_clauses sheet cells l r i j
    set-columns h = rw (set_is sheet r en h, ← ek) refl

    pub relation-columns : (n ≡ 1 → ⊥) → {m : ℕ} → m ≡ second_sort sheet r
        → atom_clauses sheet cells l k i ++ atom_clauses sheet cells l m j ≡ column_clauses sheet cells l r i j
    relation-columns h {m} em =
        rw (relation-is sheet r en h, ← ek, ← em)
        (sym (map-append (member_clause l) (member_literals sheet cells k i) (member_literals sheet cells m j)))

  -- ---- rows
  module _ (r i : ℕ) (row : List Literal) where
    pub guarded-row : is_guarded sheet r ≡ true
        → ◌≡◌ {A = List Clause} ((opposite (literal_at sheet cells (member_cell sheet (first_sort sheet r) i)) ∷ row) ∷ [])
        (row_clause sheet cells r i row)
    guarded-row = go (is_set sheet r) (is_bounded sheet (first_sort sheet r))
      where
        go : (s b : Bool) → cond s false b ≡ true
            → ◌≡◌ {A = List Clause} ((opposite (literal_at sheet cells (member_cell sheet (first_sort sheet r) i)) ∷ row) ∷
            [])
            ((map opposite (cond s [] (cond b (literal_at sheet cells (member_cell sheet (first_sort sheet r) i) ∷ []) []))
            ++ row) ∷ [])
        go false true e = refl
        go false false e = absurd (false≢true e)
        go true b e = absurd (false≢true e)

    pub plain_row : is_guarded sheet r ≡ false → ◌≡◌ {A = List Clause} (row ∷ []) (row_clause sheet cells r i row)
    plain_row = go (is_set sheet r) (is_bounded sheet (first_sort sheet r))
      where
        go : (s b : Bool) → cond s false b ≡ false
            → ◌≡◌ {A = List Clause} (row ∷ [])
            ((map opposite (cond s [] (cond b (literal_at sheet cells (member_cell sheet (first_sort sheet r) i) ∷ []) []))
            ++ row) ∷ [])
        go true b e = refl
        go false false e = refl
        go false true e = absurd (false≢true (sym e))

pub guarded-bounded : (sheet : Sheet) (r : ℕ) → is_guarded sheet r ≡ true → {k : ℕ} → k ≡ first_sort sheet r
    → true ≡ is_bounded sheet k
guarded-bounded sheet r h e = rw e (go (is_set sheet r) (is_bounded sheet (first_sort sheet r)) h)
  where
    go : (s b : Bool) → cond s false b ≡ true → true ≡ b
    go false b h = sym h
    go true b h = absurd (false≢true h)
