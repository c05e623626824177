-- The arrays that the leaves fill hold the leaves' matrices.
use mathlib.Core.Path.{◌≡◌, refl, sym, ap, ◌∙◌}
use mathlib.Core.Bool.{Bool, true, false, cond}
use mathlib.Core.List.{List, map}
use mathlib.Core.Logic.{◌⊎◌, inl, inr}
use Prim.Native.Nat.{ℕ, ◌+◌, ◌*◌, ◌/◌, ◌%◌, ◌≤◌, ◌<◌}
use native.Mathlib.Nat.{le_refl, one-mul, div-add-mod'}
use native.Mathlib.Omega.{arith}
use lib.Dec.{eqb}
use lib.IntN.{ℤ, negsuc}
use lib.ListN.{length, get_or, take, get_or-eq_default}
use lib.Seq.{get_or-take}
use Rattle.literal.specs.Literals.{Literal}
use Rattle.literal.specs.Words.{literal_of}
use Rattle.sheet_rules.specs.Blocks.{Sheet, scope, is_bounded, relation_count}
use Rattle.sheet_rules.specs.Blocks as blocks
use Rattle.sheet_rules.specs.Facts.{Facts}
use Rattle.relational.specs.declared.Leaf.{Leaf}
use Rattle.relational.specs.declared.Leaf.TheVariants.{Relation as relation, Atoms as atoms, Identity as identity}
use Rattle.relational.specs.Cells.{first_member, row_count, row_length, first_cell}
use Rattle.relational.specs.Meaning.{Environment}
use Rattle.relational.specs.Matrices.{from, upto, Place, places, Matrix, set_of, relation_of, leaf_matrix}
use Rattle.relational.proofs.Places.{length-map-from, from_at, upto-at, length-places, places-at, row_below}
use Rattle.relational.proofs.Places.{column-below, square}
use Rattle.cells.proofs.Layouts.{set-rows}
use Rattle.cells.proofs.Members.{bounded-upto}
use Rattle.clauses_rules.specs.Translation.{constant, absent, literal_at}
use Rattle.clauses_emission.specs.Emission.{Inside, AllInside, literals_of}
use Rattle.clauses_matrix.specs.Matrices.{Literals, matrix_of, Cells, cells_of, Operand}
use Rattle.clauses_emission.proofs.Ranges.{literal-of, inside-absent}
use Rattle.clauses_kinds.specs.Leaves.{Filled, cell_from, LeafIs, Constants, Diagonal, row_matrix}
use Rattle.clauses_kinds.proofs.Lists.{filled_is, filled-cells, filled-fine}

constant-inside : (b : Bool) (n : ℕ) → 2 ≤ n → Inside n (constant b)
constant-inside true n h = record { low = omega arith; high = omega arith }
constant-inside false n h = record { low = omega arith; high = omega arith }

-- a row of cells
pub row-fine : {n m : ℕ} {ws : List ℤ} → n ≤ 8 → Cells n m ws → Operand m (row_matrix n ws)
row-fine {n} few h =
    record {
      arity_low = omega arith;
      arity_high = omega arith;
      set = λ e. refl;
      rows = omega arith;
      columns = few;
      cells = rw (one-mul n) h;
    }

-- all cells are constants
module _ (n : ℕ) (f : ℕ → Bool) (ws : List ℤ) where
  pub set-from : n ≤ 8 → Filled (λ i. constant (f i)) n ws
      → Constants (set_of n (map (λ i. constant (f i)) (upto n))) (row_matrix n ws)
  set-from l h =
      record {
        is = rw (one-mul n, filled-cells (λ i. constant (f i)) h (omega arith));
        fine = λ k two. row-fine l (filled-fine (λ i. constant (f i)) h (omega arith) two λ i p. constant-inside (f i) k two);
      }

-- matrices are equal by their sizes and cells
matrix-same : {a a' r r' c c' : ℕ} {xs ys : List Literal} → a ≡ a' → r ≡ r' → c ≡ c' → xs ≡ ys
    → ◌≡◌ {A = Matrix Literal} (record { arity = a; rows = r; columns = c; cells = xs })
    (record { arity = a'; rows = r'; columns = c'; cells = ys })
matrix-same p q s t = rw (p, q, s, t)

two-columns : (k : ℕ) → (k ≡ 1) ⊎ (k ≡ 2) → (1 ≤ k) × (k ≤ 2)
two-columns k (inl e) = (omega (arith, e), omega (arith, e))
two-columns k (inr e) = (omega (arith, e), omega (arith, e))

-- the identity on the atoms of a set, as code reads them
abbrev pub diagonal : Literals → ℕ → Literal
diagonal p k = cond (eqb (k / p.columns) (k % p.columns)) (literal_of (get_or p.cells (k / p.columns) (negsuc 0)))
    absent

module _ (p : Literals) (ws : List ℤ) (l : p.columns ≤ 8) (h : Filled (diagonal p) (p.columns * p.columns) ws) where
  abbrev diagonal-matrix : Literals
  diagonal-matrix = record { arity = 2; rows = p.columns; columns = p.columns; cells = ws }

  module _ (n : ℕ) (f : ℕ → Literal) (e : matrix_of p ≡ set_of n (map f (upto n))) where
    wide : p.columns ≡ n
    wide = ap (λ (m : Matrix Literal). m.columns) e

    atom-at : (i : ℕ) → i < p.columns → literal_of (get_or p.cells i (negsuc 0)) ≡ f i
    atom-at i b =
        let one : p.rows ≡ 1 = ap (λ (m : Matrix Literal). m.rows) e in
        let all : i < p.rows * p.columns = rw one (omega arith) in
        ap literal_of (sym (get_or-take (p.rows * p.columns) p.cells i (negsuc 0) all))
        ∙ literal-of (take (p.rows * p.columns) p.cells) i
        ∙ ap (λ (m : Matrix Literal). get_or m.cells i absent) e ∙ upto-at f absent n i (omega (arith, wide))

    abbrev on : Place → Literal
    on t = cond (eqb t.0 t.1) (f t.0) (constant false)

    diagonal-is : matrix_of diagonal-matrix ≡ relation_of n n (map on (places n n))
    diagonal-is =
        let c : ℕ = p.columns in
        let cells : List Literal = map on (places c c) in
        matrix-same refl wide wide
        (filled_is (diagonal p) h (square l l) cells (length-places on c c)
        (λ i b.
        ap (λ (j : ℕ). get_or cells j absent) (sym (div-add-mod' i c))
        ∙ places-at on absent c c (i / c) (i % c) (row_below c c i b) (column-below c c i b)
        ∙ ap (λ (a : Literal). cond (eqb (i / c) (i % c)) a absent) (sym (atom-at (i / c) (row_below c c i b))))
        ∙ ap (λ (m : ℕ). map on (places m m)) wide)

  pub identity-from : Diagonal p diagonal-matrix
  identity-from =
      record {
        is = diagonal-is;
        room = h.room;
        fine = λ k two o.
            record {
              arity_low = omega arith;
              arity_high = omega arith;
              set = λ e. absurd (omega arith);
              rows = l;
              columns = l;
              cells = filled-fine (diagonal p) h (square l l) two
                  (λ i b. inside k two o (eqb (i / p.columns) (i % p.columns)) (i / p.columns));
            };
      }
    where
      inside : (k : ℕ) → 2 ≤ k → Operand k p → (b : Bool) (i : ℕ)
          → Inside k (cond b (literal_of (get_or p.cells i (negsuc 0))) absent)
      inside k two o true i = rw (literal-of p.cells i) (o.cells.inside i)
      inside k two o false i = inside-absent k two

-- variable 1 is always there
inside-two : (k : ℕ) (ls : List Literal) → AllInside k ls → 2 ≤ k
inside-two k ls inside =
    let h : Inside k absent = rw (get_or-eq_default ls absent (le_refl (length ls))) at (inside (length ls)) in
    omega (arith, h.high)

-- a leaf of constants
pub constant-leaf : {sheet : Sheet} {given : List ℤ} {l : Leaf} {a : ℕ} {env : Environment} {matrix : Matrix Literal} {m : Literals}
    → Constants matrix m → matrix ≡ leaf_matrix sheet (literal_at sheet (literals_of given)) constant l a env → LeafIs sheet given l a env m
constant-leaf {given = given} h e =
    record {
      matrix = h.is ∙ e;
      room = (h.fine 2 (omega arith)).cells.room;
      fine = λ n i. h.fine n (inside-two n (literals_of given) i);
    }

-- the atoms of a bounded sort: its membership cells
pub members-from : {sheet : Sheet} (given : List ℤ) (k : ℕ) (env : Environment) {n first : ℕ} (ws : List ℤ)
    → (n ≡ scope sheet k) × (n ≤ 8)
    → first ≡ first_member sheet k → is_bounded sheet k ≡ true → Filled (cell_from given first) n ws
    → LeafIs sheet given atoms k env (row_matrix n ws)
members-from {sheet} given k env {n} {first} ws en ef b h =
    let lit : ℕ → Literal = literal_at sheet (literals_of given) in
    record {
      matrix =
          rw (one-mul n) (ap (set_of n) (filled-cells (cell_from given first) h (omega (arith, en.1))))
          ∙ bounded-upto sheet lit constant k env en.0 ef b;
      room = h.room;
      fine = λ m inside.
          row-fine en.1
          (filled-fine (cell_from given first) h (omega (arith, en.1)) (inside-two m (literals_of given) inside) λ
          i p. inside (first + i));
    }

-- the identity leaf, from the atoms
pub identity-leaf : {sheet : Sheet} {given : List ℤ} {k : ℕ} {env : Environment} {p m : Literals}
    → LeafIs sheet given atoms k env p
    → Diagonal p m → LeafIs sheet given identity k env m
identity-leaf {given = given} h d =
    record {
      matrix = d.is _ _ h.matrix;
      room = d.room;
      fine = λ n inside. d.fine n (inside-two n (literals_of given) inside) (h.fine n inside);
    }

-- the cells of a relation
module _ {sheet : Sheet} (facts : Facts sheet) (given : List ℤ) (r : ℕ) (env : Environment)
    {arity rows columns first : ℕ} (ws : List ℤ) where
  pub relation-from : r < relation_count sheet → arity ≡ blocks.columns sheet r → (rows ≡ row_count sheet r) × (rows ≤ 8)
      → (columns ≡ row_length sheet r) × (columns ≤ 8) → first ≡ first_cell sheet r → Filled (cell_from given first) (rows * columns) ws
      → LeafIs sheet given relation r env (record { arity = arity; rows = rows; columns = columns; cells = ws })
  relation-from there ea er ec ef h =
      let n : ℕ = rows * columns in
      let two : (1 ≤ arity) × (arity ≤ 2) = rw ea (two-columns (blocks.columns sheet r) (facts.columns_two r there)) in
      let cells : List Literal = map (literal_at sheet (literals_of given)) (from first n) in
      let e : cells_of n ws ≡ cells =
      filled_is (cell_from given first) h (square er.1 ec.1) cells (length-map-from (literal_at sheet (literals_of given)) first n)
      λ i p. from_at (literal_at sheet (literals_of given)) absent first n i p in
      record {
        matrix = matrix-same ea er.0 ec.0 (e ∙ rw (er.0, ec.0, ef));
        room = h.room;
        fine = λ k inside.
            record {
              arity_low = two.0;
              arity_high = two.1;
              set = λ one. er.0 ∙ sym (set-rows sheet r ea one);
              rows = er.1;
              columns = ec.1;
              cells =
                  filled-fine (cell_from given first) h (square er.1 ec.1) (inside-two k (literals_of given) inside)
                  λ i p. inside (first + i);
            };
      }
