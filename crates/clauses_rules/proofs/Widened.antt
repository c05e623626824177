-- An instance of a sheet, written for one with wider scopes: the same atoms and tuples, and 0 in every other cell.
use mathlib.Core.Path.{◌≡◌, refl, ap, ◌∙◌}
use mathlib.Core.Logic.Iff
use mathlib.Core.Logic.{⊎_elim, ◌↔◌}
use mathlib.Core.Bool.{Bool, true, false, ◌&&◌, cond, false≢true}
use mathlib.Core.List.{List, [], ◌++◌, map, append-nil}
use Prim.Native.Nat.{ℕ, zero, suc, ◌+◌, ◌*◌, ◌≤◌, ◌<◌}
use native.Mathlib.Nat.{eq-or-lt_of_le}
use native.Mathlib.Decide.{dec_lt}
use native.Mathlib.Omega.{arith}
use lib.Dec.{leb, ltb}
use lib.ListN.{length, get_or, length-append, length-map, get_or-map, get_or-eq_default}
use borrow.Author.Tests.{eq-eqb}
use Rattle.prelude.proofs.Laws.{clash, decided, and_both}
use Rattle.sheet_rules.specs.Blocks.{Sheet, four_blocks, byte, sort_count, scope, is_bounded, relation_count, columns}
use Rattle.sheet_rules.specs.Blocks.{first_sort, second_sort}
use Rattle.relational.specs.Cells.{is_set, row_count, row_length, members_of, first_member, member_cell, first_cell, cell_count}
use Rattle.relational.specs.Cells.{cell, has_cells}
use Rattle.relational.specs.Meaning.{one, two, IsAtom, Given, WithinScopes}
use Rattle.relational.specs.Matrices.{upto, Place, places}
use Rattle.relational.specs.Evaluation.{flag_at, member_at}
use Rattle.relational.proofs.Scopes.{bounded-there, within-size}
use Rattle.relational.proofs.Places.{length-map-from, upto-at, length-places, places-at, place-below}
use Rattle.relational.proofs.Flags.{Is, recast, is-and, is-and-then, is-eqb, is-leb}
use Rattle.relational.proofs.Basic.{is_member}
use Rattle.relational.proofs.Transfer.{Alike, SameModel, of_atoms, satisfies}
use Rattle.clauses_rules.specs.Whole.{series}
use Rattle.relational.specs.Meaning.{Solution}
use Rattle.clauses_rules.proofs.Bytes.{byte_of, bytes, bytes_bits}
use Rattle.clauses_rules.proofs.Series.{series-end, series-at}

is_byte : (b : Bool) → Is b (byte_of b ≡ 1)
is_byte true = ((λ e. refl), λ e. refl)
is_byte false = ((λ e. absurd (false≢true e)), λ e. absurd (omega arith))

-- ---- a relation's cells that are 1
module _ (sheet : Sheet) (instance : List ℕ) (r : ℕ) where
  abbrev InCell : ℕ → ℕ → Type 0
  InCell i j = (i < row_count sheet r) × (j < row_length sheet r) × (byte instance (cell sheet r i j) ≡ 1)

  in-set : (j : ℕ) → Given sheet instance r (one j) ↔ ((columns sheet r ≡ 1) × InCell 0 j)
  in-set j = (
    (λ x. let e = x.0 in (e, (rw e (omega arith), rw e x.1, x.2))),
    λ x. let e = x.0 in (e, rw e at x.1.1, x.1.2),
  )

  in-relation : (i j : ℕ) → Given sheet instance r (two i j) ↔ ((columns sheet r ≡ 2) × InCell i j)
  in-relation i j = (
    (λ x. let e = x.0 in (e, (rw e x.1, rw e x.2, x.3))),
    λ x. let e = x.0 in (e, rw e at x.1.0, rw e at x.1.1, x.1.2),
  )

-- a cell past the last relation is not 1
cells-later : (sheet : Sheet) (m n : ℕ) → m ≤ n → first_cell sheet m ≤ first_cell sheet n
unfolding first_cell
cells-later sheet m zero h = let e : m ≡ 0 = omega arith in rw e (omega arith)
cells-later sheet m (suc n) h =
    ⊎_elim (λ e. rw e (omega arith)) (λ l. omega (arith, cells-later sheet m n (omega arith))) (eq-or-lt_of_le h)

relation-there : (sheet : Sheet) (instance : List ℕ) → length instance ≡ cell_count sheet → (r i j : ℕ)
    → byte instance (cell sheet r i j) ≡ 1 → r < relation_count sheet
relation-there sheet instance size r i j e = go (dec_lt r (relation_count sheet))
  where
    go : Dec (r < relation_count sheet) → r < relation_count sheet
    go (yes l) = l
    go (no l) =
        let later = cells-later sheet (relation_count sheet) r (omega arith) in
        absurd (omega (arith, get_or-eq_default instance 0 {n = cell sheet r i j} (omega arith), e))

-- ---- over all blocks but the sorts
module _ (variables relations nodes sorts sorts' : List ℕ) where
  abbrev narrow : Sheet
  narrow = four_blocks sorts variables relations nodes

  abbrev wide : Sheet
  wide = four_blocks sorts' variables relations nodes

  module _ (I : List ℕ) where
    -- the flag of atom i of sort k
    abbrev atom_flag : ℕ → ℕ → Bool
    atom_flag k i = ltb i (scope narrow k) && member_at narrow I k i

    is-atom : (k i : ℕ) → Is (atom_flag k i) (IsAtom narrow I k i)
    is-atom k i =
        recast
        (is-and-then (ltb i (scope narrow k)) (member_at narrow I k i) (is-leb (suc i) (scope narrow k))
        (is_member narrow I k i))
        ((λ x. x.1), λ x. (x.0, x))

    -- the flag of a relation's cell
    abbrev cell_flag : ℕ → Place → Bool
    cell_flag r t =
        ltb t.0 (row_count narrow r)
        && (ltb t.1 (row_length narrow r) && flag_at narrow I (cell narrow r t.0 t.1))

    is-cell : (r i j : ℕ) → Is (cell_flag r (i, j)) (InCell narrow I r i j)
    is-cell r i j =
        let one-there : Bool = flag_at narrow I (cell narrow r i j) in
        let under : Bool = ltb j (row_length narrow r) in
        recast
        (is-and (ltb i (row_count narrow r)) (under && one-there) (is-leb (suc i) (row_count narrow r))
        (is-and under one-there (is-leb (suc j) (row_length narrow r)) (is-eqb (byte I (cell narrow r i j)) 1)))
        ((λ x. (x.0, x.1.0, x.1.1)), λ x. (x.0, (x.1, x.2)))

    -- the cells of the wide sheet, sort by sort and relation by relation
    abbrev members : ℕ → List Bool
    members k = map (atom_flag k) (upto (members_of wide k))

    abbrev cells : ℕ → List Bool
    cells r = map (cell_flag r) (places (row_count wide r) (row_length wide r))

    abbrev front : List Bool
    front = series (sort_count wide) members

    -- (and nothing after them)
    abbrev rest : List Bool
    rest = series (relation_count wide) cells ++ []

    abbrev bits : List Bool
    bits = front ++ rest

    abbrev pub widened : List ℕ
    widened = bytes bits

    next-members : (k : ℕ) → first_member wide (suc k) ≡ first_member wide k + length (members k)
    unfolding first_member
    next-members k = omega (arith, length-map-from (atom_flag k) 0 (members_of wide k))

    next-cells : (r : ℕ) → first_cell wide (suc r) ≡ first_cell wide r + length (cells r)
    unfolding first_cell
    next-cells r = omega (arith, length-places (cell_flag r) (row_count wide r) (row_length wide r))

    front-size : length front ≡ first_cell wide 0
    unfolding first_member first_cell
    front-size = omega (arith, series-end members (first_member wide) next-members (sort_count wide))

    pub widened-size : length widened ≡ cell_count wide
    widened-size =
        length-map bits byte_of ∙ length-append front rest
        ∙ ap (λ (t : List Bool). length front + length t) (append-nil (series (relation_count wide) cells))
        ∙ omega (arith, front-size, series-end cells (first_cell wide) next-cells (relation_count wide))

    pub widened-cells : has_cells wide widened ≡ true
    unfolding has_cells
    widened-cells = and_both _ _ (eq-eqb (length widened) (cell_count wide) widened-size) (bytes_bits bits)

    byte-is : (p : ℕ) → Is (get_or bits p false) (byte widened p ≡ 1)
    byte-is p = rw (get_or-map byte_of bits p false) (is_byte (get_or bits p false))

    -- what stands at the place of an atom, and of a tuple
    member_is : (k i : ℕ) → is_bounded wide k ≡ true → i < scope wide k
        → (byte widened (member_cell wide k i) ≡ 1) ↔ IsAtom narrow I k i
    unfolding first_member
    member_is k i b l =
        let size : members_of wide k ≡ scope wide k = rw b in
        let inside : i < length (members k) = omega (arith, length-map-from (atom_flag k) 0 (members_of wide k)) in
        let at = series-at members (first_member wide) next-members false [] refl (sort_count wide) rest k i
        (bounded-there wide k b) inside
        ∙ upto-at (atom_flag k) false (members_of wide k) i (omega arith) in
        Iff.trans (Iff.symm (byte-is (member_cell wide k i))) (rw at (is-atom k i))

    cell-is : (r i j : ℕ) → r < relation_count wide → i < row_count wide r → j < row_length wide r
        → (byte widened (cell wide r i j) ≡ 1) ↔ InCell narrow I r i j
    cell-is r i j l low under =
        let high : ℕ = row_count wide r in
        let width : ℕ = row_length wide r in
        let inside : i * width + j < length (cells r)
        = omega (arith, length-places (cell_flag r) high width, place-below high width i j low under) in
        let at = series-at cells (first_cell wide) next-cells false front front-size (relation_count wide) [] r
        (i * width + j) l inside
        ∙ places-at (cell_flag r) false high width i j low under in
        Iff.trans (Iff.symm (byte-is (cell wide r i j))) (rw at (is-cell r i j))

    module _ (full : (k : ℕ) → is_bounded wide k ≡ false → byte sorts k ≡ byte sorts' k)
        (limited : (k : ℕ) → is_bounded wide k ≡ true → scope narrow k ≤ scope wide k) where
      scopes : (k : ℕ) → scope narrow k ≤ scope wide k
      scopes k = ⊎_elim (limited k) (λ f. rw (full k f) (omega arith)) (decided (is_bounded wide k))

      same-atoms : (k i : ℕ) → IsAtom narrow I k i ↔ IsAtom wide widened k i
      same-atoms k i = ⊎_elim bounded other (decided (is_bounded wide k))
        where
          bounded : is_bounded wide k ≡ true → IsAtom narrow I k i ↔ IsAtom wide widened k i
          bounded b = (
            (λ x. let l : i < scope wide k = omega (arith, x.0, scopes k) in (l, λ c. (member_is k i b l).1 x)),
            λ x. (member_is k i b x.0).0 (x.1 b),
          )

          other : is_bounded wide k ≡ false → IsAtom narrow I k i ↔ IsAtom wide widened k i
          other f = (
            (λ x. (omega (arith, x.0, scopes k), λ c. clash (is_bounded wide k) c f)),
            λ x. (rw (full k f) x.0, λ c. clash (is_bounded narrow k) c (ap (leb 129) (full k f) ∙ f)),
          )

      rows_fit : (r : ℕ) → row_count narrow r ≤ row_count wide r
      rows_fit r = go (is_set wide r)
        where
          go : (b : Bool) → cond b 1 (scope narrow (first_sort wide r)) ≤ cond b 1 (scope wide (first_sort wide r))
          go true = omega arith
          go false = scopes (first_sort wide r)

      columns-fit : (r : ℕ) → row_length narrow r ≤ row_length wide r
      columns-fit r = go (is_set wide r)
        where
          go : (b : Bool) → cond b (scope narrow (first_sort wide r)) (scope narrow (second_sort wide r))
              ≤ cond b (scope wide (first_sort wide r)) (scope wide (second_sort wide r))
          go true = scopes (first_sort wide r)
          go false = scopes (second_sort wide r)

      module _ (solves : Solution narrow I) where
        size : length I ≡ cell_count narrow
        size = within-size narrow I solves.within.bytes

        same-cell : (r i j : ℕ) → InCell narrow I r i j ↔ InCell wide widened r i j
        same-cell r i j = (
          (λ x.
              let low : i < row_count wide r = omega (arith, x.0, rows_fit r) in
              let under : j < row_length wide r = omega (arith, x.1, columns-fit r) in
              (low, under, (cell-is r i j (relation-there narrow I size r i j x.2) low under).1 x)),
          λ x. (cell-is r i j (relation-there wide widened widened-size r i j x.2) x.0 x.1).0 x.2,
        )

        same-tuples : (r : ℕ) → Alike (Given narrow I r) (Given wide widened r)
        same-tuples r (one j) =
            Iff.trans (in-set narrow I r j)
            (Iff.trans (Iff.and Iff.rfl (same-cell r 0 j)) (Iff.symm (in-set wide widened r j)))
        same-tuples r (two i j) =
            Iff.trans (in-relation narrow I r i j)
            (Iff.trans (Iff.and Iff.rfl (same-cell r i j)) (Iff.symm (in-relation wide widened r i j)))

        same : SameModel variables relations nodes sorts sorts' I widened
        same = record { atoms = same-atoms; given = same-tuples }

        within : WithinScopes wide widened
        within =
            record {
              bytes = widened-cells;
              of_atoms = λ r l.
                  of_atoms variables relations nodes sorts sorts' I widened same r (solves.within.of_atoms r l);
            }

        pub widened-solves : Solution wide widened
        widened-solves =
            record {
              within = within;
              satisfies = satisfies variables relations nodes sorts sorts' I widened same solves.satisfies;
            }
