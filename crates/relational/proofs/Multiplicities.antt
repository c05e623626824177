-- 2.1.2 Multiplicities: the check of the rows agrees with the marks; and that of the cells with fields being of atoms.
use mathlib.Core.Path.{◌≡◌, refl, sym, subst}
use mathlib.Core.Logic.{◌⊎◌, inl, inr, ⊎_elim, ◌↔◌}
use mathlib.Core.Bool.{Bool, true, false, cond}
use mathlib.Core.List.{List, map}
use Prim.Native.Nat.{ℕ, zero, suc, ◌+◌, ◌<◌}
use native.Mathlib.Omega.{arith}
use lib.Dec.{leb}
use lib.ListN.{get_or}
use borrow.Author.Tests.{eq-eqb, ne_eqb}
use Rattle.prelude.specs.Tests.{each}
use Rattle.sheet_rules.specs.Blocks.{Sheet, byte, scope, relation_count, columns, multiplicity, first_sort, second_sort}
use Rattle.relational.specs.Cells.{row_count, row_length, cell}
use Rattle.relational.specs.Meaning.{Atom, one, two, CanBe, IsAtom, Given, AtMostOne, Marked, Marks, OfAtoms}
use Rattle.relational.specs.Matrices.{from}
use Rattle.relational.specs.Evaluation.{both, implies, count, flag_at, row_holds, member_at, row_bound, row_cells}
use Rattle.relational.specs.Evaluation.{marks_hold, cell_inside, cells_inside}
use Rattle.relational.proofs.Places.{length-map-from}
use Rattle.relational.proofs.Flags.{Is, recast, is-and, is-implies, is-eqb, is-each}
use Rattle.relational.proofs.Counts.{is-lone, is_some}
use Rattle.relational.proofs.Basic.{flags-at, is_member}
use Rattle.relational.proofs.Truths.{beyond}

-- marks speak of values that are the same
pub marked-same : (m : ℕ) (P Q : Atom → Type 0) → ((j : Atom) → P j ↔ Q j) → Marked m P → Marked m Q
marked-same zero P Q f x = tt
marked-same (suc zero) P Q f x = λ i j a b. x i j ((f i).1 a) ((f j).1 b)
marked-same (suc (suc m)) P Q f x = ((λ i j a b. x.0 i j ((f i).1 a) ((f j).1 b)), (x.1.0, (f x.1.0).0 x.1.1))

module _ (sheet : Sheet) (instance : List ℕ) where
  -- the values of a row of c cells from place a on
  abbrev InRow : ℕ → ℕ → Atom → Type 0
  InRow a c j = (j < c) × (byte instance (a + j) ≡ 1)

  abbrev row_flags : ℕ → ℕ → List Bool
  row_flags a c = map (flag_at sheet instance) (from a c)

  in_row : (a c j : ℕ) → (get_or (row_flags a c) j false ≡ true) ↔ InRow a c j
  in_row a c j = (forth, λ x. (flags-at sheet instance a c j x.0).1 x.1)
    where
      forth : get_or (row_flags a c) j false ≡ true → InRow a c j
      forth e =
          let l : j < c = omega (arith, beyond (row_flags a c) j e, length-map-from (flag_at sheet instance) a c) in
          (l, (flags-at sheet instance a c j l).0 e)

  -- marks of a row that may not be bound
  abbrev MarkedIf : ℕ → Type 0 → (Atom → Type 0) → Type 0
  MarkedIf zero B P = Unit {0}
  MarkedIf (suc zero) B P = AtMostOne P
  MarkedIf (suc (suc m)) B P = AtMostOne P × (B → (i : Atom) × P i)

  marked-if-same : (m : ℕ) (B : Type 0) (P Q : Atom → Type 0) → ((j : Atom) → P j ↔ Q j) → MarkedIf m B P
      → MarkedIf m B Q
  marked-if-same zero B P Q f x = tt
  marked-if-same (suc zero) B P Q f x = λ i j a b. x i j ((f i).1 a) ((f j).1 b)
  marked-if-same (suc (suc m)) B P Q f x = (
    (λ i j a b. x.0 i j ((f i).1 a) ((f j).1 b)),
    λ b. let y = x.1 b in (y.0, (f y.0).0 y.1),
  )

  -- bound rows are marked; and the other way, where every value is that of a bound row
  marked-bound : (m : ℕ) (B : Type 0) (P : Atom → Type 0) → MarkedIf m B P → B → Marked m P
  marked-bound zero B P x b = tt
  marked-bound (suc zero) B P x b = x
  marked-bound (suc (suc m)) B P x b = (x.0, x.1 b)

  bound-marked : (m : ℕ) (B : Type 0) (P : Atom → Type 0) → ((j : Atom) → P j → B) → (B → Marked m P) → MarkedIf m B P
  bound-marked zero B P f x = tt
  bound-marked (suc zero) B P f x = λ i j a b. x (f i a) i j a b
  bound-marked (suc (suc m)) B P f x = ((λ i j a b. (x (f i a)).0 i j a b), λ b. (x b).1)

  row-marked : (m a c : ℕ) (bound : Bool) (B : Type 0) → Is bound B
      → Is (row_holds sheet instance m bound (row_flags a c)) (MarkedIf m B (InRow a c))
  row-marked m a c bound B is = recast (by_flags m)
      (marked-if-same m B Flag (InRow a c) (in_row a c), marked-if-same m B (InRow a c) Flag back)
    where
      Flag : Atom → Type 0
      Flag j = get_or (row_flags a c) j false ≡ true

      back : (j : Atom) → InRow a c j ↔ Flag j
      back j = ((in_row a c j).1, (in_row a c j).0)

      by_flags : (m : ℕ) → Is (row_holds sheet instance m bound (row_flags a c)) (MarkedIf m B Flag)
      by_flags zero = ((λ e. tt), λ x. refl)
      by_flags (suc zero) = is-lone (row_flags a c)
      by_flags (suc (suc m)) =
          is-and (leb (count (row_flags a c)) 1) (implies (bound, leb 1 (count (row_flags a c)))) (is-lone (row_flags a c))
          (is-implies bound (leb 1 (count (row_flags a c))) is (is_some (row_flags a c)))

  module _ (r : ℕ) where
    -- "binds only rows of members"; "A set's row is bound as before."
    abbrev RowBound : ℕ → Type 0
    RowBound i = columns sheet r ≡ 2 → IsAtom sheet instance (first_sort sheet r) i

    is_bound : (columns sheet r ≡ 1) ⊎ (columns sheet r ≡ 2) → (i : ℕ) → i < row_count sheet r
        → Is (row_bound sheet instance r i) (RowBound i)
    is_bound (inl e) i l = rw e ((λ t d. absurd (omega arith)), λ x. refl)
    is_bound (inr e) i l =
        let high : row_count sheet r ≡ scope sheet (first_sort sheet r) = rw e in
        let m = is_member sheet instance (first_sort sheet r) i (omega arith) in
        rw e ((λ t d. m.0 t), λ x. m.1 (x refl))

    abbrev RowMarked : ℕ → Type 0
    RowMarked i = MarkedIf (multiplicity sheet r) (RowBound i) (InRow (cell sheet r i 0) (row_length sheet r))

    -- the values in a row's cells are those that the instance gives
    values-of-set : columns sheet r ≡ 1 → (j : Atom) → InRow (cell sheet r 0 0) (row_length sheet r) j ↔ Given sheet instance r (one j)
    values-of-set e j = ((λ x. (e, rw (← width) x.0, rw (← place) x.1)), λ x. (rw width x.1, rw place x.2))
      where
        width : row_length sheet r ≡ scope sheet (first_sort sheet r)
        width = rw e

        place : cell sheet r 0 0 + j ≡ cell sheet r 0 j
        place = omega arith

    values-of-relation : columns sheet r ≡ 2 → (i : ℕ) → CanBe sheet (first_sort sheet r) i
        → (j : Atom) → InRow (cell sheet r i 0) (row_length sheet r) j ↔ Given sheet instance r (two i j)
    values-of-relation e i l j = ((λ x. (e, l, rw (← width) x.0, rw (← place) x.1)), λ x. (rw width x.2, rw place x.3))
      where
        width : row_length sheet r ≡ scope sheet (second_sort sheet r)
        width = rw e

        place : cell sheet r i 0 + j ≡ cell sheet r i j
        place = omega arith

    rows-marked : OfAtoms sheet instance r → (columns sheet r ≡ 1) ⊎ (columns sheet r ≡ 2)
        → ((i : ℕ) → i < row_count sheet r → RowMarked i) ↔ Marks sheet instance r
    rows-marked inside c = (forth, ⊎_elim set_back relation-back c)
      where
        mark : ℕ
        mark = multiplicity sheet r

        forth : ((i : ℕ) → i < row_count sheet r → RowMarked i) → Marks sheet instance r
        forth f =
            record {
              set = λ e.
                  let high : row_count sheet r ≡ 1 = rw e in
                  marked-same mark (InRow (cell sheet r 0 0) (row_length sheet r)) (λ j. Given sheet instance r (one j)) (values-of-set e)
                  (marked-bound mark (RowBound 0) (InRow (cell sheet r 0 0) (row_length sheet r)) (f 0 (omega arith))
                  (λ d. absurd (omega arith)));
              rows = λ e i l.
                  let high : row_count sheet r ≡ scope sheet (first_sort sheet r) = rw e in
                  marked-same mark (InRow (cell sheet r i 0) (row_length sheet r)) (λ j. Given sheet instance r (two i j))
                  (values-of-relation e i l.0) (marked-bound mark (RowBound i)
                  (InRow (cell sheet r i 0) (row_length sheet r)) (f i (rw high l.0)) (λ d. l));
            }

        set_back : columns sheet r ≡ 1 → Marks sheet instance r → (i : ℕ) → i < row_count sheet r → RowMarked i
        set_back e m zero l =
            bound-marked mark (RowBound 0) (InRow (cell sheet r 0 0) (row_length sheet r))
            (λ j x d. absurd (omega arith)) λ b.
            marked-same mark (λ j. Given sheet instance r (one j)) (InRow (cell sheet r 0 0) (row_length sheet r))
            (λ j. ((values-of-set e j).1, (values-of-set e j).0)) (m.set e)
        set_back e m (suc i) l = let high : row_count sheet r ≡ 1 = rw e in absurd (omega arith)

        relation-back : columns sheet r ≡ 2 → Marks sheet instance r → (i : ℕ) → i < row_count sheet r → RowMarked i
        relation-back e m i l =
            let high : row_count sheet r ≡ scope sheet (first_sort sheet r) = rw e in
            let h : CanBe sheet (first_sort sheet r) i = omega arith in
            bound-marked mark (RowBound i) (InRow (cell sheet r i 0) (row_length sheet r))
            (λ j x d. (inside.rows i j ((values-of-relation e i h j).0 x)).0) λ b.
            marked-same mark (λ j. Given sheet instance r (two i j)) (InRow (cell sheet r i 0) (row_length sheet r))
            (λ j. ((values-of-relation e i h j).1, (values-of-relation e i h j).0)) (m.rows e i (b e))

  pub evaluates-marks : ((r : ℕ) → r < relation_count sheet → (columns sheet r ≡ 1) ⊎ (columns sheet r ≡ 2))
      → ((r : ℕ) → r < relation_count sheet → OfAtoms sheet instance r)
      → Is (marks_hold sheet instance) ((r : ℕ) → r < relation_count sheet → Marks sheet instance r)
  unfolding marks_hold
  evaluates-marks c inside =
      is-each (λ r. each (row_count sheet r) (row_test r)) (relation_count sheet) (Marks sheet instance)
      (λ r l.
      recast
      (is-each (row_test r) (row_count sheet r) (RowMarked r)
      (λ i h. row-marked (multiplicity sheet r) (cell sheet r i 0) (row_length sheet r) (row_bound sheet instance r i)
      (RowBound r i) (is_bound r (c r l) i h)))
      (rows-marked r (inside r l) (c r l)))
    where
      row_test : ℕ → ℕ → Bool
      row_test r i = row_holds sheet instance (multiplicity sheet r) (row_bound sheet instance r i)
          (row_cells sheet instance r i)

  -- ---- cells of members only
  abbrev in_relation : ℕ → Bool
  in_relation r = each (row_count sheet r) (λ i. each (row_length sheet r) (cell_inside sheet instance r i))

  inside-set : (r : ℕ) → columns sheet r ≡ 1 → Is (in_relation r) (OfAtoms sheet instance r)
  inside-set r e =
      recast
      (is-each (λ i. each (row_length sheet r) (cell_inside sheet instance r i)) (row_count sheet r)
      (λ i. (j : ℕ) → j < row_length sheet r → In i j)
      (λ i l. is-each (cell_inside sheet instance r i) (row_length sheet r) (In i) (λ j k. is-in i j (rw (← width) k)))) (
        (λ f. record {
          set = λ j g. f 0 (rw high (omega arith)) j (rw width g.1) g.2;
          rows = λ i j g. absurd
              (omega (arith, g.0));
        }),
        λ x i l j k b. x.set j (
          e,
          rw (← width) k,
          subst (λ (y : ℕ). byte instance (cell sheet r y j) ≡ 1) (row_zero i l) b,
        ),
      )
    where
      k₁ : ℕ
      k₁ = first_sort sheet r

      width : row_length sheet r ≡ scope sheet k₁
      width = rw e

      high : row_count sheet r ≡ 1
      high = rw e

      In : ℕ → ℕ → Type 0
      In i j = byte instance (cell sheet r i j) ≡ 1 → IsAtom sheet instance k₁ j

      row_zero : (i : ℕ) → i < row_count sheet r → i ≡ 0
      row_zero i l = omega (arith, high)

      is-in : (i j : ℕ) → CanBe sheet k₁ j → Is (cell_inside sheet instance r i j) (In i j)
      is-in i j l =
          subst (λ (b : Bool). Is (implies (
            flag_at sheet instance (cell sheet r i j),
            cond b (member_at sheet instance k₁ j)
                (both (member_at sheet instance k₁ i, member_at sheet instance (second_sort sheet r) j)),
          )) (In i j)) (sym (eq-eqb (columns sheet r) 1 e))
          (is-implies (flag_at sheet instance (cell sheet r i j)) (member_at sheet instance k₁ j)
          (is-eqb (byte instance (cell sheet r i j)) 1)
          (is_member sheet instance k₁ j l))

  inside-relation : (r : ℕ) → columns sheet r ≡ 2 → Is (in_relation r) (OfAtoms sheet instance r)
  inside-relation r e =
      recast
      (is-each (λ i. each (row_length sheet r) (cell_inside sheet instance r i)) (row_count sheet r)
      (λ i. (j : ℕ) → j < row_length sheet r → In i j)
      (λ i l. is-each (cell_inside sheet instance r i) (row_length sheet r) (In i)
      (λ j k. is-in i j (rw (← high) l) (rw (← width) k)))) (
        (λ f. record {
          set = λ j g. absurd (omega (arith, g.0));
          rows = λ i j g. f i (rw high g.1) j
              (rw width g.2) g.3;
        }),
        λ x i l j k b. x.rows i j (e, rw (← high) l, rw (← width) k, b),
      )
    where
      k₁ : ℕ
      k₁ = first_sort sheet r

      k₂ : ℕ
      k₂ = second_sort sheet r

      width : row_length sheet r ≡ scope sheet k₂
      width = rw e

      high : row_count sheet r ≡ scope sheet k₁
      high = rw e

      In : ℕ → ℕ → Type 0
      In i j = byte instance (cell sheet r i j) ≡ 1 → IsAtom sheet instance k₁ i × IsAtom sheet instance k₂ j

      is-in : (i j : ℕ) → CanBe sheet k₁ i → CanBe sheet k₂ j → Is (cell_inside sheet instance r i j) (In i j)
      is-in i j l m =
          subst (λ (b : Bool). Is (implies (
            flag_at sheet instance (cell sheet r i j),
            cond b (member_at sheet instance k₁ j)
                (both (member_at sheet instance k₁ i, member_at sheet instance k₂ j)),
          )) (In i j)) (sym (ne_eqb (columns sheet r) 1 (λ d. omega arith)))
          (is-implies (flag_at sheet instance (cell sheet r i j))
          (both (member_at sheet instance k₁ i, member_at sheet instance k₂ j))
          (is-eqb (byte instance (cell sheet r i j)) 1)
          (is-and (member_at sheet instance k₁ i) (member_at sheet instance k₂ j) (is_member sheet instance k₁ i l)
          (is_member sheet instance k₂ j m)))

  pub evaluates-inside : ((r : ℕ) → r < relation_count sheet → (columns sheet r ≡ 1) ⊎ (columns sheet r ≡ 2))
      → Is (cells_inside sheet instance) ((r : ℕ) → r < relation_count sheet → OfAtoms sheet instance r)
  unfolding cells_inside
  evaluates-inside c =
      is-each in_relation (relation_count sheet) (OfAtoms sheet instance)
      (λ r l. ⊎_elim (inside-set r) (inside-relation r) (c r l))
