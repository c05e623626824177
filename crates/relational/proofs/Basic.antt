-- 2.2.1 Basic expressions: what the leaves stand for, and union, intersection, difference from what the operands stand for.
use mathlib.Core.Path.{◌≡◌, refl, ap, ◌∙◌, subst}
use mathlib.Core.Logic.{⊎_elim}
use mathlib.Core.Bool.{Bool, true, false, cond, false≢true}
use mathlib.Core.List.{List, map}
use Prim.Native.Nat.{ℕ, ◌+◌, ◌*◌, ◌<◌}
use native.Mathlib.Omega.{arith}
use lib.Dec.{eqb}
use lib.ListN.{get_or}
use Rattle.sheet_rules.specs.Blocks.{Sheet, byte, scope, is_bounded, sort_of, columns, first_sort, second_sort}
use Rattle.relational.specs.declared.Leaf.TheVariants.{Relation as relation, Variable as variable, Atoms as atoms}
use Rattle.relational.specs.declared.Leaf.TheVariants.{Identity as identity}
use Rattle.relational.specs.declared.Binary.TheVariants.{Union as union, Intersection as intersection}
use Rattle.relational.specs.declared.Binary.TheVariants.{Difference as difference}
use Rattle.relational.specs.Cells.{row_length, member_cell, first_cell, cell}
use Rattle.relational.specs.Meaning.{Tuple, one, two, Tuples, Environment, Combined, CanBe, IsAtom, Given}
use Rattle.relational.specs.Meaning.{Denoted}
use Rattle.relational.specs.Matrices.{from, upto, Place, places, Matrix, same_size, matched}
use Rattle.relational.specs.Evaluation.{either, both, without, value_binary, flag_at, value_leaf, member_at}
use Rattle.relational.proofs.Places.{length-map-from, from_at, map-map}
use Rattle.relational.proofs.Flags.{Is, recast, is-or, is-and, is-without, is-eqb}
use Rattle.relational.proofs.Stands.{Size, line, table, matrix_of, total, Fits, place, place-lt, Stands}
use Rattle.relational.proofs.Stands.{cells-flat, cells-line, cells-table}

-- ---- relations, variables, sorts, identities
module _ (sheet : Sheet) (instance : List ℕ) where
  pub flags-at : (s n k : ℕ) → k < n → Is (get_or (map (flag_at sheet instance) (from s n)) k false) (byte instance (s + k) ≡ 1)
  flags-at s n k h = rw (from_at (flag_at sheet instance) false s n k h) (is-eqb (byte instance (s + k)) 1)

  pub stands_set : (r : ℕ) (env : Environment) → columns sheet r ≡ 1
      → Stands (line (scope sheet (first_sort sheet r))) (value_leaf sheet instance relation r env) (Given sheet instance r)
  stands_set r env e = (
    map (flag_at sheet instance) (from (first_cell sheet r) (1 * n)),
    rw e,
    record { size = length-map-from (flag_at sheet instance) (first_cell sheet r) (1 * n); fits = fits; cell = at },
  )
    where
      n : ℕ
      n = scope sheet (first_sort sheet r)

      fits : (t : Tuple) → Given sheet instance r t → Fits (line n) t
      fits (one i) x = x.1
      fits (two i j) x = absurd (omega (arith, e, x.0))

      at : (t : Tuple) → Fits (line n) t
          → Is (get_or (map (flag_at sheet instance) (from (first_cell sheet r) (1 * n))) (place (line n) t) false) (Given sheet instance r t)
      at (one i) h =
          let z : cell sheet r 0 i ≡ first_cell sheet r + i = omega arith in
          recast (flags-at (first_cell sheet r) (1 * n) i (omega arith)) ((λ x. (e, h, rw z x)), λ x. rw (← z) x.2)
      at (two i j) h = absurd h

  pub stands-relation : (r : ℕ) (env : Environment) → columns sheet r ≡ 2
      → Stands (table (scope sheet (first_sort sheet r)) (scope sheet (second_sort sheet r))) (value_leaf sheet instance relation r env)
      (Given sheet instance r)
  stands-relation r env e = (
    map (flag_at sheet instance) (from (first_cell sheet r) (n * m)),
    rw e,
    record { size = length-map-from (flag_at sheet instance) (first_cell sheet r) (n * m); fits = fits; cell = at },
  )
    where
      n : ℕ
      n = scope sheet (first_sort sheet r)

      m : ℕ
      m = scope sheet (second_sort sheet r)

      width : row_length sheet r ≡ m
      width = rw e

      fits : (t : Tuple) → Given sheet instance r t → Fits (table n m) t
      fits (one i) x = absurd (omega (arith, e, x.0))
      fits (two i j) x = (x.1, x.2)

      at : (t : Tuple) → Fits (table n m) t
          → Is (get_or (map (flag_at sheet instance) (from (first_cell sheet r) (n * m))) (place (table n m) t) false) (Given sheet instance r t)
      at (one i) h = absurd h
      at (two i j) h =
          let z : cell sheet r i j ≡ first_cell sheet r + (i * m + j) = ap (λ (w : ℕ). first_cell sheet r + (i * w + j)) width in
          recast (flags-at (first_cell sheet r) (n * m) (i * m + j) (place-lt (table n m) (two i j) h))
          ((λ x. (e, h.0, h.1, rw z x)), λ x. rw (← z) x.3)

  -- the flag of an atom that a sort can have
  pub is_member : (k i : ℕ) → CanBe sheet k i → Is (member_at sheet instance k i) (IsAtom sheet instance k i)
  is_member k i l = go (is_bounded sheet k)
    where
      go : (b : Bool) → Is (cond b (flag_at sheet instance (member_cell sheet k i)) true)
          (CanBe sheet k i × (b ≡ true → byte instance (member_cell sheet k i) ≡ 1))
      go true = recast (is-eqb (byte instance (member_cell sheet k i)) 1) ((λ e. (l, λ t. e)), λ x. x.1 refl)
      go false = ((λ e. (l, λ t. absurd (false≢true t))), λ x. refl)

  pub stands-variable : (x : ℕ) (env : Environment) → CanBe sheet (sort_of sheet x) (env x)
      → Stands (line (scope sheet (sort_of sheet x))) (value_leaf sheet instance variable x env) (Denoted sheet instance variable x env)
  stands-variable x env low = (
    map (λ (i : ℕ). eqb i (env x)) (upto (scope sheet (sort_of sheet x))),
    refl,
    cells-line (Denoted sheet instance variable x env) (scope sheet (sort_of sheet x)) (λ i. eqb i (env x)) fits
        (λ i l. is-eqb i (env x)),
  )
    where
      fits : (t : Tuple) → Denoted sheet instance variable x env t → Fits (line (scope sheet (sort_of sheet x))) t
      fits (one i) e = rw e low
      fits (two i j) e = absurd e

  pub stands-sort : (k : ℕ) (env : Environment)
      → Stands (line (scope sheet k)) (value_leaf sheet instance atoms k env) (Denoted sheet instance atoms k env)
  stands-sort k env = (
    map (member_at sheet instance k) (upto (scope sheet k)),
    refl,
    cells-line (Denoted sheet instance atoms k env) (scope sheet k) (member_at sheet instance k) fits
        (λ i l. is_member k i l),
  )
    where
      fits : (t : Tuple) → Denoted sheet instance atoms k env t → Fits (line (scope sheet k)) t
      fits (one i) e = e.0
      fits (two i j) e = absurd e

  pub stands-identity : (k : ℕ) (env : Environment)
      → Stands (table (scope sheet k) (scope sheet k)) (value_leaf sheet instance identity k env) (Denoted sheet instance identity k env)
  stands-identity k env = (
    map diagonal (places (scope sheet k) (scope sheet k)),
    refl,
    cells-table (Denoted sheet instance identity k env) (scope sheet k) (scope sheet k) diagonal fits
        (λ i j hi hj. on-diagonal (eqb i j) (member_at sheet instance k i) (is-eqb i j) (is_member k i hi)),
  )
    where
      fits : (t : Tuple) → Denoted sheet instance identity k env t → Fits (table (scope sheet k) (scope sheet k)) t
      fits (one i) e = absurd e
      fits (two i j) e = (e.0.0, subst (λ (y : ℕ). y < scope sheet k) e.1 e.0.0)

      diagonal : Place → Bool
      diagonal t = cond (eqb t.0 t.1) (member_at sheet instance k t.0) false

      on-diagonal : {P Q : Type 0} (a b : Bool) → Is a P → Is b Q → Is (cond a b false) (Q × P)
      on-diagonal true b p q = ((λ e. (q.0 e, p.0 refl)), λ x. q.1 x.0)
      on-diagonal false b p q = ((λ e. absurd (false≢true e)), λ x. p.1 x.1)

-- ---- union, intersection, difference: place by place
abbrev pub cell_pair : List Bool → List Bool → ℕ → Bool × Bool
cell_pair p q k = (get_or p k false, get_or q k false)

pub matched-is : (z : Size) (p q : List Bool) → matched false (matrix_of z p) (matrix_of z q) ≡ map (cell_pair p q) (upto (total z))
matched-is (line n) p q = refl
matched-is (table r c) p q = refl

same_size_lem : (z : Size) (p bs : List Bool) → same_size (matrix_of z p) bs ≡ matrix_of z bs
same_size_lem (line n) p bs = refl
same_size_lem (table r c) p bs = refl

-- what a pair of cells, for P and for Q, says of a tuple
abbrev pub Decides : Tuples → Tuples → Tuples → (Bool × Bool → Bool) → Type 0
Decides P Q R o = (t : Tuple) → (x y : Bool) → Is x (P t) → Is y (Q t) → Is (o (x, y)) (R t)

module _ {z : Size} {m k : Matrix Bool} {P Q : Tuples} (a : Stands z m P) (b : Stands z k Q) where
  stands-matched : (R : Tuples) (o : Bool × Bool → Bool) → Decides P Q R o → ((t : Tuple) → R t → Fits z t)
      → Stands z (same_size m (map o (matched false m k))) R
  stands-matched R o d fits =
      let p : List Bool = a.0 in
      let q : List Bool = b.0 in
      let e : map o (matched false (matrix_of z p) (matrix_of z q)) ≡ map (λ (i : ℕ). o (cell_pair p q i)) (upto (total z))
      = ap (λ l. map o l) (matched-is z p q) ∙ map-map o (cell_pair p q) (upto (total z)) in (
        map (λ (i : ℕ). o (cell_pair p q i)) (upto (total z)),
        rw (a.1, b.1) (same_size_lem z p (map o (matched false (matrix_of z p) (matrix_of z q))) ∙ ap (matrix_of z) e),
        cells-flat R z (λ (i : ℕ). o (cell_pair p q i)) fits
            (λ t h. d t (get_or p (place z t) false) (get_or q (place z t) false) (a.2.cell t h) (b.2.cell t h)),
      )

  pub stands-union : Stands z (value_binary union m k) (Combined union P Q)
  stands-union =
      stands-matched (Combined union P Q) either (λ t x y h g. is-or x y h g) (λ t r. ⊎_elim (a.2.fits t) (b.2.fits t) r)

  pub stands-intersection : Stands z (value_binary intersection m k) (Combined intersection P Q)
  stands-intersection =
      stands-matched (Combined intersection P Q) both (λ t x y h g. is-and x y h g) (λ t r. a.2.fits t r.0)

  pub stands-difference : Stands z (value_binary difference m k) (Combined difference P Q)
  stands-difference =
      stands-matched (Combined difference P Q) without (λ t x y h g. is-without x y h g) (λ t r. a.2.fits t r.0)
