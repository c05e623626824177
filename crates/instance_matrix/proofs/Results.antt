-- What a filled array stands for, operator by operator.
use mathlib.Core.Path.{◌≡◌, refl, sym, ap, ap₂, ◌∙◌, subst}
use mathlib.Core.Logic.{inl, inr}
use mathlib.Core.Bool.{Bool, true, false, cond}
use mathlib.Core.List.{List, map}
use Prim.Native.Nat.{ℕ, ◌+◌, ◌*◌, ◌/◌, ◌%◌, ◌≤◌, ◌<◌}
use native.Mathlib.Omega.{arith}
use lib.Dec.{eqb}
use lib.ListN.{get_or, take}
use borrow.Author.Tests.{eq-eqb, ne_eqb}
use Rattle.prelude.specs.Tests.{any}
use Rattle.sheet_rules.specs.Blocks.{byte}
use Rattle.relational.specs.declared.Binary.TheVariants.{Join as join, Product as product}
use Rattle.relational.specs.declared.Unary.TheVariants.{Inverse as inverse}
use Rattle.relational.specs.Matrices.{Matrix, upto, Place, places, set_of, relation_of, same_size, cell_at, join_columns}
use Rattle.relational.specs.Matrices.{matched, middles, crossed}
use Rattle.relational.specs.Evaluation.{both, join_cells, value_binary, value_unary}
use Rattle.relational.proofs.Places.{map-map, length-map-from, from_at, upto-at, square}
use Rattle.instance_matrix.specs.Values.{Value, matrix_of, sized, flags_from, SetOrRelation, Fine, Gives}
use Rattle.instance_matrix.proofs.Filling.{Filled, ByPlace, filled-list, filled-upto, filled-places, places-list, cells_of}

abbrev pub value : ℕ → ℕ → ℕ → List Bool → Value
value arity rows columns cells = record { arity = arity; rows = rows; columns = columns; cells = cells }

pub gives_as : (v : Value) (m n : Matrix Bool) → m ≡ n → Gives v m → Gives v n
gives_as v m n e g = record { fine = g.fine; is = g.is ∙ e }

-- ---- any matrix, and a set of n
pub gives : (arity rows columns : ℕ) (cells : List Bool) (f : ℕ → Bool) (l : List Bool) → rows ≤ 8 → columns ≤ 8 → SetOrRelation arity rows
    → Filled cells f (rows * columns) → take (rows * columns) cells ≡ l
    → Gives (value arity rows columns cells) (sized arity rows columns l)
gives arity rows columns cells f l hr hc s u e =
    record {
      fine = record { few_rows = hr; few_columns = hc; set_or_relation = s; long = u.long; rest = u.rest };
      is = ap (sized arity rows columns) e;
    }

pub gives_set : (n : ℕ) (cells : List Bool) (f : ℕ → Bool) (l : List Bool) → n ≤ 8 → Filled cells f n → take n cells ≡ l
    → Gives (value 1 1 n cells) (set_of n l)
gives_set n cells f l h u e =
    let one : n ≡ 1 * n = omega arith in
    gives 1 1 n cells f l (omega arith) h (inl (refl, refl)) (subst (λ (m : ℕ). Filled cells f m) one u) (rw (← one) e)

-- ---- 2.2.1 relations, variables, sorts, identities
pub given-law : (instance : List ℕ) (first arity rows columns : ℕ) (cells : List Bool) → rows ≤ 8 → columns ≤ 8
    → SetOrRelation arity rows → Filled cells (λ j. eqb (byte instance (first + j)) 1) (rows * columns)
    → Gives (value arity rows columns cells) (sized arity rows columns (flags_from instance first (rows * columns)))
given-law instance first arity rows columns cells hr hc s u =
    let n : ℕ = rows * columns in
    let flag : ℕ → Bool = λ i. eqb (byte instance i) 1 in
    gives arity rows columns cells (λ j. flag (first + j)) (flags_from instance first n) hr hc s u
    (filled-list cells (λ j. flag (first + j)) n u (square hr hc) (flags_from instance first n)
    (length-map-from flag first n) (λ j l. sym (from_at flag false first n j l)))

pub upto-law : (n : ℕ) (f : ℕ → Bool) (cells : List Bool) (k : ℕ) → k ≡ n → n ≤ 8 → Filled cells f k
    → Gives (value 1 1 n cells) (set_of n (map f (upto n)))
upto-law n f cells k e h u =
    let w : Filled cells f n = subst (λ (m : ℕ). Filled cells f m) e u in
    gives_set n cells f (map f (upto n)) h w (filled-upto cells f n w (omega arith) f (λ j l. refl))

pub places-law : (r c : ℕ) (g : Place → Bool) (cells : List Bool) → r ≤ 8 → c ≤ 8 → ByPlace cells g r c
    → Gives (value 2 r c cells) (relation_of r c (map g (places r c)))
places-law r c g cells hr hc u =
    gives 2 r c cells (λ k. g (k / c, k % c)) (map g (places r c)) hr hc (inr refl) (filled-places cells g r c u)
    (places-list cells g r c u (square hr hc))

-- the identity on the atoms of a set
module _ (p : Value) (fp : Fine p) (n : ℕ) (f : ℕ → Bool) (e : matrix_of p ≡ set_of n (map f (upto n))) where
  wide : p.columns ≡ n
  wide = ap (λ (m : Matrix Bool). m.columns) e

  atom-at : (i : ℕ) → i < p.columns → get_or p.cells i false ≡ f i
  atom-at i l =
      ap (λ (x : ℕ → Bool). x i) (sym (cells_of p fp)) ∙ ap (λ (m : Matrix Bool). cell_at false m i) e
      ∙ upto-at f false n i (omega (arith, wide))

  abbrev on_diagonal : Place → Bool
  on_diagonal t = cond (eqb t.0 t.1) (f t.0) false

  pub identity-law : (cells : List Bool)
      → ByPlace cells (λ t. cond (eqb t.0 t.1) (get_or p.cells t.0 false) false) p.columns p.columns
      → Gives (value 2 p.columns p.columns cells) (relation_of n n (map on_diagonal (places n n)))
  identity-law cells u =
      let c : ℕ = p.columns in
      gives_as _ _ _ (ap (λ (m : ℕ). relation_of m m (map on_diagonal (places m m))) wide)
      (places-law c c on_diagonal cells fp.few_columns fp.few_columns
      (record {
        long = u.long;
        each = λ i j li lj. u.each i j li lj ∙ ap (λ (b : Bool). cond (eqb i j) b false) (atom-at i li);
        rest = u.rest;
      }))

-- ---- two operands
module _ (p q : Value) (fp : Fine p) (fq : Fine q) where
  -- ---- 2.2.1 union, intersection, difference
  -- the operands' cells, as the code reads them, here and below
  pub matched-cells : matched false (matrix_of p) (matrix_of q)
      ≡ map {B = Bool × Bool} (λ (k : ℕ). (get_or p.cells k false, get_or q.cells k false)) (upto (p.rows * p.columns))
  matched-cells =
      ap₂ (λ (x y : ℕ → Bool). map {B = Bool × Bool} (λ (k : ℕ). (x k, y k)) (upto (p.rows * p.columns))) (cells_of p fp) (cells_of q fq)

  pub matched-law : (paired : Bool × Bool → Bool) (cells : List Bool)
      → Filled cells (λ j. paired (get_or p.cells j false, get_or q.cells j false)) (p.rows * p.columns)
      → Gives (value p.arity p.rows p.columns cells)
      (same_size (matrix_of p) (map paired (matched false (matrix_of p) (matrix_of q))))
  matched-law paired cells u =
      let n : ℕ = p.rows * p.columns in
      let pair : ℕ → Bool × Bool = λ j. (get_or p.cells j false, get_or q.cells j false) in
      let f : ℕ → Bool = λ j. paired (pair j) in
      gives p.arity p.rows p.columns cells f (map paired (matched false (matrix_of p) (matrix_of q))) fp.few_rows
      fp.few_columns fp.set_or_relation u
      (filled-upto cells f n u (square fp.few_rows fp.few_columns) f (λ j l. refl)
      ∙ sym (map-map paired pair (upto n)) ∙ ap (map paired) (sym matched-cells))

  -- ---- 2.2.2 join
  pub middle-cells : (i j : ℕ) → middles false (matrix_of p) (matrix_of q) (i, j)
      ≡ map {B = Bool × Bool}
      (λ (k : ℕ). (get_or p.cells (i * p.columns + k) false, get_or q.cells (k * join_columns (matrix_of q) + j) false))
      (upto p.columns)
  middle-cells i j =
      ap₂
      (λ (x y : ℕ → Bool).
      map {B = Bool × Bool} (λ (k : ℕ). (x (i * p.columns + k), y (k * join_columns (matrix_of q) + j))) (upto p.columns))
      (cells_of p fp) (cells_of q fq)

  -- a join that is a set is small: a set has one row, and as a right operand one column
  join-narrow : join_columns (matrix_of q) ≤ 8
  join-narrow = go (eqb q.arity 1)
    where
      go : (b : Bool) → cond b 1 q.columns ≤ 8
      go true = omega arith
      go false = fq.few_columns

  join-small : (p.arity + q.arity ≡ 4 → ⊥) → p.rows * join_columns (matrix_of q) ≤ 8
  join-small apart = go fp.set_or_relation fq.set_or_relation
    where
      go : SetOrRelation p.arity p.rows → SetOrRelation q.arity q.rows → p.rows * join_columns (matrix_of q) ≤ 8
      go (inl h) s = rw h.1 (omega (arith, join-narrow))
      go (inr h) (inl g) = rw (eq-eqb q.arity 1 g.0) (omega (arith, fp.few_rows))
      go (inr h) (inr g) = absurd (apart (omega arith))

  pub join-relation : (cells : List Bool) (c : ℕ) → c ≡ join_columns (matrix_of q) → p.arity + q.arity ≡ 4
      → ByPlace cells (λ t. any both (middles false (matrix_of p) (matrix_of q) t)) p.rows c
      → Gives (value 2 p.rows c cells) (value_binary join (matrix_of p) (matrix_of q))
  join-relation cells c e s u =
      rw (eq-eqb (p.arity + q.arity) 4 s, e)
      (places-law p.rows (join_columns (matrix_of q)) _ cells fp.few_rows join-narrow (rw e at u))

  pub join-set : (cells : List Bool) (c n : ℕ) → c ≡ join_columns (matrix_of q) → n ≡ p.rows * c → (p.arity + q.arity ≡ 4 → ⊥)
      → ByPlace cells (λ t. any both (middles false (matrix_of p) (matrix_of q) t)) p.rows c
      → Gives (value 1 1 n cells) (value_binary join (matrix_of p) (matrix_of q))
  join-set cells c n e en s u =
      let w = rw e at u in
      rw (ne_eqb (p.arity + q.arity) 4 s, en, e)
      (gives_set (p.rows * join_columns (matrix_of q)) cells _ (join_cells (matrix_of p) (matrix_of q)) (join-small s)
      (filled-places cells _ p.rows (join_columns (matrix_of q)) w)
      (places-list cells _ p.rows (join_columns (matrix_of q)) w (square fp.few_rows join-narrow)))

  -- ---- 2.2.3 product
  crossed-cells : crossed false (matrix_of p) (matrix_of q)
      ≡ map {B = Bool × Bool} (λ (t : Place). (get_or p.cells t.0 false, get_or q.cells t.1 false))
      (places p.columns q.columns)
  crossed-cells =
      ap₂ (λ (x y : ℕ → Bool). map {B = Bool × Bool} (λ (t : Place). (x t.0, y t.1)) (places p.columns q.columns))
      (cells_of p fp) (cells_of q fq)

  pub product_law : (cells : List Bool)
      → ByPlace cells (λ t. both (get_or p.cells t.0 false, get_or q.cells t.1 false)) p.columns q.columns
      → Gives (value 2 p.columns q.columns cells) (value_binary product (matrix_of p) (matrix_of q))
  product_law cells u =
      let r : ℕ = p.columns in
      let c : ℕ = q.columns in
      let pair : Place → Bool × Bool = λ t. (get_or p.cells t.0 false, get_or q.cells t.1 false) in
      let same : map (λ (t : Place). both (pair t)) (places r c) ≡ map both (crossed false (matrix_of p) (matrix_of q))
      = sym (map-map both pair (places r c)) ∙ ap (map both) (sym crossed-cells) in
      subst (λ (l : List Bool). Gives (value 2 r c cells) (relation_of r c l)) same
      (places-law r c (λ t. both (pair t)) cells fp.few_columns fq.few_columns u)

-- ---- 2.2.4 inverse
pub inverse-law : (p : Value) → Fine p → (cells : List Bool)
    → ByPlace cells (λ t. get_or p.cells (t.1 * p.columns + t.0) false) p.columns p.rows
    → Gives (value 2 p.columns p.rows cells) (value_unary inverse (matrix_of p))
inverse-law p fp cells u =
    let r : ℕ = p.columns in
    let c : ℕ = p.rows in
    let same = ap (λ (x : ℕ → Bool). map (λ (t : Place). x (t.1 * r + t.0)) (places r c)) (cells_of p fp) in
    subst (λ (l : List Bool). Gives (value 2 r c cells) (relation_of r c l)) (sym same)
    (places-law r c (λ t. get_or p.cells (t.1 * r + t.0) false) cells fp.few_columns fp.few_rows u)
