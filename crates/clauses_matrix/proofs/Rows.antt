-- A row of the left operand of a join, as it is lent, and what meets of it and of a column of the right one.
use mathlib.Core.Path.{◌≡◌, refl, sym, ap, ◌∙◌}
use mathlib.Core.List.{List, [], ◌∷◌, ◌++◌, map}
use Prim.Native.Nat.{ℕ, zero, suc, ◌+◌, ◌-◌, ◌*◌, ◌/◌, ◌%◌, ◌≤◌, ◌<◌}
use native.Mathlib.Nat.{add-sub_cancel_left, mul-le-mul_right}
use native.Mathlib.Omega.{arith}
use lib.IntN.{ℤ, pos}
use lib.ListN.{length, get_or, take, drop, length-map, length-drop}
use lib.Seq.{length-take-le, get_or-take, get_or-drop}
use Rattle.literal.specs.Literals.{Literal}
use Rattle.literal.specs.Words.{literal_of}
use Rattle.relational.specs.Matrices.{upto, Place, places, Matrix, cell_at, join_columns, middles}
use Rattle.relational.proofs.Places.{map-map, square, row_below, column-below}
use Rattle.clauses_rules.specs.Builder.{Built, Builder, each}
use Rattle.clauses_rules.specs.Translation.{Two, absent}
use Rattle.clauses_emission.specs.Emission.{AllInside, literals_of}
use Rattle.clauses_emission.proofs.Ranges.{literal-at}
use Rattle.clauses_matrix.specs.Matrices.{Literals}
use Rattle.clauses_matrix.specs.Matrices.{matrix_of, Operand, join_cell, middle_at, row_middles, RowAndColumn}
use Rattle.clauses_matrix.proofs.Numbers.{place_of, places-by-number}
use Rattle.clauses_matrix.proofs.Fills.{map_same, all-front, operand_at, place_in, join-few}

-- ---- row i of a matrix of n columns: the words from i * n up to i * n + n
abbrev pub row_words : List ℤ → ℕ → ℕ → List ℤ
row_words ws n i = take (i * n + n - i * n) (drop (i * n) ws)

module _ (ws : List ℤ) (n i : ℕ) (h : i * n + n ≤ length ws) where
  row-length : length (row_words ws n i) ≡ n
  row-length =
      let e : i * n + n - i * n ≡ n = add-sub_cancel_left (i * n) n in
      length-take-le (i * n + n - i * n) (drop (i * n) ws) (omega (arith, e, length-drop (i * n) ws)) ∙ e

  row_at : (k : ℕ) → k < n → get_or (row_words ws n i) k (pos 0) ≡ get_or ws (i * n + k) (pos 0)
  row_at k l =
      get_or-take (i * n + n - i * n) (drop (i * n) ws) k (pos 0) (omega (arith, add-sub_cancel_left (i * n) n))
      ∙ get_or-drop (i * n) ws k (pos 0)

all_back : (n k : ℕ) (ws : List ℤ) → AllInside n (literals_of ws) → AllInside n (literals_of (drop k ws))
all_back n zero ws a i = a i
all_back n (suc k) [] a i = a i
all_back n (suc k) (w ∷ ws) a i = all_back n k ws (λ j. a (suc j)) i

pub row_fits : (r n i : ℕ) → r ≤ 8 → n ≤ 8 → i < r → i * n + n ≤ 64
row_fits r n i h l b = omega (arith, mul-le-mul_right n b, square h l)

-- ---- what makes the cell of number k of a join
abbrev pub middles_at : List ℤ → List ℤ → ℕ → ℕ → ℕ → List Two
middles_at left right n columns k =
    row_middles (literals_of (row_words left n (k / columns))) (literals_of right) columns (k % columns)

module _ {n : ℕ} {p q : Literals} (o : Operand n p) (r : Operand n q) (columns : ℕ) (same : columns ≡ join_columns (matrix_of q)) (k : ℕ)
    (h : k < p.rows * columns) where
  row_room : k / columns * p.columns + p.columns ≤ length p.cells
  row_room = rw o.cells.room (row_fits p.rows p.columns (k / columns) o.rows o.columns (row_below p.rows columns k h))

  narrow : columns ≤ 8
  narrow = omega (arith, same, join-few n q r)

  pub row-and-column : 2 ≤ n → RowAndColumn n (row_words p.cells p.columns (k / columns)) q.cells columns (k % columns)
  row-and-column b =
      let i = k / columns * p.columns in record {
        few = omega (arith, row-length p.cells p.columns (k / columns) row_room, o.columns);
        room = r.cells.room;
        narrow = narrow;
        column = column-below p.rows columns k h;
        row_inside = all-front n (i + p.columns - i) (drop i p.cells) b (all_back n i p.cells o.cells.inside);
        cells_inside_ok = r.cells.inside;
      }

  left-same : (a : ℕ) → a < p.columns
      → get_or (literals_of (row_words p.cells p.columns (k / columns))) a absent
      ≡ cell_at absent (matrix_of p) (k / columns * p.columns + a)
  left-same a l =
      let row = row_words p.cells p.columns (k / columns) in
      literal-at row a (omega (arith, row-length p.cells p.columns (k / columns) row_room))
      ∙ ap literal_of (row_at p.cells p.columns (k / columns) row_room a l)
      ∙ operand_at n p (k / columns * p.columns + a) o
      (place_in p.rows p.columns (k / columns) a o.rows o.columns (row_below p.rows columns k h) l)

  right-same : (a : ℕ) → a < p.columns
      → get_or (literals_of q.cells) (a * columns + k % columns) absent ≡ cell_at absent (matrix_of q) (a * columns + k % columns)
  right-same a l =
      let b = place_in p.columns columns a (k % columns) o.columns narrow l (column-below p.rows columns k h) in
      literal-at q.cells (a * columns + k % columns) (omega (arith, b, r.cells.room)) ∙ operand_at n q (a * columns + k % columns) r b

  pub middles-same : middles_at p.cells q.cells p.columns columns k ≡ middles absent (matrix_of p) (matrix_of q) (place_of columns k)
  middles-same =
      let row = row_words p.cells p.columns (k / columns) in
      let e : length (literals_of row) ≡ p.columns = length-map row literal_of ∙ row-length p.cells p.columns (k / columns) row_room in
      rw (e, ← same)
      (map_same (middle_at (literals_of row) (literals_of q.cells) columns (k % columns))
      (λ a. (cell_at absent (matrix_of p) (k / columns * p.columns + a), cell_at absent (matrix_of q) (a * columns + k % columns)))
      p.columns (λ a l. rw (left-same a l, right-same a l)))

-- steps over what is made from the members of a list
each_map : {A B C : Type 0} (step : B → Builder C) (f : A → B) (xs : List A) (g : ℕ) → each step (map f xs) g ≡ each (λ x. step (f x)) xs g
unfolding each
each_map step f [] g = refl
each_map {A} {B} {C} step f (x ∷ xs) g =
    ap (λ (u : Built (List C)). record { value = (step (f x) g).value ∷ u.value; gates = (step (f x) g).gates ++ u.gates; next = u.next })
    (each_map step f xs (step (f x) g).next)

-- the cells of a join, by their numbers
pub join-by-number : (p q : Matrix Literal) (columns g : ℕ)
    → each join_cell (map (λ k. middles absent p q (place_of columns k)) (upto (p.rows * columns))) g
    ≡ each (λ t. join_cell (middles absent p q t)) (places p.rows columns) g
join-by-number p q columns g =
    let f : Place → List Two = middles absent p q in
    ap (λ ts. each join_cell ts g)
    (sym (ap (map f) (places-by-number p.rows columns) ∙ map-map f (place_of columns) (upto (p.rows * columns))))
    ∙ each_map join_cell f (places p.rows columns) g
