-- Cells filled one after the other, and what a matrix has at a place.
use mathlib.Core.Path.{◌≡◌, refl, sym, ap, ◌∙◌, subst}
use mathlib.Core.List.{List, [], ◌∷◌, ◌++◌, map, map-append}
use mathlib.Core.Logic.{⊎_elim, inl, inr, ◌⊎◌}
use Prim.Native.Nat.{ℕ, zero, suc, ◌+◌, ◌*◌, ◌≤◌, ◌<◌}
use native.Mathlib.Omega.{arith}
use mathlib.Core.Bool.{Bool, true, false, cond}
use lib.Dec.{ltb, eqb}
use lib.IntN.{ℤ, pos, negsuc}
use lib.ListN.{length, get_or, take, set, replicate, length-set, length-map, length-take, length-replicate, get_or-replicate}
use lib.ListN.{get_or-eq_default}
use lib.Seq.{length-take-le, take-suc-set, get_or-take, get_or-set_other}
use borrow.Author.Tests.{ltb-true, ltb-false}
use Rattle.prelude.proofs.Laws.{decided}
use Rattle.literal.specs.Literals.{Literal}
use Rattle.literal.specs.Words.{literal_of}
use Rattle.relational.specs.Matrices.{from, upto, cell_at, join_columns}
use Rattle.relational.proofs.Places.{place-below, square}
use Rattle.clauses_rules.specs.Builder.{Builder, each}
use Rattle.clauses_rules.specs.Translation.{Two, absent}
use Rattle.clauses_emission.specs.declared.Tape.{Tape}
use Rattle.clauses_matrix.specs.Matrices.{Literals}
use Rattle.clauses_emission.specs.Emission.{Inside, AllInside, literals_of, most_inputs, Inputs, Bounded, EmitsLiteral}
use Rattle.clauses_matrix.specs.Matrices.{cells_of, Cells, matrix_of, Operand, EmitsCells}
use Rattle.clauses_emission.proofs.Ranges.{inside-absent, all-grows, literal-at}
use Rattle.clauses_emission.proofs.Steps.{Regular, emits-return, emits-more, emits-as}

-- ---- nothing filled yet
pub blank-inside : (n m : ℕ) → 2 ≤ n → AllInside n (literals_of (replicate m (negsuc 0)))
blank-inside n zero h i = inside-absent n h
blank-inside n (suc m) h zero = inside-absent n h
blank-inside n (suc m) h (suc i) = blank-inside n m h i

cells-blank : (n : ℕ) → 2 ≤ n → Cells 0 n (replicate 64 (negsuc 0))
cells-blank n h = record {
  room = length-replicate 64 (negsuc 0);
  small = omega arith;
  rest = λ k l m. get_or-replicate 64 k (negsuc 0) (pos 0) m;
  inside = blank-inside n 64 h;
}

module _ {A : Type 0} (step : A → Builder Literal) (f : ℕ → A) where
  pub cells-start : (list : List ℤ) (tape : Tape) → Bounded tape
      → EmitsCells 0 (each step (map f (upto 0)) tape.next) list tape (replicate 64 (negsuc 0)) list tape
  unfolding each
  cells-start list tape b = emits-return [] list tape b (cells-blank tape.next b.first)

from-same : {A : Type 0} (f g : ℕ → A) (s n : ℕ) → ((j : ℕ) → j < s + n → f j ≡ g j) → map f (from s n) ≡ map g (from s n)
from-same f g s zero h = refl
from-same f g s (suc n) h = rw (h s (omega arith), from-same f g (suc s) n (λ j l. h j (omega arith)))

pub map_same : {A : Type 0} (f g : ℕ → A) (n : ℕ) → ((j : ℕ) → j < n → f j ≡ g j) → map f (upto n) ≡ map g (upto n)
map_same f g n h = from-same f g 0 n (λ j l. h j (omega arith))

-- ---- one more cell
pub all_set : (n : ℕ) (ws : List ℤ) (k : ℕ) (w : ℤ) → AllInside n (literals_of ws) → Inside n (literal_of w) → AllInside n (literals_of (set ws k w))
all_set n [] k w a i j = a j
all_set n (v ∷ ws) zero w a i zero = i
all_set n (v ∷ ws) zero w a i (suc j) = a (suc j)
all_set n (v ∷ ws) (suc k) w a i zero = a 0
all_set n (v ∷ ws) (suc k) w a i (suc j) = all_set n ws k w (λ m. a (suc m)) i j

cells-grow : {size n m : ℕ} {ws : List ℤ} → n ≤ m → Cells size n ws → Cells size m ws
cells-grow {size} {n} {m} {ws} h c =
    record { room = c.room; small = c.small; rest = c.rest; inside = all-grows (literals_of ws) h c.inside }

cells-set : (k n : ℕ) (ws : List ℤ) (w : ℤ) → k < 64 → Cells k n ws → Inside n (literal_of w) → Cells (suc k) n (set ws k w)
cells-set k n ws w h c i = record {
  room = length-set ws k w ∙ c.room;
  small = h;
  rest = λ j l m. get_or-set_other ws k j w (pos 0) (λ e. omega (arith, e)) ∙ c.rest j (omega arith) m;
  inside = all_set n ws k w c.inside i;
}

pub cells-more : (k : ℕ) (ws : List ℤ) (w : ℤ) → k < length ws → cells_of k ws ++ (literal_of w ∷ []) ≡ cells_of (suc k) (set ws k w)
cells-more k ws w h = sym (ap literals_of (take-suc-set ws k w h) ∙ map-append literal_of (take k ws) (w ∷ []))

module _ {A : Type 0} (step : A → Builder Literal) (regular : (x : A) → Regular (step x)) (f : ℕ → A) where
  pub cells-next : (k : ℕ) (ws : List ℤ) (w : ℤ) {old mid new : List ℤ} {a b c : Tape} → k < 64
      → EmitsCells k (each step (map f (upto k)) a.next) old a ws mid b → EmitsLiteral (step (f k) b.next) mid b w new c
      → EmitsCells (suc k) (each step (map f (upto (suc k))) a.next) old a (set ws k w) new c
  cells-next k ws w {old} {mid} {new} {a} {b} {c} h p q =
      emits-as refl (cells-more k ws w (omega (arith, p.fine.room)))
      (emits-more step regular f k p q (cells-set k c.next ws w h (cells-grow q.grows p.fine) q.fine))

  -- all cells: what is worked on may go by other names
  pub cells-done : (g : ℕ → A) (k size : ℕ) (ws : List ℤ) {old new : List ℤ} {a b : Tape} → k ≤ size → size ≤ k
      → ((j : ℕ) → j < size → f j ≡ g j) → EmitsCells k (each step (map f (upto k)) a.next) old a ws new b
      → EmitsCells size (each step (map g (upto size)) a.next) old a ws new b
  cells-done g k size ws {old} {new} {a} {b} l h same p =
      let e : k ≡ size = omega arith in
      subst (λ (xs : List A). EmitsCells size (each step xs a.next) old a ws new b) (map_same f g size same)
      (subst (λ (n : ℕ). EmitsCells n (each step (map f (upto n)) a.next) old a ws new b) e p)

-- ---- the cell at a place
pub below-or-past : (k n : ℕ) → (k < n) ⊎ (n ≤ k)
below-or-past k n = ⊎_elim (λ t. inl (ltb-true k n t)) (λ f. inr (ltb-false k n f)) (decided (ltb k n))

cells_at : (size n : ℕ) (ws : List ℤ) (k : ℕ) → Cells size n ws → k < 64 → get_or (cells_of size ws) k absent ≡ literal_of (get_or ws k (pos 0))
cells_at size n ws k c h = ⊎_elim inner outer (below-or-past k size)
  where
    count : length (take size ws) ≡ size
    count = length-take-le size ws (omega (arith, c.room, c.small))

    inner : k < size → get_or (cells_of size ws) k absent ≡ literal_of (get_or ws k (pos 0))
    inner l = literal-at (take size ws) k (omega (arith, count)) ∙ ap literal_of (get_or-take size ws k (pos 0) l)

    outer : size ≤ k → get_or (cells_of size ws) k absent ≡ literal_of (get_or ws k (pos 0))
    outer l =
        get_or-eq_default (cells_of size ws) absent {n = k} (omega (arith, length-map (take size ws) literal_of, count))
        ∙ sym (ap literal_of (c.rest k l h))

pub cells-length : (size n : ℕ) (ws : List ℤ) → Cells size n ws → length (cells_of size ws) ≡ size
cells-length size n ws c = length-map (take size ws) literal_of ∙ length-take-le size ws (omega (arith, c.room, c.small))

module _ (n : ℕ) (m : Literals) (k : ℕ) (o : Operand n m) (h : k < 64) where
  pub operand_at : literal_of (get_or m.cells k (pos 0)) ≡ cell_at absent (matrix_of m) k
  operand_at = sym (cells_at (m.rows * m.columns) n m.cells k o.cells h)

  pub operand-inside : Inside n (literal_of (get_or m.cells k (pos 0)))
  operand-inside = rw (literal-at m.cells k (omega (arith, o.cells.room))) at (o.cells.inside k)

pub operand-grow : {n p : ℕ} {m : Literals} → n ≤ p → Operand n m → Operand p m
operand-grow h o = record {
  arity_low = o.arity_low;
  arity_high = o.arity_high;
  set = o.set;
  rows = o.rows;
  columns = o.columns;
  cells = cells-grow h o.cells;
}

-- two cells, as the code reads them
abbrev pub pair_at : List ℤ → List ℤ → (ℕ → ℕ) → (ℕ → ℕ) → ℕ → Two
pair_at left right i j k = (literal_of (get_or left (i k) (pos 0)), literal_of (get_or right (j k) (pos 0)))

-- ---- what the cells of a matrix go into
pub cell_below : (r c k : ℕ) → r ≤ 8 → c ≤ 8 → k < r * c → k < 64
cell_below r c k h l b = omega (arith, square h l)

pub place_in : (r c i j : ℕ) → r ≤ 8 → c ≤ 8 → i < r → j < c → i * c + j < 64
place_in r c i j h l a b = cell_below r c (i * c + j) h l (place-below r c i j a b)

-- ---- cells that go into an OR
pub all-front : (n k : ℕ) (ws : List ℤ) → 2 ≤ n → AllInside n (literals_of ws) → AllInside n (literals_of (take k ws))
all-front n zero ws h a i = inside-absent n h
all-front n (suc k) [] h a i = inside-absent n h
all-front n (suc k) (w ∷ ws) h a zero = a 0
all-front n (suc k) (w ∷ ws) h a (suc i) = all-front n k ws h (λ j. a (suc j)) i

pub inputs-front : (k n : ℕ) (ws : List ℤ) → 2 ≤ n → length ws ≤ most_inputs → AllInside n (literals_of ws) → Inputs n (take k ws)
inputs-front k n ws h l a = record { few = omega (arith, length-take k ws); inside = all-front n k ws h a }

pub front-inputs : (size k n : ℕ) (ws : List ℤ) → 2 ≤ n → Cells size n ws → Inputs n (take k ws)
front-inputs size k n ws h c = inputs-front k n ws h (omega (arith, c.room)) c.inside

-- ---- a set on the right of a join is a column
few_columns : (b : Bool) (c : ℕ) → c ≤ 8 → cond b 1 c ≤ 8
few_columns true c h = omega arith
few_columns false c h = h

pub join-few : (n : ℕ) (q : Literals) → Operand n q → join_columns (matrix_of q) ≤ 8
join-few n q o = few_columns (eqb q.arity 1) q.columns o.columns
