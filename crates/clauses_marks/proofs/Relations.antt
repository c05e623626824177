-- The rows of a relation, and the relations of a sheet.
use mathlib.Core.Path.{◌≡◌, sym, ap, ◌∙◌}
use mathlib.Core.List.{List}
use Prim.Native.Nat.{ℕ, ◌+◌, ◌*◌, ◌≤◌, ◌<◌}
use native.Mathlib.Numerals.{add-one}
use native.Mathlib.Omega.{arith}
use native.Mathlib.Decide.{dec_lt}
use lib.IntN.{ℤ, pos}
use lib.ListN.{length, get_or, get_or-eq_default}
use Rattle.literal.specs.Literals.{Literal}
use Rattle.literal.specs.Words.{literal_of}
use Rattle.sheet_rules.specs.Blocks.{sheet_of, relation_count}
use Rattle.sheet_rules.specs.declared.Layout.{Layout}
use Rattle.sheet_rules.specs.Reading.{accepted, reading}
use Rattle.sheet_rules.proofs.Acceptance.{accepted-facts}
use Rattle.relational.specs.Cells.{row_count, row_length, cell}
use Rattle.relational.proofs.Places.{length-map-from, from_at}
use Rattle.cells.proofs.Layouts.{rows-most, length_most}
use Rattle.clauses_rules.proofs.Accepted.{accepted-rows}
use Rattle.clauses_rules.specs.Translation.{absent, literal_at}
use Rattle.clauses_rules.specs.Whole.{series, row_clauses, row_literals}
use Rattle.clauses_emission.specs.Emission.{Inside, AllInside, literals_of}
use Rattle.clauses_emission.proofs.Ors.{length-literals}
use Rattle.clauses_emission.proofs.Ranges.{literal-at, inside-absent}
use Rattle.clauses_rules.specs.Gates.{Clause}
use Rattle.clauses_emission.specs.declared.Tape.{Tape}
use Rattle.clauses_marks.specs.Marking.{Members, Adds, RowOf}
use Rattle.clauses_marks.proofs.Adding.{adds_none, adds-as, adds-most, adds_then}

-- what a loop adds: so many series of clauses, each of at most k
module _ (k : ℕ) (f : ℕ → List Clause) {old : List ℤ} {a : Tape} where
  pub series-start : Adds 0 (series 0 f) old a old a
  unfolding series
  series-start = adds_none old a

  pub series-next : (i : ℕ) {xs : List Clause} {mid new : List ℤ} {b c : Tape} → Adds (k * i) (series i f) old a mid b
      → Adds k xs mid b new c → xs ≡ f i → Adds (k * (i + 1)) (series (i + 1) f) old a new c
  unfolding series
  series-next i p q e = adds-most (adds-as (adds_then p q) (rw (add-one i, e))) (omega arith)

  pub series-end : {i n m : ℕ} {new : List ℤ} {b : Tape} → Adds (k * i) (series i f) old a new b → i ≡ n → k * n ≤ m
      → Adds m (series n f) old a new b
  series-end p e h = adds-most (rw e at p) h

pub row_same : (m : ℕ) (members : List Literal) {row line : List Literal} → row ≡ line
    → row_clauses m members row ≡ row_clauses m members line
row_same m members f = rw f

-- the literals of row i of relation r of an accepted sheet
module _ (s : List ℕ) (layout : Layout) (taken : reading s ≡ accepted layout) (cells : List Literal) (inside : AllInside 16002 cells)
    (r i : ℕ) (there : r < relation_count (sheet_of s)) (row : List ℤ)
    (e : literals_of row ≡ row_literals (sheet_of s) cells r i) where
  pub row-long : length row ≡ row_length (sheet_of s) r
  row-long =
      sym (length-literals row)
      ∙ ap length e
      ∙ length-map-from (literal_at (sheet_of s) cells) (cell (sheet_of s) r i 0) (row_length (sheet_of s) r)

  pub row-literal : (j : ℕ) → j < length row
      → literal_of (get_or row j (pos 0)) ≡ literal_at (sheet_of s) cells (cell (sheet_of s) r i j)
  row-literal j h =
      let literal : ℕ → Literal = literal_at (sheet_of s) cells in
      let first = cell (sheet_of s) r i 0 in
      let e₁ : first + j ≡ cell (sheet_of s) r i j = omega arith in
      sym (literal-at row j h)
      ∙ ap (λ (ls : List Literal). get_or ls j absent) e
      ∙ from_at literal absent first (row_length (sheet_of s) r) j (omega (arith, row-long))
      ∙ ap literal e₁

  pub row-members : Members 8 row
  row-members = record {
    few = rw row-long (length_most (sheet_of s) (accepted-facts s layout taken) r);
    inside = λ k. rw e (at k (dec_lt k (row_length (sheet_of s) r)));
  }
    where
      at : (k : ℕ) → Dec (k < row_length (sheet_of s) r) → Inside 16002 (get_or (row_literals (sheet_of s) cells r i) k absent)
      at k (yes p) = rw (from_at (literal_at (sheet_of s) cells) absent (cell (sheet_of s) r i 0) (row_length (sheet_of s) r) k p) (inside _)
      at k (no p) =
          rw (get_or-eq_default (row_literals (sheet_of s) cells r i) absent {n = k}
          (omega (arith, length-map-from (literal_at (sheet_of s) cells) (cell (sheet_of s) r i 0) (row_length (sheet_of s) r))))
          (inside-absent 16002 (omega arith))

  pub row-of : i < row_count (sheet_of s) r → RowOf r i row
  row-of h =
      let f = accepted-facts s layout taken in
      record {
        relation = omega (arith, f.counts.few_relations);
        atom = omega (arith, rows-most (sheet_of s) f r);
        members = row-members;
        some = record { some = rw row-long (accepted-rows s layout taken r there) };
      }
