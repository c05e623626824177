-- The middles of a row and a column, worked out one after the other in an array of 8 words.
use mathlib.Core.Path.{◌≡◌, refl, ◌∙◌}
use mathlib.Core.List.{List, [], map}
use Prim.Native.Nat.{ℕ, ◌+◌, ◌*◌, ◌≤◌, ◌<◌}
use native.Mathlib.Numerals.{add-one}
use native.Mathlib.Omega.{arith}
use lib.IntN.{ℤ, pos, negsuc}
use lib.ListN.{length, get_or, take, set, replicate, length-map, length-set, length-replicate}
use Rattle.literal.specs.Words.{literal_of}
use Rattle.relational.specs.Matrices.{upto}
use Rattle.clauses_rules.specs.Builder.{each}
use Rattle.clauses_rules.specs.Translation.{Two, absent, both}
use Rattle.clauses_emission.specs.declared.Tape.{Tape}
use Rattle.clauses_emission.specs.declared.Pairing.TheVariants.{Both}
use Rattle.clauses_emission.specs.Emission.{Inside, AllInside, literals_of, Inputs, Bounded, Emits, EmitsLiteral, EmitsTwo}
use Rattle.clauses_emission.proofs.Ranges.{inside-grows, all-grows, literal-at}
use Rattle.clauses_emission.proofs.Steps.{regular-pairing, emits-return, emits-more, emits-as}
use Rattle.clauses_matrix.specs.Matrices.{cells_of, middle_at, row_middles, RowAndColumn}
use Rattle.clauses_matrix.proofs.Fills.{blank-inside, all_set, cells-more, inputs-front, place_in}

-- what meets of a row and column j at the first k middle atoms is worked out
pub record Met (row cells : List ℤ) (columns j k : ℕ) (old : List ℤ) (a : Tape) (out new : List ℤ) (b : Tape) : Type 0 where
  pub most : k ≤ length row
  pub room : length out ≡ 8
  pub emits : Emits (each both (map (middle_at (literals_of row) (literals_of cells) columns j) (upto k)) a.next) old a
      (cells_of k out) new b (λ m. AllInside m (literals_of out))

module _ {row cells : List ℤ} {columns j : ℕ} where
  pub met_start : (list : List ℤ) (tape : Tape) → Bounded tape → Met row cells columns j 0 list tape (replicate 8 (negsuc 0)) list tape
  unfolding each
  met_start list tape b = record {
    most = omega arith;
    room = length-replicate 8 (negsuc 0);
    emits = emits-return [] list tape b (blank-inside tape.next 8 b.first);
  }

  module _ {k : ℕ} {old new : List ℤ} {a b : Tape} {out : List ℤ} (m : Met row cells columns j k old a out new b) where
    pub met-inputs : Inputs b.next (take (length row) out)
    met-inputs = inputs-front (length row) b.next out m.emits.bounded.first (omega (arith, m.room)) m.emits.fine

    pub met_all : length row ≤ k
        → Emits (each both (row_middles (literals_of row) (literals_of cells) columns j) a.next) old a
        (cells_of (length row) out) new b (λ m. AllInside m (literals_of out))
    met_all h =
        let e : k ≡ length row = omega (arith, m.most) in
        rw (length-map row literal_of) (rw e at m.emits)

  module _ {n : ℕ} (o : RowAndColumn n row cells columns j) {k : ℕ} (h : k < length row) where
    pub met-place : k * columns + j < 64
    met-place = place_in (length row) columns k j o.few o.narrow h o.column

    row_at : get_or (literals_of row) k absent ≡ literal_of (get_or row k (pos 0))
    row_at = literal-at row k h

    column-at : get_or (literals_of cells) (k * columns + j) absent ≡ literal_of (get_or cells (k * columns + j) (pos 0))
    column-at = literal-at cells (k * columns + j) (rw o.room met-place)

    -- the two words may go into a gate
    pub row_inside : {m : ℕ} → n ≤ m → Inside m (literal_of (get_or row k (pos 0)))
    row_inside l = rw row_at at (inside-grows l (o.row_inside k))

    pub column-inside : {m : ℕ} → n ≤ m → Inside m (literal_of (get_or cells (k * columns + j) (pos 0)))
    column-inside l = rw column-at at (inside-grows l (o.cells_inside_ok (k * columns + j)))

    -- one more
    pub met_next : {old mid new : List ℤ} {a b c : Tape} {out : List ℤ} (w : ℤ) → Met row cells columns j k old a out mid b
        → EmitsTwo both (get_or row k (pos 0)) (get_or cells (k * columns + j) (pos 0)) mid b w new c
        → Met row cells columns j (k + 1) old a (set out k w) new c
    met_next {old} {mid} {new} {a} {b} {c} {out} w m q =
        let middle : ℕ → Two = middle_at (literals_of row) (literals_of cells) columns j in
        let p : EmitsLiteral (both (middle k) b.next) mid b w new c = rw (row_at, column-at) q in
        rw (add-one k)
        (record {
          most = h;
          room = length-set out k w ∙ m.room;
          emits =
              emits-as refl (cells-more k out w (omega (arith, m.room, o.few)))
              (emits-more both (regular-pairing Both) middle k m.emits p
              (all_set c.next out k w (all-grows (literals_of out) q.grows m.emits.fine) q.fine));
        })
