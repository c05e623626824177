-- The walks of a binder's body, atom by atom.
use mathlib.Core.Path.{◌≡◌}
use mathlib.Core.List.{List, map, map-id}
use Prim.Native.Nat.{ℕ, ◌+◌, ◌≤◌, ◌<◌}
use native.Mathlib.Nat.{one-mul}
use native.Mathlib.Numerals.{add-one}
use lib.IntN.{ℤ, negsuc}
use lib.ListN.{set, replicate}
use Rattle.literal.specs.Literals.{Literal}
use Rattle.literal.specs.Words.{literal_of}
use Rattle.sheet_rules.specs.Blocks.{Sheet, scope, sort_of}
use Rattle.relational.specs.Trees.{Formula, formula}
use Rattle.relational.specs.Meaning.{bind}
use Rattle.relational.specs.Matrices.{upto, set_of}
use Rattle.nodes.specs.Environments.{environment}
use Rattle.clauses_rules.specs.Builder.{Builder, each}
use Rattle.clauses_rules.specs.Translation.{translate_formula}
use Rattle.clauses_emission.specs.declared.Tape.{Tape}
use Rattle.clauses_emission.specs.Emission.{literals_of, Bounded, EmitsLiteral}
use Rattle.clauses_emission.proofs.Steps.{emits-map}
use Rattle.clauses_matrix.specs.Matrices.{Cells, cells_of, EmitsCells}
use Rattle.clauses_matrix.proofs.Fills.{cells-start, cells-next}
use Rattle.clauses_kinds.specs.Leaves.{row_matrix}
use Rattle.clauses_kinds.proofs.LeafMatrices.{row-fine}
use Rattle.clauses_translation.specs.Walks.{Walks, WalksFormula, WalksBodies}
use Rattle.clauses_translation.proofs.Regulars.{regular-formula}

module _ (sheet : Sheet) (given : List ℤ) (env : List ℕ) (v : ℕ) (old : List ℤ) (before : Tape) (x : ℕ) where
  abbrev body_at : Formula → ℕ → Builder Literal
  body_at f i = translate_formula sheet (literals_of given) f (bind (environment env) x i)

  -- the first k atoms are done
  pub record Done (k : ℕ) (words new : List ℤ) (after : Tape) : Type 0 where
    pub walk : Walks formula (λ f. each (body_at f) (map (λ i. i) (upto k))) sheet v old before (cells_of k words) new after
        (λ n. Cells k n words)

  pub done_none : Bounded before → Done 0 (replicate 64 (negsuc 0)) old before
  done_none b = record { walk = record { walks = λ f t. cells-start (body_at f) (λ i. i) old before b } }

  module _ {k : ℕ} {words mid : List ℤ} {middle : Tape} (d : Done k words mid middle) where
    pub done_more : (inner : List ℕ) {l w : ℤ} {new : List ℤ} {after : Tape}
        → WalksFormula sheet given inner v mid middle (literal_of l) new after
        → environment inner ≡ bind (environment env) x k → k < 64 → w ≡ l → Done (k + 1) (set words k w) new after
    done_more inner {w = w} {new = new} {after = after} u b small q =
        rw (add-one k)
        (record {
          walk =
              record {
                walks = λ f t.
                    let s : EmitsLiteral (body_at f k middle.next) mid middle w new after = rw (q, ← b) (u.walks f t) in
                    cells-next (body_at f) (λ i. regular-formula sheet (literals_of given) f (bind (environment env) x i)) (λ i. i) k words w
                    small (d.walk.walks f t) s;
              };
        })

    pub done_all : {n : ℕ} → n ≡ scope sheet (sort_of sheet x) → k ≡ n → n ≤ 8
        → WalksBodies sheet given env v old before x (row_matrix n words) mid middle
    done_all {n} en ek small =
        record {
          walks = λ f t.
              let p : EmitsCells n (each (body_at f) (map (λ i. i) (upto n)) before.next) old before words mid middle =
              rw ek at (d.walk.walks f t) in
              let q = rw (map-id (upto n)) at p in
              rw (← en)
              (emits-map (set_of n) (each (body_at f) (upto n)) q (rw (one-mul n))
              (row-fine small p.fine));
        }
