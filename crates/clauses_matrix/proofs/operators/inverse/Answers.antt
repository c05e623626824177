use Rattle.std.proofs.Common.{◌≡◌, ℕ, ◌+◌, ◌*◌, ◌<◌, List, map, get_or, refl, ap, ◌∙◌, pos, negsuc, arith, rules}
use Rattle.literal.specs.Literals.{Literal}
use Rattle.literal.specs.Words.{literal_of}
use Rattle.relational.specs.Matrices.{Place, cell_at, places, relation_of}
use Rattle.relational.proofs.Places.{square}
use Rattle.clauses_rules.specs.Builder.{return}
use Rattle.clauses_rules.specs.Translation.{absent}
use Rattle.clauses_emission.specs.Emission.{Inside}
use Rattle.clauses_emission.proofs.Steps.{emits-return, emits-map, emits-as}
use Rattle.clauses_matrix.specs.Matrices.{matrix_of, cells_of, EmitsCells}
use Rattle.clauses_matrix.proofs.Fills.{operand_at, operand-inside, place_in}
use Rattle.clauses_matrix.proofs.Placed.{placed-cells, placed}
use Rattle.clauses_matrix.proofs.operators.inverse.Goals as goal

pub returns : goal.returns
returns c list tape b o =
    let p = c.args.p in
    let n = tape.next in
    let u = c.places_by.ensures in
    let ws = c.places_by.result in
    let turned : Place → Literal = λ t. cell_at absent (matrix_of p) (t.1 * p.columns + t.0) in
    let from : (i j : ℕ) → i < p.columns → j < p.rows → j * p.columns + i < 64 =
    λ i j li lj. place_in p.rows p.columns j i o.rows o.columns lj li in
    let each : (i j : ℕ) → i < p.columns → j < p.rows → literal_of (get_or ws (i * p.rows + j) (negsuc 0)) ≡ turned (i, j) =
    λ i j li lj.
    let h = u.each i j li lj in
    let e : get_or ws (i * p.rows + j) (negsuc 0) ≡ get_or p.cells (j * p.columns + i) (pos 0) = search rules in
    ap literal_of e ∙ operand_at n p (j * p.columns + i) o (from i j li lj)
    in
    let inside : (i j : ℕ) → i < p.columns → j < p.rows → Inside n (turned (i, j)) =
    λ i j li lj.
    rw (operand_at n p (j * p.columns + i) o (from i j li lj)) at (operand-inside n p (j * p.columns + i) o (from i j li lj))
    in
    let small = square o.columns o.rows in
    let fine = placed p.columns p.rows ws turned u.long small each u.rest n b.first inside in
    let cells : EmitsCells (p.columns * p.rows) (return (map turned (places p.columns p.rows)) n) list tape ws list tape =
    emits-as (ap (λ (ls : List Literal). return ls n) (placed-cells p.columns p.rows ws turned u.long small each u.rest)) refl
    (emits-return (cells_of (p.columns * p.rows) ws) list tape b fine)
    in
    emits-map (relation_of p.columns p.rows) (return (map turned (places p.columns p.rows))) cells refl
    (record {
      arity_low = omega arith;
      arity_high = omega arith;
      set = λ f. absurd (omega (arith, f));
      rows = o.columns;
      columns = o.rows;
      cells = fine;
    })
