use Rattle.std.proofs.Common.{◌≡◌, ℕ, ◌*◌, ◌<◌, get_or, pos, add-one, rules}
use Rattle.literal.specs.Words.{literal_of}
use Rattle.literal.proofs.Signs.{back}
use Rattle.relational.specs.Matrices.{cell_at}
use Rattle.clauses_rules.specs.Translation.{Two, absent}
use Rattle.clauses_emission.specs.Emission.{pairing}
use Rattle.clauses_matrix.specs.Matrices.{matrix_of}
use Rattle.clauses_emission.proofs.Ranges.{inside-grows}
use Rattle.clauses_emission.proofs.Steps.{regular-pairing}
use Rattle.clauses_matrix.proofs.Fills.{cells-start, cells-next, cells-done, operand_at, operand-inside, pair_at, cell_below}
use Rattle.clauses_matrix.proofs.operators.matched_cells.Goals as goal

pub loop-k-init : goal.loop-k-init
loop-k-init c =
    cells-start (pairing c.args.kind) (pair_at c.args.p.cells c.args.q.cells (λ i. i) (λ i. i)) c.args.list.now c.args.tape.now
    c.requires.bounded

pub pair-requires : goal.pair-requires
pair-requires c =
    let k = c.loop-k.k in
    let emits = c.loop-k.invariant in
    let p = c.args.p in
    let q = c.args.q in
    let o = c.requires.operand in
    let n = c.args.tape.now.next in
    let h = cell_below p.rows p.columns k o.rows o.columns c.loop-k-test.true in record {
      bounded = emits.bounded;
      inside = rw (back (get_or p.cells k (pos 0)) (search rules)) (inside-grows emits.grows (operand-inside n p k o h));
      inside_2 = rw (back (get_or q.cells k (pos 0)) (search rules))
          (inside-grows emits.grows (operand-inside n q k c.requires.operand_2 h));
    }

pub loop-k-preserved : goal.loop-k-preserved
loop-k-preserved c =
    let loop = c.loop-k in
    let k = loop.k in
    let kind = c.args.kind in
    let p = c.args.p in
    let q = c.args.q in
    let o = c.requires.operand in
    let w = c.pair.result in
    rw (add-one k, back w (search rules))
    (cells-next (pairing kind) (regular-pairing kind) (pair_at p.cells q.cells (λ i. i) (λ i. i)) k loop.cells w
    (cell_below p.rows p.columns k o.rows o.columns c.loop-k-test.true) loop.invariant
    (rw (back (get_or p.cells k (pos 0)) (search rules), back (get_or q.cells k (pos 0)) (search rules))
    at c.pair.ensures))

pub returns : goal.returns
returns c =
    let loop = c.loop-k in
    let kind = c.args.kind in
    let p = c.args.p in
    let q = c.args.q in
    let o = c.requires.operand in
    let n = c.args.tape.now.next in
    let same : (j : ℕ) → j < p.rows * p.columns
    → ◌≡◌ {A = Two} (literal_of (get_or p.cells j (pos 0)), literal_of (get_or q.cells j (pos 0)))
    (cell_at absent (matrix_of p) j, cell_at absent (matrix_of q) j) =
    λ j l.
    let h = cell_below p.rows p.columns j o.rows o.columns l in
    rw (operand_at n p j o h, operand_at n q j c.requires.operand_2 h)
    in
    cells-done (pairing kind) (regular-pairing kind) (pair_at p.cells q.cells (λ i. i) (λ i. i))
    (λ j. (cell_at absent (matrix_of p) j, cell_at absent (matrix_of q) j)) loop.k (p.rows * p.columns) loop.cells
    loop.auto.k-end c.loop-k-test.false same loop.invariant
