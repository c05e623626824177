use Rattle.std.proofs.Common.{◌≡◌, ◌+◌, ◌*◌, suc, refl, arith, rules}
use native.Mathlib.Nat.{zero-mul}
use Rattle.literal.proofs.Signs.{back}
use Rattle.relational.specs.Matrices.{middles}
use Rattle.relational.proofs.Places.{place-below}
use Rattle.clauses_rules.specs.Translation.{absent}
use Rattle.clauses_matrix.specs.Matrices.{matrix_of, join_cell}
use Rattle.clauses_emission.proofs.Steps.{emits-as}
use Rattle.clauses_matrix.proofs.Numbers.{place_of, row-at, column-at}
use Rattle.clauses_matrix.proofs.Fills.{cells-start, cells-next, cells-done, operand-grow, place_in}
use Rattle.clauses_matrix.proofs.Regulars.{regular-join-cell}
use Rattle.clauses_matrix.proofs.Rows.{middles_at, row-and-column, middles-same, join-by-number}
use Rattle.clauses_matrix.proofs.operators.join_cells.Goals as goal

pub loop-i-init : goal.loop-i-init
loop-i-init c =
    let a = c.args in
    let columns = c.join_columns-columns.result in
    rw (zero-mul columns)
    (cells-start join_cell (middles_at a.p.cells a.q.cells a.p.columns columns) a.list.now a.tape.now
    c.requires.bounded)

pub join_cell-requires-clause-row_and_column : goal.join_cell-requires-clause-row_and_column
join_cell-requires-clause-row_and_column c =
    let emits = c.loop-j.invariant in
    let columns = c.join_columns-columns in
    let i = c.loop-i.i in
    let j = c.loop-j.j in
    rw (row-at i columns.result j c.loop-j-test.true, column-at i columns.result j c.loop-j-test.true) at
    (row-and-column (operand-grow emits.grows c.requires.operand) (operand-grow emits.grows c.requires.operand_2)
    columns.result columns.ensures.0 (i * columns.result + j)
    (place-below c.args.p.rows columns.result i j c.loop-i-test.true c.loop-j-test.true) emits.bounded.first)

pub loop-j-preserved : goal.loop-j-preserved
loop-j-preserved c =
    let p = c.args.p in
    let columns = c.join_columns-columns in
    let i = c.loop-i.i in
    let j = c.loop-j.j in
    let w = c.join_cell.result in
    let next : i * columns.result + (j + 1) ≡ suc (i * columns.result + j) = omega arith in
    rw (next, back w (search rules), c.index.ensures.0)
    (cells-next join_cell regular-join-cell (middles_at p.cells c.args.q.cells p.columns columns.result)
    (i * columns.result + j) c.loop-j.cells w
    (place_in p.rows columns.result i j c.requires.operand.rows columns.ensures.1 c.loop-i-test.true c.loop-j-test.true)
    c.loop-j.invariant
    (rw (row-at i columns.result j c.loop-j-test.true, column-at i columns.result j c.loop-j-test.true)
    c.join_cell.ensures))

pub returns : goal.returns
returns c =
    let loop = c.loop-i in
    let columns = c.join_columns-columns in
    let p = matrix_of c.args.p in
    let q = matrix_of c.args.q in
    let same = middles-same c.requires.operand c.requires.operand_2 columns.result columns.ensures.0 in
    let e : loop.i ≡ c.args.p.rows = omega (arith, c.loop-i-test.false, loop.auto.i-end) in
    let cells = cells-done join_cell regular-join-cell
    (middles_at c.args.p.cells c.args.q.cells c.args.p.columns columns.result)
    (λ k. middles absent p q (place_of columns.result k)) (loop.i * columns.result) (c.args.p.rows * columns.result)
    loop.cells (rw e (omega arith)) (rw e (omega arith)) same loop.invariant
    in
    rw columns.ensures.0 at (emits-as (join-by-number p q columns.result c.args.tape.now.next) refl cells)
