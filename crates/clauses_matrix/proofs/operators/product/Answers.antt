use Rattle.std.proofs.Common.{◌≡◌, ℕ, ◌*◌, ◌/◌, ◌%◌, ◌<◌, ◌≤◌, map, get_or, refl, sym, ap, ◌∙◌, pos, add-one, arith, rules}
use Rattle.literal.specs.Words.{literal_of}
use Rattle.literal.proofs.Signs.{back}
use Rattle.relational.specs.Matrices.{Place, upto, cell_at, crossed, product_size}
use Rattle.clauses_rules.specs.Builder.{each}
use Rattle.clauses_rules.specs.Translation.{Two, absent, both}
use Rattle.clauses_matrix.specs.Matrices.{matrix_of}
use Rattle.clauses_emission.specs.declared.Pairing.TheVariants.{Both}
use Rattle.clauses_emission.proofs.Ranges.{inside-grows}
use Rattle.clauses_emission.proofs.Steps.{regular-pairing, emits-map, emits-as}
use Rattle.clauses_matrix.proofs.Numbers.{place_of, places-by-number}
use Rattle.relational.proofs.Places.{map-map, row_below, column-below}
use Rattle.clauses_matrix.proofs.Fills.{cells-start, cells-next, cells-done, operand_at, operand-inside, pair_at, cell_below}
use Rattle.clauses_matrix.proofs.operators.product.Goals as goal

small : (k n : ℕ) → k < n → n ≤ 8 → k < 64
small k n h l = omega arith

pub loop-k-init : goal.loop-k-init
loop-k-init c =
    cells-start both (pair_at c.args.p.cells c.args.q.cells (λ a. a / c.args.q.columns) (λ a. a % c.args.q.columns))
    c.args.list.now c.args.tape.now c.requires.bounded

pub both-requires : goal.both-requires
both-requires c =
    let loop = c.loop-k in
    let p = c.args.p in
    let q = c.args.q in
    let n = c.args.tape.now.next in
    let i = loop.k / q.columns in
    let j = loop.k % q.columns in
    let left = small i p.columns (row_below p.columns q.columns loop.k c.loop-k-test.true) c.requires.operand.columns in
    let right = small j q.columns (column-below p.columns q.columns loop.k c.loop-k-test.true) c.requires.operand_2.columns in
    record {
      bounded = loop.invariant.bounded;
      inside = rw (back (get_or p.cells i (pos 0)) (search rules))
          (inside-grows loop.invariant.grows (operand-inside n p i c.requires.operand left));
      inside_2 = rw (back (get_or q.cells j (pos 0)) (search rules))
          (inside-grows loop.invariant.grows (operand-inside n q j c.requires.operand_2 right));
    }

pub loop-k-preserved : goal.loop-k-preserved
loop-k-preserved c =
    let loop = c.loop-k in
    let left = c.args.p.cells in
    let right = c.args.q.cells in
    let columns = c.args.q.columns in
    let k = loop.k in
    let w = c.both.result in
    rw (add-one k, back w (search rules))
    (cells-next both (regular-pairing Both) (pair_at left right (λ a. a / columns) (λ a. a % columns)) k loop.cells w
    (cell_below c.args.p.columns columns k c.requires.operand.columns c.requires.operand_2.columns c.loop-k-test.true)
    loop.invariant
    (rw (back (get_or left (k / columns) (pos 0)) (search rules), back (get_or right (k % columns) (pos 0)) (search rules))
    at c.both.ensures))

pub returns : goal.returns
returns c =
    let loop = c.loop-k in
    let p = c.args.p in
    let q = c.args.q in
    let rows = p.columns in
    let columns = q.columns in
    let n = c.args.tape.now.next in
    let cross : Place → Two = λ t. (cell_at absent (matrix_of p) t.0, cell_at absent (matrix_of q) t.1) in
    let same : (a : ℕ) → a < rows * columns
    → ◌≡◌ {A = Two} (
      literal_of (get_or p.cells (a / columns) (pos 0)),
      literal_of
          (get_or q.cells (a % columns) (pos 0)),
    )
    (cross (place_of columns a)) =
    λ a l.
    let h = small (a / columns) rows (row_below rows columns a l) c.requires.operand.columns in
    let g = small (a % columns) columns (column-below rows columns a l) c.requires.operand_2.columns in
    rw (operand_at n p (a / columns) c.requires.operand h, operand_at n q (a % columns) c.requires.operand_2 g)
    in
    let cells = cells-done both (regular-pairing Both) (pair_at p.cells q.cells (λ a. a / columns) (λ a. a % columns))
    (λ a. cross (place_of columns a)) loop.k (rows * columns) loop.cells loop.auto.k-end c.loop-k-test.false same
    loop.invariant
    in
    let e : map (λ a. cross (place_of columns a)) (upto (rows * columns)) ≡ crossed absent (matrix_of p) (matrix_of q) =
    sym (ap (map cross) (places-by-number rows columns) ∙ map-map cross (place_of columns) (upto (rows * columns)))
    in
    emits-map (product_size (matrix_of p) (matrix_of q)) (each both (crossed absent (matrix_of p) (matrix_of q)))
    (emits-as (ap (λ ts. each both ts n) e) refl cells) refl
    (record {
      arity_low = omega arith;
      arity_high = omega arith;
      set = λ o. absurd (omega (arith, o));
      rows = c.requires.operand.columns;
      columns = c.requires.operand_2.columns;
      cells = cells.fine;
    })
