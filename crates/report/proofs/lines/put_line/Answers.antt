use mathlib.Core.Path.{◌≡◌, ap, ◌∙◌}
use mathlib.Core.List.{List, [], ◌∷◌, ◌++◌}
use Prim.Native.Nat.{ℕ, ◌+◌, ◌*◌}
use native.Mathlib.Omega.{arith}
use lib.ListN.{length-set}
use Rattle.std.proofs.Common.{append_assoc}
use Rattle.text.specs.Texts.{decimal}
use Rattle.text.proofs.Puts.{put_byte, put_both, put_as, put-length}
use Rattle.clauses_rules.specs.Whole.{series}
use Rattle.report.specs.Private.{row_from, line_from}
use Rattle.report.proofs.Pieces.{put-none-of, series-more, row-length, number_short}
use Rattle.report.proofs.lines.put_line.Goals as goal

pub put_decimal-end-requires : goal.put_decimal-end-requires
put_decimal-end-requires c =
    omega (
      arith,
      c.requires.at_in_bounds,
      number_short c.args.number c.requires.number_bound,
      length-set c.args.text.now c.args.at c.args.letter,
    )

pub loop-i-init : goal.loop-i-init
loop-i-init c = (
  omega (arith, c.put_decimal-end.ensures.ends, number_short c.args.number c.requires.number_bound),
  put_both (put_both (put_byte c.args.text.now c.args.at c.args.letter) c.put_decimal-end.ensures) (put-none-of _ _ _),
)

pub put_row-end-requires-clause-columns_in_bounds : goal.put_row-end-requires-clause-columns_in_bounds
put_row-end-requires-clause-columns_in_bounds c =
    let l = c.loop-i.invariant in
    let small = c.args.grid.now.small in
    omega (arith, l.0, put-length l.1, c.requires.at_in_bounds, c.loop-i-test.true)

pub loop-i-preserved : goal.loop-i-preserved
loop-i-preserved c =
    let grid = c.args.grid.now in
    let i = c.loop-i.i in
    let row : ℕ → List ℕ = λ k. row_from grid.instance.now (grid.first + k * grid.columns) grid.columns in
    let head = c.args.letter ∷ decimal c.args.number in
    let l = row-length grid.instance.now (grid.first + i * grid.columns) grid.columns in (
      omega (arith, c.loop-i.invariant.0, c.put_row-end.ensures.ends, l, grid.small),
      put_as (append_assoc head (series i row) (row i) ∙ ap (λ rows. head ++ rows) (series-more i row))
          (put_both c.loop-i.invariant.1 c.put_row-end.ensures),
    )

pub bounds-text-end : goal.bounds-text-end
bounds-text-end c =
    let l = c.loop-i.invariant in
    let small = c.args.grid.now.small in
    omega (arith, l.0, put-length l.1, c.requires.at_in_bounds)

pub overflow_add-result : goal.overflow_add-result
overflow_add-result c =
    let small = c.args.grid.now.small in
    omega (arith, c.loop-i.invariant.0, c.requires.at_in_bounds, c.well_formed.0.0)

pub returns-clause-put : goal.returns-clause-put
unfolding line_from
returns-clause-put c =
    let grid = c.args.grid.now in
    let row : ℕ → List ℕ = λ k. row_from grid.instance.now (grid.first + k * grid.columns) grid.columns in
    let head = c.args.letter ∷ decimal c.args.number in
    let e : c.loop-i.i ≡ grid.rows = omega arith in
    put_as (append_assoc head (series c.loop-i.i row) (10 ∷ []) ∙ ap (λ n. head ++ (series n row ++ (10 ∷ []))) e)
    (put_both c.loop-i.invariant.1 (put_byte c.loop-i.text c.loop-i.end 10))

pub returns-clause-upper_bound : goal.returns-clause-upper_bound
returns-clause-upper_bound c =
    let small = c.args.grid.now.small in
    omega (arith, c.loop-i.invariant.0)
