use Prim.Native.Nat.{◌<◌}
use native.Mathlib.Omega.{arith}
use Rattle.literal.proofs.Signs.{back}
use Rattle.relational.specs.Cells.{most_cells}
use Rattle.clauses.proofs.CellWords.{word-is, words_more}
use Rattle.clauses.proofs.whole.cell_words.Goals as goal

pub loop-i-preserved : goal.loop-i-preserved
loop-i-preserved c =
    let i = c.loop-i.i in
    let h : i < most_cells = omega (arith, c.requires, c.loop-i-test.true) in
    let w = c.positive.result in
    let more = words_more w c.loop-i.invariant h (word-is i w h c.positive.ensures) in
    rw (back w (record { sfits = c.positive.type_inv })) more
