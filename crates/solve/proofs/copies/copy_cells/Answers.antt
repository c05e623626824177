use Rattle.std.proofs.Common.{arith}
use lib.ListN.{length-set}
use lib.Seq.{length-take-le}
use Rattle.solve.proofs.ReadBacks.{pasted}
use Rattle.solve.proofs.copies.copy_cells.Goals as goal

pub loop-i-preserved : goal.loop-i-preserved
loop-i-preserved c =
    let loop = c.loop-i in
    let part = length-take-le c.args.cells c.args.instance.now c.requires.cells_in_bounds_2 in (
      simp length-set loop.invariant.0,
      pasted c.args.values.now _ loop.bit-items loop.i c.settled.result (omega (arith, c.requires.cells_in_bounds)) (omega (arith, part))
          loop.invariant.1 c.settled.ensures,
    )
