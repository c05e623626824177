-- A row before the last of at most 8, of at most 8 cells.
use native.Mathlib.Omega.{arith}
use Rattle.instance_evaluation.proofs.Layouts.{few, first-few, row-low}
use Rattle.instance_evaluation.proofs.Instance.row_start.Goals as goal

pub offset_bounds-self-r : goal.offset_bounds-self-r
offset_bounds-self-r c = omega (arith, few c.args.self.now c.requires.r_bound)

pub bounds-self-r : goal.bounds-self-r
bounds-self-r c = few c.args.self.now c.requires.r_bound

pub row_length-requires : goal.row_length-requires
row_length-requires c = omega (arith, few c.args.self.now c.requires.r_bound)

pub overflow_mul-result : goal.overflow_mul-result
overflow_mul-result c = omega (arith, row-low c.args.self.now c.args.r c.requires.i_bound c.row_length.ensures.1)

pub overflow_add-result : goal.overflow_add-result
overflow_add-result c =
    omega (
      arith,
      row-low c.args.self.now c.args.r c.requires.i_bound c.row_length.ensures.1,
      first-few c.args.self.now c.requires.r_bound,
    )

pub returns : goal.returns
returns c =
    let i = c.args.self.now in (
      rw (i.located.first c.args.r c.requires.r_bound, c.row_length.ensures.0) (omega arith),
      omega (
        arith,
        row-low i c.args.r c.requires.i_bound c.row_length.ensures.1,
        first-few i c.requires.r_bound,
      ),
    )
