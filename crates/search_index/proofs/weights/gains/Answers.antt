-- `search_index::weights::gains` meets its contract. Assumes nothing.
use mathlib.Core.Path.{refl}
use native.Mathlib.Omega.{arith}
use Rattle.search_index.proofs.WeightCode.{byte_low}
use Rattle.search_index.proofs.weights.gains.Goals as goal

pub overflow_add-gains : goal.overflow_add-gains
overflow_add-gains c =
    omega (
      arith,
      c.byte_weight-after.ensures,
      c.byte_weight-before.ensures,
      byte_low c.args.was,
      byte_low c.args.is,
    )

pub overflow_sub-gains : goal.overflow_sub-gains
overflow_sub-gains c =
    omega (
      arith,
      c.byte_weight-after.ensures,
      c.byte_weight-before.ensures,
      byte_low c.args.was,
      byte_low c.args.is,
    )

pub overflow_add-gains-2 : goal.overflow_add-gains-2
overflow_add-gains-2 c =
    omega (
      arith,
      c.byte_weight-after.ensures,
      c.byte_weight-before.ensures,
      byte_low c.args.was,
      byte_low c.args.is,
    )

pub overflow_sub-gains-2 : goal.overflow_sub-gains-2
overflow_sub-gains-2 c =
    omega (
      arith,
      c.byte_weight-after.ensures,
      c.byte_weight-before.ensures,
      byte_low c.args.was,
      byte_low c.args.is,
    )

pub returns : goal.returns
returns c = record {
  long = refl;
  negative =
      omega (
        arith,
        c.byte_weight-after.ensures,
        c.byte_weight-before.ensures,
        byte_low c.args.was,
        byte_low c.args.is,
      );
  positive =
      omega (
        arith,
        c.byte_weight-after.ensures,
        c.byte_weight-before.ensures,
        byte_low c.args.was,
        byte_low c.args.is,
      );
}
