-- The digits of the tenth, and one more; a number of 64 bits has at most 20.
use Rattle.std.proofs.Common.{ap, sym, arith, length, ◌/◌}
use Rattle.text.proofs.Decimals.{decimal-one, decimal-short, length_more}
use Rattle.text.proofs.+decimal_length.Goals as goal

pub overflow_add-result : goal.overflow_add-result
overflow_add-result t c = omega (arith, c.decimal_length.ensures, decimal-short 19 (c.args.n / 10) (omega arith))

pub returns-then-n-le9 : goal.returns-then-n-le9
returns-then-n-le9 t c = sym (ap length (decimal-one c.args.n c.if-n-le9.true))

pub returns-else-n-le9 : goal.returns-else-n-le9
returns-else-n-le9 t c = omega (arith, c.decimal_length.ensures, length_more c.args.n c.if-n-le9.false)
