-- Two numbers of at most 20 digits, and 8 bytes around them.
use Rattle.std.proofs.Common.{arith}
use Rattle.text.proofs.Decimals.{decimal-short}
use Rattle.dimacs.proofs.Lines.{header-length}
use Rattle.dimacs.proofs.measure.header_length.Goals as goal

pub overflow_add-result : goal.overflow_add-result
overflow_add-result c =
    let v = decimal-short 19 c.args.v (omega arith) in
    let n = decimal-short 19 c.args.clauses (omega arith) in
    omega (arith, c.decimal_length.ensures, c.decimal_length-2.ensures)

pub overflow_add-result-2 : goal.overflow_add-result-2
overflow_add-result-2 c =
    let v = decimal-short 19 c.args.v (omega arith) in
    let n = decimal-short 19 c.args.clauses (omega arith) in
    omega (arith, c.decimal_length.ensures, c.decimal_length-2.ensures)

pub returns : goal.returns
returns c = omega (arith, header-length c.args.v c.args.clauses, c.decimal_length.ensures, c.decimal_length-2.ensures)
