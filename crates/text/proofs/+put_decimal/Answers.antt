-- `put_decimal` meets its contract: the digits of the tenth, and then the last digit.
use Rattle.std.proofs.Common.{◌%◌, sym, arith}
use Rattle.text.specs.Texts.{digit}
use Rattle.text.proofs.Decimals.{decimal-one, decimal-more, decimal-some, length_more}
use Rattle.text.proofs.Puts.{put_byte, put_both, put_as, put-length}
use Rattle.text.proofs.+put_decimal.Goals as goal

pub bounds-text-at : goal.bounds-text-at
bounds-text-at t c = omega (arith, c.requires, decimal-some c.args.n)

pub returns-then-n-lt10 : goal.returns-then-n-lt10
returns-then-n-lt10 t c =
    put_as (sym (decimal-one c.args.n (omega arith))) (put_byte c.args.text.now c.args.at (digit c.args.n))

pub put_decimal-last-requires : goal.put_decimal-last-requires
put_decimal-last-requires t c = (omega arith, omega (arith, c.requires, length_more c.args.n (omega arith)))

pub bounds-text-last : goal.bounds-text-last
bounds-text-last t c =
    let p = c.put_decimal-last.ensures in omega (arith, c.requires, length_more c.args.n (omega arith), p.ends, put-length p)

pub overflow_add-result-2 : goal.overflow_add-result-2
overflow_add-result-2 t c =
    omega (arith, c.requires, length_more c.args.n (omega arith), c.put_decimal-last.ensures.ends, c.well_formed)

pub returns : goal.returns
returns t c =
    let p = c.put_decimal-last in
    put_as (sym (decimal-more c.args.n (omega arith))) (put_both p.ensures (put_byte p.new.text p.result (digit (c.args.n % 10))))
