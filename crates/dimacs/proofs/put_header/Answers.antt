-- `put_header` meets its contract: the pieces of the header, one after the other.
use Rattle.std.proofs.Common.{arith}
use Rattle.text.proofs.Puts.{put_byte, put_both, put-length}
use Rattle.dimacs.specs.Text.{header}
use Rattle.dimacs.proofs.Lines.{header-length}
use Rattle.dimacs.proofs.put_header.Goals as goal

pub put_bytes-number-requires : goal.put_bytes-number-requires
put_bytes-number-requires c = omega (arith, c.requires, header-length c.args.v c.args.clauses)

pub put_decimal-space-requires : goal.put_decimal-space-requires
put_decimal-space-requires c =
    let p = c.put_bytes-number.ensures in
    omega (arith, c.requires, header-length c.args.v c.args.clauses, p.ends, put-length p)

pub bounds-text-space : goal.bounds-text-space
bounds-text-space c =
    let p = put_both c.put_bytes-number.ensures c.put_decimal-space.ensures in
    omega (arith, c.requires, header-length c.args.v c.args.clauses, c.put_bytes-number.ensures.ends, c.put_decimal-space.ensures.ends, put-length p)

pub overflow_add-space : goal.overflow_add-space
overflow_add-space c =
    let p = put_both c.put_bytes-number.ensures c.put_decimal-space.ensures in
    omega (arith, c.requires, header-length c.args.v c.args.clauses, c.put_bytes-number.ensures.ends, c.put_decimal-space.ensures.ends)

pub put_decimal-feed-requires : goal.put_decimal-feed-requires
put_decimal-feed-requires c =
    let s = c.put_decimal-space in
    let p = put_both c.put_bytes-number.ensures (put_both s.ensures (put_byte s.new.text s.result 32)) in
    omega (arith, c.requires, header-length c.args.v c.args.clauses, c.put_bytes-number.ensures.ends, s.ensures.ends, put-length p)

pub bounds-text-feed : goal.bounds-text-feed
bounds-text-feed c =
    let s = c.put_decimal-space in
    let f = c.put_decimal-feed.ensures in
    let p = put_both c.put_bytes-number.ensures (put_both s.ensures (put_both (put_byte s.new.text s.result 32) f)) in
    omega (arith, c.requires, header-length c.args.v c.args.clauses, c.put_bytes-number.ensures.ends, s.ensures.ends, f.ends, put-length p)

pub overflow_add-result : goal.overflow_add-result
overflow_add-result c =
    let s = c.put_decimal-space.ensures in
    let f = c.put_decimal-feed.ensures in
    omega (arith, c.requires, header-length c.args.v c.args.clauses, c.put_bytes-number.ensures.ends, s.ends, f.ends, c.well_formed)

pub returns : goal.returns
unfolding header
returns c =
    let s = c.put_decimal-space in
    let f = c.put_decimal-feed in
    put_both c.put_bytes-number.ensures
    (put_both s.ensures (put_both (put_byte s.new.text s.result 32) (put_both f.ensures (put_byte f.new.text f.result 10))))
