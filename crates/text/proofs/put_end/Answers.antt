-- `put_end` meets its contract: the word, the number and the end of the line, one after the other.
use Rattle.std.proofs.Common.{ℕ, ◌≤◌, ◌<◌, ◌^◌, length, arith}
use Rattle.text.specs.Texts.{decimal}
use Rattle.text.proofs.Decimals.{decimal-short}
use Rattle.text.proofs.Puts.{put_byte, put_both, put-length}
use Rattle.text.proofs.put_end.Goals as goal

-- 20 digits at most
few : (n : ℕ) → n < 2 ^ 64 → length (decimal n) ≤ 20
few n h = decimal-short 19 n (omega arith)

pub put_decimal-feed-requires : goal.put_decimal-feed-requires
put_decimal-feed-requires c =
    let p = c.put_bytes-at.ensures in omega (arith, p.ends, put-length p, few c.args.n (omega arith), c.requires.in_bounds)

pub bounds-text-feed : goal.bounds-text-feed
bounds-text-feed c =
    let p = c.put_bytes-at.ensures in
    let q = c.put_decimal-feed.ensures in
    omega (arith, p.ends, q.ends, put-length p, put-length q, few c.args.n (omega arith))

pub overflow_add-result : goal.overflow_add-result
overflow_add-result c =
    let p = c.put_bytes-at.ensures in
    let q = c.put_decimal-feed.ensures in
    omega (arith, p.ends, q.ends, few c.args.n (omega arith))

pub returns-clause-put : goal.returns-clause-put
returns-clause-put c =
    let q = c.put_decimal-feed in
    put_both c.put_bytes-at.ensures (put_both q.ensures (put_byte q.new.text q.result 10))

pub returns-clause-upper_bound : goal.returns-clause-upper_bound
returns-clause-upper_bound c =
    let p = c.put_bytes-at.ensures in
    let q = c.put_decimal-feed.ensures in
    omega (arith, p.ends, q.ends, few c.args.n (omega arith))
