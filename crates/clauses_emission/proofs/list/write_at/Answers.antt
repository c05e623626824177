-- What was lent comes home.
use Rattle.std.proofs.Common.{◌≤◌, length, sym, arith}
use Rattle.prelude.proofs.Stores.{put-home, put-past}
use Rattle.literal.proofs.Signs.{back}
use Rattle.clauses_emission.proofs.list.write_at.Goals as goal

pub returns-then-at-list : goal.returns-then-at-list
returns-then-at-list c =
    put-home c.args.list.now c.args.at _ _ c.if-at-list.true (rw (back c.args.first c.ranges.first) at c.write_clause.ensures)

pub returns-else-at-list : goal.returns-else-at-list
returns-else-at-list c =
    let h : length c.args.list.now ≤ c.args.at = omega arith in
    sym (put-past c.args.list.now c.args.at _ h)
