-- The loop begins with no call made, goes on with one more that found a case, and ends with one that found none.
use Rattle.std.proofs.Common.{rules, arith, ◌≡◌, ◌+◌, ◌-◌, true, false, refl, inl}
use Rattle.search.specs.Resuming.{start}
use Rattle.listing.specs.Printed.{standing}
use Rattle.console_every.proofs.Looping.{begins, goes_on, ended}
use Rattle.console_every.proofs.print_cases.Goals as goal

pub loop-init : goal.loop-init
loop-init c = begins c.args.list.now c.args.v (standing c.args.values.now c.args.trail.now start)

pub returns-then-not-piece : goal.returns-then-not-piece
returns-then-not-piece c =
    let e = c.next_text-piece.ensures in
    let h : c.next_text-piece.result.more ≡ false = search rules in
    ended _ _ c.loop.invariant _ _ 1000000 e.more_value e.prints (inl refl) (λ d. inl h)

pub loop-preserved : goal.loop-preserved
loop-preserved c =
    let e = c.next_text-piece.ensures in
    let n = c.next_text-piece.new in
    let left = standing n.values n.trail c.next_text-piece.result.position in
    let h : c.next_text-piece.result.more ≡ true = search rules in
    goes_on _ _ c.loop.invariant _ _ {left = left} {after = 18446744073709 - (c.loop.counter + 1)} e.more_value e.position_after h (omega (arith, c.loop-test.true))
