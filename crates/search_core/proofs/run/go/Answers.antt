use mathlib.Core.Path.{◌≡◌, refl, ◌∙◌, ap}
use Prim.Native.Nat.{◌<◌, ◌-◌, ◌+◌}
use native.Mathlib.Omega.{arith}
use Rattle.search_core.proofs.RunCode.{figure-on, far_none, far-found, far-on, far-emptied, far-full, far-spent}
use Rattle.search_core.proofs.run.go.Goals as goal

pub step-requires : goal.step-requires
step-requires c =
    let l = c.loop.invariant in
    let f = l.0.far c.requires.some_stored.state c.requires.some_stored.stored in record {
      fine = rw l.0.wide c.requires.fine;
      values_len_bound = rw l.0.wide c.requires.values_len_bound;
      some_stored = record { state = f.at; stored = rw l.0.wide f.stored };
      watched = l.1;
    }

pub returns-in-NoneLeft : goal.returns-in-NoneLeft
returns-in-NoneLeft c state i =
    let l = c.loop.invariant.0 in
    let f = l.far state i in
    let s = (rw l.wide at c.in-NoneLeft.ensures.stepped) f.at f.stored in
    far_none _ _ _ _ _ _ _ _ _ f _ _ _ _ refl c.emptied-position.ensures s

pub returns-in-AllSet : goal.returns-in-AllSet
returns-in-AllSet c state i =
    let l = c.loop.invariant.0 in
    let f = l.far state i in
    let s = (rw l.wide at c.in-AllSet.ensures.stepped) f.at f.stored in
    far-found _ _ _ _ _ _ _ _ _ f _ _ _ refl s

pub loop-preserved : goal.loop-preserved
loop-preserved c =
    let l = c.loop.invariant.0 in
    let some : 0 < c.args.budget - c.loop.counter = omega (arith, c.loop-test.true) in
    let less : c.args.budget - c.loop.counter - 1 ≡ c.args.budget - (c.loop.counter + 1) = omega arith in (
      record {
        figure = rw less at (figure-on c.loop.position _ c.in-To.kind _ _ _ c.advance-position.ensures some l.figure);
        wide = c.step.auto.values ∙ l.wide;
        deep = c.step.auto.trail ∙ l.deep;
        far = λ state i.
            let f = l.far state i in
            let s = (rw l.wide at c.in-To.ensures.stepped) f.at f.stored in
            rw less at (far-on _ _ _ _ _ _ _ _ _ f _ _ _ _ _ some c.advance-position.ensures _ refl s);
      },
      c.step.ensures.watched_2,
      c.step.auto.weights ∙ c.loop.invariant.2,
    )

pub stop-requires : goal.stop-requires
stop-requires c =
    let l = c.loop.invariant in
    let f = l.0.far c.requires.some_stored.state c.requires.some_stored.stored in record {
      fine = rw l.0.wide c.requires.fine;
      values_len_bound = rw l.0.wide c.requires.values_len_bound;
      some_stored = record { state = f.at; stored = rw l.0.wide f.stored };
      watched = l.1;
    }

pub returns : goal.returns
returns c state i =
    let l = c.loop.invariant.0 in
    let f = l.far state i in
    let none : c.args.budget - c.loop.counter ≡ 0 = omega (arith, c.loop-test.false) in
    rw (← f.alike, none) ((rw l.wide at c.stop.ensures) f.at f.stored)
