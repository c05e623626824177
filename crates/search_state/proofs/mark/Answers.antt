use Rattle.std.proofs.Common.{◌≡◌, pos, get_or, sym, ◌∙◌, w32, to_z, of_z, refl, take, arith, rules}
use lib.Seq.{take_all}
use Rattle.search_state.specs.Inner.{MarkedIf}
use Rattle.search_state.proofs.Literals.{place-of}
use Rattle.search_state.proofs.Marks.{marked-none, disagrees, twice, marked_more}
use Rattle.search_state.proofs.mark.Goals as goal

pub loop-l-init : goal.loop-l-init
loop-l-init c =
    marked-none c.args.values.now c.args.literals.now c.args.seen.now c.requires.empty c.requires.values_in_bounds

pub returns-then-not-agrees : goal.returns-then-not-agrees
unfolding MarkedIf
returns-then-not-agrees c =
    let l = get_or c.args.literals.now c.loop-l.l-index (pos 0) in
    let read : to_z w32 (of_z w32 l) ≡ l = search rules in
    let fails = sym (rw read at c.agrees.ensures) ∙ c.if-not-agrees.true in
    disagrees c.args.values.now c.args.literals.now c.loop-l.l-index c.loop-l-test.true l refl fails

pub returns-then-seen-at : goal.returns-then-seen-at
unfolding MarkedIf
returns-then-seen-at c =
    let l = get_or c.args.literals.now c.loop-l.l-index (pos 0) in
    let read : to_z w32 (of_z w32 l) ≡ l = search rules in
    let agrees = sym (rw read at c.agrees.ensures) ∙ c.if-not-agrees.false in
    let at = rw read at c.place-at.ensures ∙ place-of l in
    twice c.args.values.now c.args.literals.now c.loop-l.l-index c.loop-l-test.true l refl c.loop-l.seen c.loop-l.invariant
    agrees (rw at at c.if-seen-at.true)

pub loop-l-preserved : goal.loop-l-preserved
loop-l-preserved c =
    let l = get_or c.args.literals.now c.loop-l.l-index (pos 0) in
    let read : to_z w32 (of_z w32 l) ≡ l = search rules in
    let agrees = sym (rw read at c.agrees.ensures) ∙ c.if-not-agrees.false in
    let at = rw read at c.place-at.ensures ∙ place-of l in
    rw at (marked_more c.args.values.now c.args.literals.now c.loop-l.l-index c.loop-l-test.true l refl c.loop-l.seen
    c.loop-l.invariant agrees (rw at at c.if-seen-at.false))

pub returns : goal.returns
unfolding MarkedIf
returns c =
    let literals = c.args.literals.now in
    let all : take c.loop-l.l-index literals ≡ literals = take_all c.loop-l.l-index literals (omega arith) in
    rw all at c.loop-l.invariant
