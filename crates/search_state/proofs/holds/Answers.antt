use Rattle.std.proofs.Common.{sym, ◌∙◌}
use Rattle.search_state.proofs.Answer.{if-marked, if-faulty, at-fault, set-outside, by-words}
use Rattle.search_state.proofs.holds.Goals as goal

pub returns-then-not-mark : goal.returns-then-not-mark
returns-then-not-mark g c =
    let s = c.args in
    let marks = rw c.split_at.ensures.front at c.mark.ensures in
    at-fault s.values.now s.trail.now s.used (if-faulty _ _ _ _ marks c.if-not-mark.true)

pub returns-then-open_outside : goal.returns-then-open_outside
returns-then-open_outside g c =
    let s = c.args in
    let marks = rw c.split_at.ensures.front at c.mark.ensures in
    let rest = rw c.split_at.ensures.back at c.all_zero.ensures in
    rest ∙ by-words s.values.now s.trail.now s.used c.requires.used_in_bounds _ (if-marked _ _ _ _ marks c.if-not-mark.false)
    (sym c.open_outside.ensures ∙ c.if-open_outside.true)

pub returns-else-open_outside : goal.returns-else-open_outside
returns-else-open_outside g c =
    let s = c.args in
    let marks = rw c.split_at.ensures.front at c.mark.ensures in
    c.if-open_outside.false ∙ set-outside s.values.now s.trail.now s.used c.requires.used_in_bounds _ (if-marked _ _ _ _ marks c.if-not-mark.false)
    (sym c.open_outside.ensures ∙ c.if-open_outside.false)
