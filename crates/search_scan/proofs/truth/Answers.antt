-- `search_scan::truth` meets its contract. Assumes nothing.
use mathlib.Core.Path.{refl, sym, ◌∙◌}
use mir.Facts.{to_z-of_z}
use Rattle.search_scan.proofs.Words.{says-open, says-true-above, says-false-above, says-false-below, says-true-below}
use Rattle.search_scan.proofs.truth.Goals as goal

pub returns-then-x-eq2 : goal.returns-then-x-eq2
returns-then-x-eq2 c =
    says-open c.args.values.now _ _ _ _ (to_z-of_z c.ranges.l) c.requires.in_range c.place-at.ensures refl _ refl
    c.if-x-eq2.true

pub returns-then-x-eq1 : goal.returns-then-x-eq1
returns-then-x-eq1 c =
    says-true-above c.args.values.now _ _ _ _ (to_z-of_z c.ranges.l) c.requires.in_range c.place-at.ensures refl
    (sym c.is_positive.ensures ∙ c.if-is_positive.true) c.if-x-eq1.true

pub returns-else-x-eq1 : goal.returns-else-x-eq1
returns-else-x-eq1 c =
    says-false-above c.args.values.now _ _ _ _ (to_z-of_z c.ranges.l) c.requires.in_range c.place-at.ensures refl
    (sym c.is_positive.ensures ∙ c.if-is_positive.true) c.if-x-eq1.false c.if-x-eq2.false

pub returns-then-x-eq1-2 : goal.returns-then-x-eq1-2
returns-then-x-eq1-2 c =
    says-false-below c.args.values.now _ _ _ _ (to_z-of_z c.ranges.l) c.requires.in_range c.place-at.ensures refl
    (sym c.is_positive.ensures ∙ c.if-is_positive.false) c.if-x-eq1-2.true

pub returns-else-x-eq1-2 : goal.returns-else-x-eq1-2
returns-else-x-eq1-2 c =
    says-true-below c.args.values.now _ _ _ _ (to_z-of_z c.ranges.l) c.requires.in_range c.place-at.ensures refl
    (sym c.is_positive.ensures ∙ c.if-is_positive.false) c.if-x-eq1-2.false c.if-x-eq2.false
