use Rattle.std.proofs.Common.{◌≡◌, ◌∙◌, sym, ap, refl, Bool, true, false, cond, ℕ, ℤ, to_z-of_z}
use mir.Val.{bool_byte}
use Rattle.literal.specs.Words.{is_positive}
use Rattle.search_rules.specs.Rules.{propagated, byte_of, place_of}
use Rattle.search_rules.specs.Held.{InRange}
use Rattle.search_scan.proofs.Words.{place-of, byte_above, byte-below}
use Rattle.search_core.proofs.steps.propagate.Goals as goal

byte-is : (v : ℕ) (z l : ℤ) → z ≡ l → InRange v l → (b : Bool) → is_positive z ≡ b → bool_byte b ≡ byte_of (propagated l)
byte-is v z l e r true t = sym (byte_above v z l e r t)
byte-is v z l e r false t = sym (byte-below v z l e r t)

pub returns-clause-values_after : goal.returns-clause-values_after
returns-clause-values_after c =
    let e = to_z-of_z c.ranges.l in
    let at = c.place-at.ensures ∙ place-of _ ∙ ap place_of e in
    let b = c.from.ensures ∙ byte-is _ _ _ e c.requires.in_range _ (sym c.is_positive.ensures) in
    rw (at, b) refl
