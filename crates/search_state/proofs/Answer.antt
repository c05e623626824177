-- The answer: which conditions of 14 the tests have found so far.
use mathlib.Core.Path.{◌≡◌, refl, sym, ap}
use mathlib.Core.Bool.{Bool, true, false, not, ◌||◌}
use mathlib.Core.List.{List}
use Prim.Native.Nat.{ℕ, ◌≤◌, ◌<◌}
use lib.IntN.{ℤ, pos}
use lib.Dec.{eqb, ltb}
use lib.ListN.{length, get_or, take, drop}
use borrow.Author.Tests.{lt-ltb, le-ltb}
use Rattle.prelude.specs.Tests.{each, any}
use Rattle.prelude.proofs.Laws.{or_left, or_right, each-cong}
use Rattle.search_rules.specs.Rules.{same_literal}
use Rattle.search_rules.specs.Held.{strays, repeats, contradicts, on_trail, set_outside, filled_outside, no_state}
use Rattle.search_state.specs.Inner.{faulty, Marked, MarkedIf, settled}

-- the answer of `mark`
module _ (values : List ℕ) (literals : List ℤ) (seen : List Bool) where
  pub if-marked : (r : Bool) → MarkedIf r values literals seen → r ≡ true → Marked values literals seen
  unfolding MarkedIf
  if-marked r m e = rw e at m

  pub if-faulty : (r : Bool) → MarkedIf r values literals seen → r ≡ false → faulty values literals ≡ true
  unfolding MarkedIf
  if-faulty r m e = rw e at m

-- three conditions, with another behind them
or-three : (a b c d : Bool) → a || (b || c) ≡ true → a || (b || (c || d)) ≡ true
or-three true b c d e = refl
or-three false true c d e = refl
or-three false false c d e = or_left c d e

module _ (values : List ℕ) (trail : List ℤ) (n : ℕ) where
  pub too_long : length values < n → false ≡ not (no_state (length values) values trail n)
  unfolding no_state
  too_long h = rw (lt-ltb (length values) n h)

  pub at-fault : faulty values (take n trail) ≡ true → false ≡ not (no_state (length values) values trail n)
  unfolding no_state
  at-fault e =
      let v = length values in
      let literals = take n trail in
      ap not
      (sym
      (or_right (ltb v n) _
      (or-three (strays v literals) (repeats literals) (contradicts values literals) (set_outside v values literals || filled_outside trail n) e)))

  module _ (h : n ≤ length values) (seen : List Bool) (m : Marked values (take n trail) seen) where
    -- the conditions that are left
    left : no_state (length values) values trail n ≡ (not (each (length values) (settled values seen)) || filled_outside trail n)
    unfolding no_state
    left = rw (le-ltb (length values) n h, m.within, m.apart, m.agree) (ap (λ (b : Bool). not b || filled_outside trail n) same)
      where
        same : each (length values) (λ i. on_trail (take n trail) i || eqb (get_or values i 2) 2) ≡ each (length values) (settled values seen)
        same = each-cong _ _ (length values) (λ i l. ap (λ (b : Bool). b || eqb (get_or values i 2) 2) (sym (m.marks i)))

    pub set-outside : each (length values) (settled values seen) ≡ false → false ≡ not (no_state (length values) values trail n)
    set-outside e = rw (left, e)

    pub by-words : each (length values) (settled values seen) ≡ true
        → not (any (λ w. not (same_literal w (pos 0))) (drop n trail)) ≡ not (no_state (length values) values trail n)
    by-words e = rw (left, e) refl
