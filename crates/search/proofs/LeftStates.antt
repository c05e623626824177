-- A call over what a run left takes up the state that it left.
use mathlib.Core.Path.{◌≡◌, refl, ◌∙◌, ap}
use mathlib.Core.Bool.{true}
use mathlib.Core.List.{List, ◌++◌}
use Prim.Native.Nat.{ℕ, ◌+◌, ◌≤◌}
use native.Mathlib.Omega.{arith}
use lib.IntN.{ℤ}
use lib.ListN.{length, take, drop, length-append}
use lib.Seq.{take_at, drop_at}
use Rattle.clause_list.specs.ClauseList.{is_list}
use Rattle.search_rules.specs.declared.Steps.{Steps}
use Rattle.search_rules.specs.Rules.{State, values_of, trail_of}
use Rattle.search_rules.specs.Run.{total, End}
use Rattle.search_rules.specs.Held.{position_of, step_limit, WasOpen, Stored}
use Rattle.search_rules.proofs.Invariant.{length-values}
use Rattle.search_rules.proofs.Trails.{length-trail}
use Rattle.search_rules.proofs.StateHeld.{read-stored, stored-passes}
use Rattle.search.specs.Resumed.{finish_at, Running, taken_up}
use Rattle.search.proofs.Resumptions as resumed

-- slices whose first v bytes and words hold a state
module _ (v : ℕ) (state : State) (opened : WasOpen v state) (values : List ℕ) (trail : List ℤ)
    (vs : take v values ≡ values_of v state) (ts : take v trail ≡ trail_of v state) where
  pub stored : Stored v state (take v values) (take v trail) (length state)
  stored = record { values_are = vs; trail_is = ts; used_is = refl; was_open = opened }

-- the slices that a run over them left at a state
module _ (v : ℕ) (state : State) (values : List ℕ) (trail : List ℤ) where
  abbrev pub left_values : List ℕ
  left_values = values_of v state ++ drop v values

  abbrev pub left_trail : List ℤ
  left_trail = trail_of v state ++ drop v trail

  pub holds-left : WasOpen v state → Stored v state (take v left_values) (take v left_trail) (length state)
  holds-left o =
      stored v state o left_values left_trail
      (take_at (values_of v state) (drop v values) v (length-values v state))
      (take_at (trail_of v state) (drop v trail) v (length-trail v state))

  -- what is behind them stays
  pub values-behind : drop v left_values ≡ drop v values
  values-behind = drop_at (values_of v state) (drop v values) v (length-values v state)

  pub trail-behind : drop v left_trail ≡ drop v trail
  trail-behind = drop_at (trail_of v state) (drop v trail) v (length-trail v state)

  pub values-wide : v ≤ length left_values
  values-wide = omega (arith, length-append (values_of v state) (drop v values), length-values v state)

  pub trail-deep : v ≤ length left_trail
  trail-deep = omega (arith, length-append (trail_of v state) (drop v trail), length-trail v state)

  -- the end of a later call, over what was left, is that of one over what was lent at first
  finish-later : (end : End) → finish_at v left_values left_trail end ≡ finish_at v values trail end
  finish-later end = rw (values-behind, trail-behind) refl

-- a call over them
pub takes-left : (running : Running) (list : List ℤ) (v : ℕ) (values : List ℕ) (trail : List ℤ) (t : Steps) (state : State) (n : ℕ)
    → is_list v list ≡ true → WasOpen v state → total t + n ≤ step_limit
    → taken_up running list v (left_values v state values trail) (left_trail v state values trail) (position_of (length state) t) n
    ≡ finish_at v values trail (running t state n)
takes-left running list v values trail t state n is o few =
    let h = holds-left v state values trail o in
    resumed.runs running list v _ _ _ n is (values-wide v state values trail) (trail-deep v state values trail) (stored-passes v state _ _ _ h) few
    ∙ ap (λ x. finish_at v (left_values v state values trail) (left_trail v state values trail) (running t x n)) (read-stored v state _ _ _ h)
    ∙ finish-later v state values trail (running t state n)
