-- A run that is spent leaves a state over the same variables, so that it can be taken up again.
use mathlib.Core.Path.{◌≡◌}
use mathlib.Core.List.{List}
use Prim.Native.Nat.{ℕ}
use native.Mathlib.Omega.{arith}
use lib.IntN.{ℤ}
use Rattle.search_rules.specs.declared.Steps.{Steps}
use Rattle.search_rules.specs.Rules.{State, word_of, place_of, values_of, Kind, step, next}
use Rattle.search_rules.specs.Run.{was_spent, run}
use Rattle.search_rules.specs.Held.{WasOpen}
use Rattle.search_rules.proofs.Ranges.{Ranged}
use Rattle.search_rules.proofs.Invariant.{first-unit-open, length-values}
use Rattle.search_rules.proofs.StepView.{Kept, steps-keep, Ends, run_ends}

-- a step from a state over v variables leads to one
module _ (v : ℕ) (clauses : List (List ℤ)) (ranged : Ranged v clauses) where
  pub open_kept : Kept clauses v (WasOpen v)
  unfolding WasOpen word_of place_of
  open_kept =
      record {
        on_opening = λ l state h. h.2;
        on_turning = λ i state h. h;
        on_propagation = λ l state u h. let o = first-unit-open v (values_of v state) l clauses ranged u in (o.0, o.1, h);
        on_decision = λ i state low h. ((omega arith, let w = low.within in omega (arith, length-values v state)), low.is_open, h);
      }

  pub open-keeps : (state : State) (kind : Kind) (s : State) → WasOpen v state → next clauses v state ≡ step kind s → WasOpen v s
  open-keeps = steps-keep clauses v (WasOpen v) open_kept

  -- the state that a spent run leaves is one
  pub spent-open : (n : ℕ) (t t' : Steps) (state s : State) → WasOpen v state → run clauses v n t state ≡ was_spent t' s → WasOpen v s
  unfolding Ends
  spent-open n t t' state s h e =
      (run_ends clauses v (λ t state. WasOpen v state) (λ t state kind s p d. open-keeps state kind s p d) n t state (was_spent t' s) h e).0
