-- What 14 finds out: whether the slices and the length hold a state, which is then the one that is read from them.
use mathlib.Core.Path.{◌≡◌, sym}
use mathlib.Core.Bool.{false}
use mathlib.Core.List.{List}
use Prim.Native.Nat.{ℕ}
use lib.IntN.{ℤ}
use lib.ListN.{length}
use Rattle.prelude.proofs.Laws.{clash}
use Rattle.search_rules.specs.Rules.{State}
use Rattle.search_rules.specs.Held.{no_state, state_in, Stored, StateHeld}
use Rattle.search_rules.proofs.Trails.{length-trail}
use Rattle.search_rules.proofs.Conditions.{consistent, passes}
use Rattle.search_rules.proofs.Decoding.{read_held}
use Rattle.search_rules.proofs.Storing.{consistent-own, read-own}

pub holds-state : (v : ℕ) (values : List ℕ) (trail : List ℤ) (n : ℕ) → no_state v values trail n ≡ false → length values ≡ v → length trail ≡ v
    → Stored v (state_in values trail n) values trail n
holds-state v values trail n e p q = read_held v values trail n (consistent v values trail n q e) p q

module _ (v : ℕ) (state : State) (values : List ℕ) (trail : List ℤ) (n : ℕ) (s : Stored v state values trail n) where
  pub read-stored : state_in values trail n ≡ state
  read-stored = rw (s.values_are, s.trail_is, s.used_is) (read-own v state s.was_open)

  pub stored-passes : no_state v values trail n ≡ false
  stored-passes =
      rw (s.values_are, s.trail_is, s.used_is) (passes v _ _ _ (length-trail v state) (consistent-own v state s.was_open))

pub state-held : StateHeld
state-held v values trail n p q = record {
  declines = λ e state s. clash (no_state v values trail n) e (stored-passes v state values trail n s);
  holds = λ e. holds-state v values trail n e p q;
  only = λ state s. sym (read-stored v state values trail n s);
}
