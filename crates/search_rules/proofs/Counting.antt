-- Each counter of a run by itself: the one handed in, and the steps of its kind.
use mathlib.Core.Path.{◌≡◌, refl, sym, ◌∙◌}
use mathlib.Core.Bool.{cond}
use mathlib.Core.List.{List, [], ◌∷◌}
use Prim.Native.Nat.{ℕ, zero, suc, ◌+◌}
use native.Mathlib.Omega.{arith}
use native.Mathlib.Nat.{add-zero}
use lib.IntN.{ℤ}
use Rattle.search_rules.specs.declared.Steps.{Steps}
use Rattle.search_rules.specs.Rules.{State, Kind, propagation, decision, backtrack, Next, end_none, end_found, step, next}
use Rattle.search_rules.specs.Run.{count, End, was_none, was_found, was_spent, run}
use Rattle.search_rules.specs.Counting.{counter, kinds_taken, same_kind, of_kind}
use Rattle.search_rules.specs.Following.{first_step, following_run, following_kinds}
use Rattle.search_rules.specs.Inner.{steps_at}

-- a step counts for its kind, and for no other
one_more : (kind k : Kind) (t : Steps) (rest : ℕ)
    → counter kind (count k t) + rest ≡ counter kind t + cond (same_kind kind k) (suc rest) rest
unfolding counter count same_kind
one_more propagation propagation t rest = omega arith
one_more propagation decision t rest = refl
one_more propagation backtrack t rest = refl
one_more decision propagation t rest = refl
one_more decision decision t rest = omega arith
one_more decision backtrack t rest = refl
one_more backtrack propagation t rest = refl
one_more backtrack decision t rest = refl
one_more backtrack backtrack t rest = omega arith

module _ (clauses : List (List ℤ)) (v : ℕ) (kind : Kind) where
  abbrev Counts : ℕ → Steps → State → Type 0
  Counts n t state = counter kind (steps_at (run clauses v n t state)) ≡ counter kind t + of_kind kind (kinds_taken clauses v n state)

  -- with no step allowed, and with one more, by what the rules say
  none-taken : (t : Steps) (state : State) (x : Next)
      → counter kind (steps_at (elim x as (λ _. End) [ end_none ↦ was_none t | end_found ↦ was_found t state | step k s ↦ was_spent t state ]))
      ≡ counter kind t + 0
  none-taken t state end_none = sym (add-zero (counter kind t))
  none-taken t state end_found = sym (add-zero (counter kind t))
  none-taken t state (step k s) = sym (add-zero (counter kind t))

  one-taken : (n : ℕ) (t : Steps) (state : State) (x : Next) → ((k : Kind) (s : State) → Counts n (count k t) s)
      → counter kind
      (steps_at (elim x as (λ _. End) [ end_none ↦ was_none t | end_found ↦ was_found t state | step k s ↦ run clauses v n (count k t) s ]))
      ≡ counter kind t
      + of_kind kind (elim x as (λ _. List Kind) [ end_none ↦ [] | end_found ↦ [] | step k s ↦ k ∷ kinds_taken clauses v n s ])
  unfolding of_kind
  one-taken n t state end_none on = sym (add-zero (counter kind t))
  one-taken n t state end_found on = sym (add-zero (counter kind t))
  one-taken n t state (step k s) on = on k s ∙ one_more kind k t (of_kind kind (kinds_taken clauses v n s))

  counts : (n : ℕ) (t : Steps) (state : State) → Counts n t state
  unfolding run kinds_taken of_kind
  counts zero t state = none-taken t state (next clauses v state)
  counts (suc n) t state = one-taken n t state (next clauses v state) (λ k s. counts n (count k t) s)

  -- and so where the first step is that of a call for the next
  pub following-counts : (n : ℕ) (t : Steps) (state : State)
      → counter kind (steps_at (following_run clauses v n t state)) ≡ counter kind t + of_kind kind (following_kinds clauses v n state)
  unfolding following_run following_kinds of_kind
  following-counts zero t state = none-taken t state (first_step clauses v state)
  following-counts (suc n) t state = one-taken n t state (first_step clauses v state) (λ k s. counts n (count k t) s)

-- of every run, from any state and after any steps
pub each_counts : (clauses : List (List ℤ)) (v n : ℕ) (t : Steps) (state : State) (kind : Kind)
    → counter kind (steps_at (run clauses v n t state)) ≡ counter kind t + of_kind kind (kinds_taken clauses v n state)
each_counts clauses v n t state kind = counts clauses v kind n t state
