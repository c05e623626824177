-- What every step keeps: each literal that is no decision follows from the clauses and the literals before it.
-- And what a unit clause gives: its literal's variable is open.
use mathlib.Core.Path.{◌≡◌, refl, ◌∙◌}
use mathlib.Core.Bool.{Bool, true, false, cond}
use mathlib.Core.List.{List, [], ◌∷◌}
use mathlib.Core.Option.{Option, none, some}
use Prim.Native.Nat.{ℕ, zero, suc}
use native.Mathlib.Omega.{arith}
use lib.IntN.{ℤ, pos, negsuc}
use lib.ListN.{length, get_or, length-set, length-replicate}
use Rattle.prelude.specs.Tests.{all, any}
use Rattle.search_rules.specs.Held.{InRange}
use Rattle.search_rules.specs.Inner.{AllIn}
use Rattle.search_rules.specs.Rules.{Truth, falsified, satisfied, unassigned, truth_of, negated, literal, open_of, only, unit_of}
use Rattle.search_rules.specs.Rules.{first_unit, is_satisfied, propagated, decided, State, word_of, place_of, values_of}
use Rattle.search_rules.specs.Rules.{Kind, Next, end_none, end_found, step, turn, next}
use Rattle.search_rules.proofs.Booleans.{not-false-true}
use Rattle.search_rules.proofs.Assignments.{Assignment, holds, Model, Has, Follows, values_agree, conflict-not, first-unit-holds}
use Rattle.search_rules.proofs.Ranges.{Ranged}
use Rattle.search_rules.proofs.StepView.{Step, ends-none, ends_found, backtracks, propagates, decides, view}

pub length-values : (v : ℕ) (state : State) → length (values_of v state) ≡ v
unfolding values_of
length-values v [] = length-replicate v 2
length-values v (e ∷ state) = simp length-set (length-values v state)

-- what follows stays so
unfoldable pub Keeps : Assignment → Next → Type 0
Keeps a end_none = ⊥
Keeps a end_found = Unit {0}
Keeps a (step kind s) = Follows a s

pub turn-keeps : (a : Assignment) (state : State) → Follows a state → (Has a state → ⊥) → Keeps a (turn state)
unfolding turn Follows Keeps Has word_of
turn-keeps a [] f n = n tt
turn-keeps a (propagated l ∷ state) f n = turn-keeps a state f.1 (λ g. n (f.0 g, g))
turn-keeps a (decided i ∷ state) f n = (λ g. unfold holds in not-false-true (a i) (λ h. n (unfold holds in h, g)), f)

module _ (clauses : List (List ℤ)) (v : ℕ) (a : Assignment) (model : Model a clauses) where
  step_keeps : (state : State) (x : Next) → Step clauses v state x → Follows a state → Keeps a x
  unfolding Keeps Follows
  step_keeps state x (ends-none e c t) f =
      rw e (rw t at (turn-keeps a state f (λ g. conflict-not (values_of v state) a (values_agree a v state g) clauses model c)))
  step_keeps state x (ends_found e c u full) f = rw e tt
  step_keeps state x (backtracks e c t) f =
      rw e (rw t at (turn-keeps a state f (λ g. conflict-not (values_of v state) a (values_agree a v state g) clauses model c)))
  step_keeps state x (propagates {l = l} e c u) f =
      rw e (λ g. first-unit-holds (values_of v state) a (values_agree a v state g) l clauses model u, f)
  step_keeps state x (decides e c u low) f = rw e f

  pub follows-keeps : (state : State) (kind : Kind) (s : State) → Follows a state → next clauses v state ≡ step kind s → Follows a s
  unfolding Keeps
  follows-keeps state kind s f e = rw e at (step_keeps state (next clauses v state) (view clauses v state) f)

  pub follows-not-none : (state : State) → Follows a state → next clauses v state ≡ end_none → ⊥
  unfolding Keeps
  follows-not-none state f e = rw e at (step_keeps state (next clauses v state) (view clauses v state) f)

-- an open literal's variable has no value
open-two : (b : ℕ) → truth_of b ≡ unassigned → b ≡ 2
unfolding truth_of
open-two zero e = cc
open-two (suc zero) e = cc
open-two (suc (suc zero)) e = refl
open-two (suc (suc (suc n))) e = cc

negated-open : (t : Truth) → negated t ≡ unassigned → t ≡ unassigned
unfolding negated
negated-open falsified e = cc
negated-open satisfied e = cc
negated-open unassigned e = refl

pub literal-open : (values : List ℕ) (l : ℤ) → literal values l ≡ unassigned → get_or values (place_of l) 2 ≡ 2
unfolding literal place_of
literal-open values (pos n) e = open-two _ e
literal-open values (negsuc n) e = open-two _ (negated-open _ e)

-- a literal of the variables 1 to v that is open in the values
abbrev pub OpenIn : ℕ → List ℕ → ℤ → Type 0
OpenIn v values l = InRange v l × (get_or values (place_of l) 2 ≡ 2)

module _ (v : ℕ) (values : List ℕ) where
  -- the first of a clause's open literals
  open_step : (k l : ℤ) (clause ls : List ℤ) → InRange v l → (t : Truth) → literal values l ≡ t
      → elim t as (λ _. List ℤ) [ falsified ↦ open_of values clause | satisfied ↦ open_of values clause | unassigned ↦ l ∷ open_of values clause ]
      ≡ k ∷ ls
      → (open_of values clause ≡ k ∷ ls → OpenIn v values k) → OpenIn v values k
  open_step k l clause ls r falsified d e p = p e
  open_step k l clause ls r satisfied d e p = p e
  open_step k l clause ls r unassigned d e p = let q : l ≡ k = cc in rw q at (here r d)
    where
      here : InRange v l → literal values l ≡ unassigned → OpenIn v values l
      here r d = (r, literal-open values l d)

  open_in : (k : ℤ) (clause ls : List ℤ) → AllIn v clause → open_of values clause ≡ k ∷ ls → OpenIn v values k
  unfolding open_of AllIn
  open_in k [] ls h e = absurd (let z : ◌≡◌ {A = ℕ} 0 1 = cc in omega arith)
  open_in k (l ∷ clause) ls h e = open_step k l clause ls h.0 (literal values l) refl e (open_in k clause ls h.1)

  only-first : (k : ℤ) (clause ls : List ℤ) → AllIn v clause → open_of values clause ≡ ls → only ls ≡ some k → OpenIn v values k
  unfolding only
  only-first k clause [] h d e = absurd (let z : ◌≡◌ {A = ℕ} 0 1 = cc in omega arith)
  only-first k clause (l ∷ ls) h d e = by (all _ ls) e
    where
      by : (b : Bool) → cond b (some l) none ≡ some k → OpenIn v values k
      by true e = let q : l ≡ k = cc in rw q at (open_in l clause ls h d)
      by false e = absurd (let z : ◌≡◌ {A = ℕ} 0 1 = cc in omega arith)

  unit-open : (k : ℤ) (clause : List ℤ) → AllIn v clause → unit_of values clause ≡ some k → OpenIn v values k
  unfolding unit_of
  unit-open k clause h e = by (any (λ l. is_satisfied (literal values l)) clause) e
    where
      by : (b : Bool) → cond b none (only (open_of values clause)) ≡ some k → OpenIn v values k
      by true e = absurd (let z : ◌≡◌ {A = ℕ} 0 1 = cc in omega arith)
      by false e = only-first k clause (open_of values clause) h refl e

  -- a unit clause's literal is one of the v variables', and open
  pub first-unit-open : (k : ℤ) (clauses : List (List ℤ)) → Ranged v clauses → first_unit values clauses ≡ some k → OpenIn v values k
  unfolding Ranged first_unit
  first-unit-open k [] h e = absurd (let z : ◌≡◌ {A = ℕ} 0 1 = cc in omega arith)
  first-unit-open k (clause ∷ clauses) h e = by (unit_of values clause) refl (first-unit-open k clauses h.1) e
    where
      by : (u : Option ℤ) → unit_of values clause ≡ u → (first_unit values clauses ≡ some k → OpenIn v values k)
          → elim u as (λ _. Option ℤ) [ none ↦ first_unit values clauses | some l ↦ some l ] ≡ some k → OpenIn v values k
      by none d p e = p e
      by (some l) d p e = unit-open k clause h.0 (d ∙ e)
