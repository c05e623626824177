-- A run in two parts: the first steps, and then those that are left of the budget.
use mathlib.Core.Path.{◌≡◌, refl, sym, ◌∙◌, ap, subst}
use mathlib.Core.List.{List}
use Prim.Native.Nat.{ℕ, ◌+◌, ◌-◌, ◌≤◌}
use native.Mathlib.Omega.{arith}
use lib.IntN.{ℤ}
use Rattle.search_rules.specs.declared.Steps.{Steps}
use Rattle.search_rules.specs.Held.{steps_of, Stored}
use Rattle.search_rules.specs.Rules.{State}
use Rattle.search_rules.specs.Run.{total, End, was_none, was_found, was_spent, run}
use Rattle.search_rules.proofs.Theorems.{spent-state, again, resume}
use Rattle.search_core.specs.declared.run.End.TheVariants.{None, Found, Spent}
use Rattle.search_core.specs.declared.run.Ran.{Ran}
use Rattle.search_core.specs.Inner.{Ended}

pub apart_none : None ≡ Spent → ⊥
apart_none e = let z : ◌≡◌ {A = ℕ} 0 1 = cc in omega arith

pub apart-found : Found ≡ Spent → ⊥
apart-found e = let z : ◌≡◌ {A = ℕ} 0 1 = cc in omega arith

-- where the first part is spent, the second goes on from the state that it left
pub record Onward (clauses : List (List ℤ)) (v few budget : ℕ) (t : Steps) (state : State) (r : Ran) (values : List ℕ) (trail : List ℤ) : Type 0 where
  pub to : State
  pub stored : Stored v to values trail r.position.length
  pub figure : total (steps_of r.position) ≡ total t + few
  pub alike : run clauses v (budget - few) (steps_of r.position) to ≡ run clauses v budget t state

module _ (clauses : List (List ℤ)) (v few budget : ℕ) (within : few ≤ budget) (t : Steps) (state : State) (r : Ran) (values : List ℕ)
    (trail : List ℤ) where
  whole : run clauses v budget t state ≡ again clauses v (budget - few) (run clauses v few t state)
  whole =
      let e : budget ≡ few + (budget - few) = omega (arith, within) in ap (λ n. run clauses v n t state) e
      ∙ resume clauses v few (budget - few) t state

  -- what was left of the run, where that is its end
  early : (x : End) → run clauses v few t state ≡ x → (r.end ≡ Spent → ⊥) → Ended v x r values trail
      → Ended v (run clauses v budget t state) r values trail
  unfolding again
  early (was_none t') e n d = subst (λ y. Ended v y r values trail) (sym (whole ∙ ap (again clauses v (budget - few)) e)) d
  early (was_found t' s) e n d = subst (λ y. Ended v y r values trail) (sym (whole ∙ ap (again clauses v (budget - few)) e)) d
  early (was_spent t' s) e n d = absurd (n d.end_is)

  -- where it ended, that is the end
  pub ended-early : (r.end ≡ Spent → ⊥) → Ended v (run clauses v few t state) r values trail → Ended v (run clauses v budget t state) r values trail
  ended-early n d = early (run clauses v few t state) refl n d

  go_on : (x : End) → run clauses v few t state ≡ x → r.end ≡ Spent → Ended v x r values trail → Onward clauses v few budget t state r values trail
  unfolding again
  go_on (was_none t') e z d = absurd (apart_none (sym d.end_is ∙ z))
  go_on (was_found t' s) e z d = absurd (apart-found (sym d.end_is ∙ z))
  go_on (was_spent t' s) e z d = record {
    to = s;
    stored = d.stored;
    figure = ap total d.steps_are ∙ (spent-state clauses v few t t' state s e).1;
    alike = ap (λ u. run clauses v (budget - few) u s) d.steps_are ∙ sym (whole ∙ ap (again clauses v (budget - few)) e);
  }

  pub onward : r.end ≡ Spent → Ended v (run clauses v few t state) r values trail → Onward clauses v few budget t state r values trail
  onward z d = go_on (run clauses v few t state) refl z d
