-- A store in the array of atoms binds a variable.
use mathlib.Core.Path.{◌≡◌, refl, fun_ext}
use mathlib.Core.Bool.{cond}
use mathlib.Core.List.{List}
use Prim.Native.Nat.{ℕ, zero, suc, ◌<◌}
use native.Mathlib.Decide.{ℕ_discrete}
use lib.Dec.{eqb}
use lib.ListN.{length, get_or, set, replicate}
use lib.Seq.{get_or-set_same, get_or-set_other}
use borrow.Author.Tests.{eq-eqb, ne_eqb}
use Rattle.relational.specs.Meaning.{Environment, bind}
use Rattle.nodes.specs.Environments.{environment}

pub bind-law : (env : List ℕ) (x atom : ℕ) → x < length env → environment (set env x atom) ≡ bind (environment env) x atom
bind-law env x atom h = fun_ext λ y. at y (ℕ_discrete y x)
  where
    at : (y : ℕ) → Dec (y ≡ x) → get_or (set env x atom) y 0 ≡ cond (eqb y x) atom (get_or env y 0)
    at y (yes e) = rw (eq-eqb y x e, e) (get_or-set_same env x atom 0 h)
    at y (no n) = rw (ne_eqb y x n) (get_or-set_other env x y atom 0 n)

-- a walk of the root starts with atom 0 for each variable
pub zero-atoms : ◌≡◌ {A = Environment} (environment (replicate 4 0)) (λ x. 0)
zero-atoms = fun_ext (at 4)
  where
    at : (n x : ℕ) → ◌≡◌ {A = ℕ} (get_or (replicate n 0) x 0) 0
    at zero x = refl
    at (suc n) zero = refl
    at (suc n) (suc x) = at n x
