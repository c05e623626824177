-- `search_core::run::advance` meets its contract. Assumes nothing.
use mathlib.Core.Path.{refl}
use native.Mathlib.Omega.{arith}
use native.Mathlib.Numerals.{add-one}
use Rattle.search_rules.specs.Run.{total, count}
use Rattle.search_core.proofs.run.advance.Goals as goal

pub overflow_add-result : goal.overflow_add-result
unfolding total
overflow_add-result c = omega arith

pub overflow_add-result-in-Decision : goal.overflow_add-result-in-Decision
unfolding total
overflow_add-result-in-Decision c = omega arith

pub overflow_add-result-in-Backtrack : goal.overflow_add-result-in-Backtrack
unfolding total
overflow_add-result-in-Backtrack c = omega arith

pub returns-in-Propagation : goal.returns-in-Propagation
unfolding count
returns-in-Propagation c = rw c.in-Propagation.is (rw add-one refl)

pub returns-in-Decision : goal.returns-in-Decision
unfolding count
returns-in-Decision c = rw c.in-Decision.is (rw add-one refl)

pub returns-in-Backtrack : goal.returns-in-Backtrack
unfolding count
returns-in-Backtrack c = rw c.in-Backtrack.is (rw add-one refl)
