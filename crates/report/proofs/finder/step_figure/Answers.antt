-- `step_figure` meets its contract.
use mathlib.Core.Path.{refl}
use native.Mathlib.Omega.{arith}
use Rattle.search_rules.specs.Run.{total}
use Rattle.report.proofs.finder.step_figure.Goals as goal

pub overflow_add-result : goal.overflow_add-result
unfolding total
overflow_add-result c = omega arith

pub overflow_add-result-2 : goal.overflow_add-result-2
unfolding total
overflow_add-result-2 c = omega arith

pub returns : goal.returns
unfolding total
returns c = refl
