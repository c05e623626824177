-- The walk, form by form. The measure is twice the node, and one more in a binder.
use Prim.Native.Nat.{ℕ, ◌+◌, ◌*◌}
use Rattle.sheet_rules.specs.Blocks.{sheet_of}
use Rattle.relational.specs.Meaning.{bind}
use Rattle.instance_matrix.proofs.Filling.{Filled}
use Rattle.nodes.specs.Environments.{environment}
use Rattle.nodes.specs.Nodes.{tree_at}
use Rattle.instance_evaluation.specs.Walking.{truth_in_tree}
use Rattle.instance_evaluation.proofs.Instance.+bodies_expression_formula.Given as goal

abbrev pub decreases-bodies : goal.decreases-bodies
decreases-bodies l = 2 * l.at + 1

abbrev pub decreases-expression : goal.decreases-expression
decreases-expression l = 2 * l.at

abbrev pub decreases-formula : goal.decreases-formula
decreases-formula l = 2 * l.at

abbrev pub invariant-bodies-loop-k : goal.invariant-bodies-loop-k
invariant-bodies-loop-k l =
    let sheet = sheet_of l.self.sheet.bytes.now in
    Filled l.cells
    (λ (j : ℕ). truth_in_tree sheet l.self.cells.now (bind (environment l.env) l.x j) (tree_at sheet l.at))
    l.k
