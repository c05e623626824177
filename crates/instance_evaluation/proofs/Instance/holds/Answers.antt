-- The cells, the marks, and the root from any atoms.
use mathlib.Core.Path.{◌≡◌, ◌∙◌}
use mathlib.Core.Bool.{true}
use native.Mathlib.Omega.{arith}
use Rattle.std.proofs.lemmas.Grind.{common_steps}
use Rattle.sheet_rules.specs.Blocks.{sheet_of}
use Rattle.relational.specs.Trees.{root_tree}
use Rattle.relational.specs.Evaluation.{holds}
use Rattle.cells.proofs.Parts.{nodes-counted}
use Rattle.nodes.proofs.Roots.{root_formula}
use Rattle.instance_evaluation.proofs.Layouts.{facts-of}
use Rattle.instance_evaluation.proofs.Steps.{root-truth}
use Rattle.instance_evaluation.proofs.Instance.holds.Goals as goal

pub overflow_sub-root : goal.overflow_sub-root
overflow_sub-root c =
    let i = c.args.self.now in
    omega (arith, nodes-counted _ _ i.sheet.taken, (facts-of i).counts.some_nodes)

pub formula-requires : goal.formula-requires
formula-requires c =
    let i = c.args.self.now in
    rw (nodes-counted _ _ i.sheet.taken) (root_formula _ (facts-of i))

pub returns-then-marked : goal.returns-then-marked
unfolding holds
returns-then-marked c =
    let i = c.args.self.now in
    let sheet = sheet_of i.sheet.bytes.now in
    let truth = (rw (nodes-counted _ _ i.sheet.taken) at c.formula.ensures)
    ∙ root-truth sheet i.cells.now (root_tree sheet) in
    let inside : c.cells_inside-inside.result ≡ true = c.if-marked.true.0 in
    let marked : c.marks_hold-marked.result ≡ true = c.if-marked.true.1 in
    rw (← c.cells_inside-inside.ensures, inside, ← c.marks_hold-marked.ensures, marked) truth

pub returns-else-marked : goal.returns-else-marked
unfolding holds
returns-else-marked c = grind (arith, common_steps)
