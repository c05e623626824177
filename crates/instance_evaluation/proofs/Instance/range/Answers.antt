-- The atoms of the variable's sort.
use mathlib.Core.Path.{ap}
use Prim.Native.Nat.{ℕ}
use Rattle.sheet_rules.specs.Blocks.{sheet_of}
use Rattle.relational.specs.declared.Leaf.TheVariants as leaf_operator
use Rattle.relational.specs.Evaluation.{value_leaf}
use Rattle.instance_matrix.proofs.Results.{gives_as}
use Rattle.instance_evaluation.proofs.Instance.range.Goals as goal

pub returns : goal.returns
returns c env =
    let i = c.args.self.now in
    gives_as _ _ _
    (ap (λ (k : ℕ). value_leaf (sheet_of i.sheet.bytes.now) i.cells.now leaf_operator.Atoms k env)
    c.sort_of_variable.ensures)
    (c.atoms.ensures env)
