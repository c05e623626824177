-- The array holds the shapes of the nodes passed.
use Rattle.std.proofs.Common.{◌≡◌}
use Rattle.sheet_rules.specs.Blocks.{Sheet}
use Rattle.sheet_rules.specs.Tables.{table, shape_step}
use Rattle.sheet.specs.Filling.{Fills}
use Rattle.shapes.specs.declared.Shape.TheVariants.{Ill}
use Rattle.sheet.proofs.tables.shapes_of.Given as goal

abbrev pub invariant-loop-v : goal.invariant-loop-v
invariant-loop-v l =
    (sheet : Sheet) → sheet.variables ≡ l.variables → sheet.relations ≡ l.relations → sheet.nodes ≡ l.nodes
    → Fills (λ x. x) Ill (table (shape_step sheet) l.v) l.shapes
