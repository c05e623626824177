-- A node of a sheet, as the readers take it.
-- No public contract reaches this file: nothing here needs belief.
use Rattle.std.specs.Prelude.{ℕ}
use Rattle.kinds.specs.Kinds.{row_of}
use Rattle.sheet_rules.specs.Blocks.{Sheet, kind, field_a, field_b}
use Rattle.sheet.specs.declared.nodes.Node.{Node}

abbrev pub node_of : Sheet → ℕ → Node
node_of sheet v = record { row = row_of (kind sheet v); a = field_a sheet v; b = field_b sheet v }
