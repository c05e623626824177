-- The array says of the nodes passed whether x is free in them.
use Rattle.std.proofs.Common.{◌≡◌, false}
use Rattle.sheet_rules.specs.Blocks.{Sheet}
use Rattle.sheet_rules.specs.Tables.{table, free_step}
use Rattle.sheet.specs.Filling.{Fills}
use Rattle.sheet.proofs.tables.free_in.Given as goal

abbrev pub invariant-loop-v : goal.invariant-loop-v
invariant-loop-v l = (sheet : Sheet) → sheet.nodes ≡ l.nodes → Fills (λ f. f) false (table (free_step sheet l.x) l.v) l.free
