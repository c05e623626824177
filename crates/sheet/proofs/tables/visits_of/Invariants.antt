-- The array holds the visits of the nodes passed, capped.
use Rattle.std.proofs.Common.{◌≡◌}
use Rattle.sheet_rules.specs.Blocks.{Sheet}
use Rattle.sheet_rules.specs.Tables.{table, visits_step}
use Rattle.sheet.specs.Filling.{Fills, capped}
use Rattle.sheet.proofs.tables.visits_of.Given as goal

abbrev pub invariant-loop-v : goal.invariant-loop-v
invariant-loop-v l =
    (sheet : Sheet) → sheet.sorts ≡ l.sorts → sheet.variables ≡ l.variables → sheet.nodes ≡ l.nodes
    → Fills capped 0 (table (visits_step sheet) l.v) l.visits
