-- "None" where scopes are upper limits (document 02, Change 8).
use Rattle.std.specs.Prelude.{◌≡◌, true, false, List, ℕ, ◌≤◌}
use Rattle.sheet_rules.specs.Blocks.{Sheet, byte, scope, is_bounded}
use Rattle.relational.specs.Meaning.{Solution}

-- sheets that differ in scopes alone: each limited one may be smaller, exact, or both; the others stay
pub record Narrowed (wide narrow : Sheet) : Type 0 where
  pub variables : narrow.variables ≡ wide.variables
  pub relations : narrow.relations ≡ wide.relations
  pub nodes : narrow.nodes ≡ wide.nodes
  pub full : (k : ℕ) → is_bounded wide k ≡ false → byte narrow.sorts k ≡ byte wide.sorts k
  pub limited : (k : ℕ) → is_bounded wide k ≡ true → scope narrow k ≤ scope wide k

-- "None" then means none with any smaller number of atoms either: where the wide sheet has none, so has the narrow one
abbrev pub NoneNarrower : Type 0
NoneNarrower = (wide narrow : Sheet) → Narrowed wide narrow → ((instance : List ℕ) → Solution wide instance → ⊥)
    → (instance : List ℕ) → Solution narrow instance → ⊥
