-- The smallest case (document 02, Change 5).
use Rattle.std.specs.Prelude.{List, ℕ}
use Rattle.prelude.specs.Order.{NoneBefore}
use Rattle.sheet_rules.specs.Blocks.{Sheet}
use Rattle.relational.specs.Meaning.{Solution}

-- "no instance that satisfies marks and formula comes earlier in that order"
abbrev pub Smallest : Sheet → List ℕ → Type 0
Smallest sheet instance = NoneBefore (Solution sheet) instance
