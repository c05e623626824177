-- What one look over the clauses shows.
-- No public contract reaches this file: nothing here needs belief.
use Rattle.std.specs.Prelude.{true, false, List, ℕ, ℤ}
use Rattle.std.proofs.Math.Option.{none, some}
use Rattle.search_scan.specs.declared.Seen.{Seen}
use Rattle.search_scan.specs.declared.Seen.TheVariants.{Conflict, UnitClause, Neither}
use Rattle.search_rules.specs.Rules.{Truth, falsified, satisfied, unassigned, conflict, first_unit}

-- the truth of a literal as a number
unfoldable pub truth_code : Truth → ℕ
truth_code falsified = 0
truth_code satisfied = 1
truth_code unassigned = 2

-- what a look over the clauses shows: the first two rules at once
pub data Sight : Type 0 where
  conflicting : Sight
  unit : ℤ → Sight
  neither : Sight

unfoldable pub seen : List ℕ → List (List ℤ) → Sight
seen values clauses =
    elim (conflict values clauses)
    [ true ↦ conflicting | false ↦ elim (first_unit values clauses) [ some l ↦ unit l | none ↦ neither ] ]

abbrev pub seen_as : Seen → Sight
seen_as Conflict = conflicting
seen_as (UnitClause l) = unit l
seen_as Neither = neither
