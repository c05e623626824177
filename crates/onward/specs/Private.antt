-- Where the finder stands when its search is taken up.
-- No public contract reaches this file: nothing here needs belief.
use Rattle.std.specs.Prelude.{◌≡◌, List, ℕ, Option, Some, None}
use Rattle.search_rules.specs.declared.Steps.{Steps}
use Rattle.search.specs.Answers.{Answer, found, none, spent, refused}
use Rattle.solve_rules.specs.Finding.{Slices, finding}
use Rattle.solve_rules.specs.Demand3.{FitSlices}

-- a call with no steps was spent, and left these slices
pub record Begun (s : List ℕ) (lent opened : Slices) : Type 0 where
  pub steps : Steps
  pub spends : (finding s lent 0).answer ≡ spent steps
  pub leaves : opened ≡ (finding s lent 0).left

-- some call did, and the slices fit
pub record SomeBegun (s : List ℕ) (opened : Slices) : Type 0 where
  pub lent : Slices
  pub begun : Begun s lent opened
  pub room : FitSlices s opened

-- the steps of a call that was spent
abbrev pub spent_in : Answer → Option Steps
spent_in (found steps) = None
spent_in (none steps) = None
spent_in (spent steps) = Some steps
spent_in (refused n) = None
