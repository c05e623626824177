-- The lists that the code of the search runs on, and the steps done when a run ends.
-- No public contract reaches this file: nothing here needs belief.
use Rattle.std.specs.Prelude.{◌≡◌, List, [], ◌∷◌, ℕ, zero, suc, ◌≤◌, ℤ, pos, nat_abs, length, take, drop}
use Rattle.search_rules.specs.declared.Steps.{Steps}
use Rattle.search_rules.specs.Run.{End, was_none, was_found, was_spent}
use Rattle.search_rules.specs.Held.{InRange}

unfoldable pub AllIn : ℕ → List ℤ → Type 0
AllIn v [] = Unit {0}
AllIn v (l ∷ ls) = InRange v l × AllIn v ls

-- whole clauses over v variables, cut in so many rounds
unfoldable pub FineIn : ℕ → ℕ → List ℤ → Type 0
FineIn v zero ws = ws ≡ []
FineIn v (suc rounds) [] = Unit {0}
FineIn v (suc rounds) (w ∷ ws) =
    (w ≡ pos (nat_abs w)) × (nat_abs w ≤ length ws) × AllIn v (take (nat_abs w) ws) × FineIn v rounds (drop (nat_abs w) ws)

unfoldable pub Fine : ℕ → List ℤ → Type 0
Fine v ws = FineIn v (length ws) ws

-- the steps done when a run ends
abbrev pub steps_at : End → Steps
steps_at (was_none t) = t
steps_at (was_found t state) = t
steps_at (was_spent t state) = t
