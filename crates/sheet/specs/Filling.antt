-- Arrays that hold a table; the scopes of a block.
-- No public contract reaches this file: nothing here needs belief.
use Rattle.std.specs.Prelude.{◌≡◌, List, [], ℕ, min, get_or}
use Rattle.sheet_rules.specs.Blocks.{four_blocks, scope}

-- the array has at each place what f makes of the table's entry; past the table, and past the array, of the default
pub record Fills {A B : Type 0} (f : A → B) (d : A) (entries : List A) (array : List B) : Type 0 where
  pub at : (i : ℕ) → get_or array i (f d) ≡ f (get_or entries i d)

-- 1,000,001 stands for every larger number of visits
abbrev pub capped : ℕ → ℕ
capped n = min n 1000001

-- the scope of sort k of a block of sorts
abbrev pub scope_in : List ℕ → ℕ → ℕ
scope_in sorts k = scope (four_blocks sorts [] [] []) k
