-- Elements stored one after the other.
-- No public contract reaches this file: nothing here needs belief.
use Rattle.std.specs.Prelude.{List, [], ◌∷◌, ℕ, ◌+◌, set}

-- ys stored in xs from a place on; what would lie past the end is not stored
unfoldable pub put_all : {A : Type 0} → List A → ℕ → List A → List A
put_all xs at [] = xs
put_all xs at (y ∷ ys) = put_all (set xs at y) (at + 1) ys
