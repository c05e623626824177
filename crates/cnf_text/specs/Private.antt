-- What the function that writes the clause text promises of it.
-- No public contract reaches this file: nothing here needs belief.
use Rattle.std.specs.Prelude.{List, ℕ, ◌≤◌, length}
use Rattle.text.specs.Texts.{Prints}

-- a text was printed, and there was room for it
pub record PrintsText (text lent left : List ℕ) (end : ℕ) : Type 0 where
  pub room : length text ≤ length lent
  pub prints : Prints text lent left end
