-- Room for a piece of text, and a piece that was put.
-- No public contract reaches this file: nothing here needs belief.
use Rattle.std.specs.Prelude.{◌≡◌, List, ℕ, ◌+◌, ◌≤◌, length}
use Rattle.prelude.specs.Stores.{put_all}

-- there is room for a piece of text from a place on
abbrev pub Room : List ℕ → ℕ → List ℕ → Type 0
Room text at piece = at + length piece ≤ length text

-- a piece of text was put from a place on, and ends at the place answered
pub record Put (old : List ℕ) (at : ℕ) (piece : List ℕ) (new : List ℕ) (end : ℕ) : Type 0 where
  pub ends : end ≡ at + length piece
  pub holds : new ≡ put_all old at piece
