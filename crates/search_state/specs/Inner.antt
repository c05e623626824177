-- What the functions of this crate say to each other.
-- No public contract reaches this file: nothing here needs belief.
use Rattle.std.specs.Prelude.{◌≡◌, Bool, true, false, ◌||◌, List, ℕ, ◌≤◌, eqb, ℤ, length, get_or, replicate}
use Rattle.search_rules.specs.Held.{strays, repeats, contradicts, on_trail}

-- a literal is out of range, repeated or contradicts its value
abbrev pub faulty : List ℕ → List ℤ → Bool
faulty values literals = strays (length values) literals || (repeats literals || contradicts values literals)

-- none is, and the table, which has a flag for each variable, marks exactly theirs
pub record Marked (values : List ℕ) (literals : List ℤ) (seen : List Bool) : Type 0 where
  pub long : length values ≤ length seen
  pub within : strays (length values) literals ≡ false
  pub apart : repeats literals ≡ false
  pub agree : contradicts values literals ≡ false
  pub marks : (i : ℕ) → get_or seen i false ≡ on_trail literals i

-- what `mark` leaves behind, by its answer
unfoldable pub MarkedIf : Bool → List ℕ → List ℤ → List Bool → Type 0
MarkedIf true values literals seen = Marked values literals seen
MarkedIf false values literals seen = faulty values literals ≡ true

-- a table of any length, without a mark
abbrev pub Empty : List Bool → Type 0
Empty seen = seen ≡ replicate (length seen) false

-- the variable at a place has a mark or an open value
abbrev pub settled : List ℕ → List Bool → ℕ → Bool
settled values seen i = get_or seen i false || eqb (get_or values i 2) 2
