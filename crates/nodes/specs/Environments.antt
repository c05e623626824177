-- Environments by the atoms of the variables.
-- No public contract reaches this file: nothing here needs belief.
use Rattle.std.specs.Prelude.{List, ℕ, get_or}
use Rattle.relational.specs.Meaning.{Environment}

-- an atom for each variable
abbrev pub environment : List ℕ → Environment
environment env x = get_or env x 0
