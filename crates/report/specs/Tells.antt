-- What a printed text tells of the instances of the sheet that was read: demand 3, and the smallest case of document
-- 02, Change 5, from the printed word on.
use Rattle.std.specs.Prelude.{◌≡◌, List, ◌++◌, ℕ}
use Prim.Native.String.{String}
use Rattle.text.specs.Texts.{bytes_of, end_line}
use Rattle.sheet_rules.specs.Blocks.{Sheet, sheet_of}
use Rattle.relational.specs.Meaning.{Solution}
use Rattle.solve_rules.specs.Smallest.{Smallest}
use Rattle.report.specs.Printed.{instance_lines}

-- the bytes printed start with a word
pub record StartsWith (word : String) (text : List ℕ) : Type 0 where
  pub rest : List ℕ
  pub parts : bytes_of word ++ rest ≡ text

-- the text is the line `found N` and the digits of an instance within the scopes that satisfies marks and formula.
-- "Whenever the finder prints a case, no instance that satisfies marks and formula comes earlier in that order."
pub record ShowsSmallest (sheet : Sheet) (text : List ℕ) : Type 0 where
  pub steps : ℕ
  pub instance : List ℕ
  pub solves : Solution sheet instance
  pub smallest : Smallest sheet instance
  pub shows : text ≡ end_line (bytes_of "found ") steps ++ instance_lines sheet instance

pub record Tells (input text : List ℕ) : Type 0 where
  -- "none" only if no instance within the scopes satisfies marks and formula
  pub none_only : StartsWith "none" text → (instance : List ℕ) → Solution (sheet_of input) instance → ⊥
  -- "found" only with one that does, the smallest
  pub found_only : StartsWith "found" text → ShowsSmallest (sheet_of input) text
