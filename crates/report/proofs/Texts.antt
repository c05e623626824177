-- What is printed of an answer, and within a budget by the length of the input.
use mathlib.Core.Path.{◌≡◌, refl, ap}
use mathlib.Core.List.{List, ◌++◌}
use Prim.Native.Nat.{ℕ, ◌≤◌, ◌<◌}
use lib.ListN.{length}
use borrow.Author.Tests.{le-leb, lt-leb}
use Rattle.text.specs.Texts.{bytes_of, end_line}
use Rattle.sheet_rules.specs.Blocks.{sheet_of}
use Rattle.sheet_rules.specs.Reading as sheets
use Rattle.sheet_rules.specs.Reading.{reading}
use Rattle.search_rules.specs.declared.Steps.{Steps}
use Rattle.search_rules.specs.Run.{total}
use Rattle.search.specs.Answers.{Answer, found, none, spent, refused}
use Rattle.solve_rules.specs.Finding.{Slices, Finding, finding}
use Rattle.solve_rules.specs.Demand3.{FitsLimits}
use Rattle.report.specs.Printed.{instance_lines, lines_of, report, finding_text, slices_after}

-- an accepted sheet has the lines
pub as-report : (a : Answer) (input instance : List ℕ) → ((steps : Steps) → a ≡ found steps → FitsLimits input)
    → report a (lines_of (reading input) (sheet_of input) instance) ≡ report a (instance_lines (sheet_of input) instance)
as-report (found steps) input instance h =
    ap (λ (r : sheets.Answer). end_line (bytes_of "found ") (total steps) ++ lines_of r (sheet_of input) instance) (h steps refl).accepted
as-report (none steps) input instance h = refl
as-report (spent steps) input instance h = refl
as-report (refused n) input instance h = refl

module _ (budget : ℕ) (input : List ℕ) (lent : Slices) where
  pub long-text : 4096 < length input → finding_text budget input lent ≡ end_line (bytes_of "refused ") 2
  unfolding finding_text
  long-text h = rw (lt-leb (length input) 4096 h)

  pub long-slices : 4096 < length input → slices_after budget input lent ≡ lent
  unfolding slices_after
  long-slices h = rw (lt-leb (length input) 4096 h)

  abbrev ended : Finding
  ended = finding input lent budget

  pub short-text : length input ≤ 4096 → finding_text budget input lent
      ≡ report ended.answer (instance_lines (sheet_of input) ended.left.instance)
  unfolding finding_text
  short-text h = rw (le-leb (length input) 4096 h)

  pub short-slices : length input ≤ 4096 → slices_after budget input lent ≡ ended.left
  unfolding slices_after
  short-slices h = rw (le-leb (length input) 4096 h)
