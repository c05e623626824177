-- The lines printed of a case are those of the instance that was read back: they show no more than its cells.
use mathlib.Core.Path.{◌≡◌, sym, ap, ◌∙◌}
use mathlib.Core.Bool.{Bool, true, false, cond}
use mathlib.Core.List.{List, ◌++◌}
use Prim.Native.Nat.{ℕ}
use native.Mathlib.Omega.{arith}
use lib.Dec.{leb}
use lib.ListN.{length, drop}
use Rattle.text.specs.Texts.{bytes_of, end_line}
use Rattle.sheet_rules.specs.Blocks.{sheet_of}
use Rattle.relational.specs.Cells.{cell_count}
use Rattle.clauses_rules.specs.Whole.{variable_total}
use Rattle.search_rules.specs.Run.{total}
use Rattle.search.specs.Answers.{found}
use Rattle.solve_rules.specs.Answers.{copied, refused, has_values, read_back_after, read_back_answer, instance_after}
use Rattle.solve_rules.specs.Demand3.{FitsLimits, ReadsBack}
use Rattle.solve_rules.proofs.Calls.{counts}
use Rattle.report.specs.Printed.{instance_lines}
use Rattle.report.proofs.Tells.{lines_of}
use Rattle.report.proofs.Texts.{as-report}
use Rattle.listing.specs.Laws.{ShowsRead}

-- what read-back copies is all the cells
all-copied : (p q : Bool) (cells n : ℕ) → cond p (cond q (copied cells) (refused 13)) (refused 11) ≡ copied n → n ≡ cells
all-copied true true cells n e = cc
all-copied true false cells n e = absurd (let z : ◌≡◌ {A = ℕ} 0 1 = cc in omega arith)
all-copied false q cells n e = absurd (let z : ◌≡◌ {A = ℕ} 0 1 = cc in omega arith)

module _ (s values lent instance : List ℕ) (h : FitsLimits s) (r : ReadsBack s values lent instance) where
  cells-read : length instance ≡ cell_count (sheet_of s)
  unfolding read_back_answer
  cells-read =
      all-copied (has_values (sheet_of s) (variable_total (sheet_of s)) values) (leb (cell_count (sheet_of s)) (length lent)) _ _
      (sym (ap (λ a. read_back_after a (sheet_of s) values (length lent)) (counts s h)) ∙ r.answer)

  lines-read : instance_lines (sheet_of s) (instance_after s values lent) ≡ instance_lines (sheet_of s) instance
  lines-read = ap (instance_lines (sheet_of s)) r.copies
      ∙ lines_of (sheet_of s) instance (drop (length instance) lent) cells-read

pub shows-read : ShowsRead
shows-read s values lent instance steps h r =
    as-report (found steps) s (instance_after s values lent) (λ _ _. h)
    ∙ ap (λ (ls : List ℕ). end_line (bytes_of "found ") (total steps) ++ ls) (lines-read s values lent instance h r)
