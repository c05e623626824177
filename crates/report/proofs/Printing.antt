-- What a function ensures that prints what was found within a budget: of the text, of the slices, and of what the text tells.
use mathlib.Core.Path.{◌≡◌, sym, ◌∙◌, ap}
use mathlib.Core.List.{List}
use mathlib.Core.Option.{some}
use Prim.Native.Nat.{ℕ, ◌≤◌, ◌<◌}
use native.Mathlib.Omega.{arith}
use lib.ListN.{length, take}
use Rattle.text.specs.Puts.{Put}
use Rattle.text.specs.Texts.{bytes_of, end_line, Prints}
use Rattle.text.proofs.Puts.{put_as, prints, counts}
use Rattle.sheet_rules.specs.Blocks.{sheet_of}
use Rattle.search_rules.specs.declared.Steps.{Steps}
use Rattle.search_rules.specs.Run.{total}
use Rattle.search_rules.specs.Held.{step_limit}
use Rattle.search.specs.Answers.{Answer, found, steps_in}
use Rattle.solve_rules.specs.Finding.{Slices, finding}
use Rattle.solve_rules.specs.Demand3.{FitsLimits}
use Rattle.solve_rules.proofs.Findings.{found-fits, found-few}
use Rattle.report.specs.Printed.{instance_lines, report, finding_text, slices_after}
use Rattle.report.specs.Tells.{Tells}
use Rattle.report.proofs.Tells.{printed-tells}
use Rattle.report.proofs.Texts.{long-text, long-slices, short-text, short-slices}

abbrev Ensured : ℕ → List ℕ → (lent left : Slices) → (before after : List ℕ) → ℕ → Type 0
Ensured budget input lent left before after end =
    ((end ≤ length after) × (end ≡ length (take end after)))
    × (Prints (finding_text budget input lent) before after end × ((left ≡ slices_after budget input lent) × Tells input (take end after)))

-- what `put_report` asks of it
pub reportable : (budget : ℕ) (input : List ℕ) (lent : Slices) (a : Answer) → budget ≤ step_limit → a ≡ (finding input lent budget).answer
    → ((steps : Steps) → a ≡ found steps → FitsLimits input) × ((steps : Steps) → steps_in a ≡ some steps → total steps ≤ step_limit)
reportable budget input lent a h e = (
  λ steps f. found-fits input lent budget steps (sym e ∙ f),
  λ steps f. omega (arith, found-few input lent budget steps (ap steps_in (sym e) ∙ f)),
)

module _ (budget : ℕ) (input : List ℕ) (lent : Slices) {before after : List ℕ} {end : ℕ} where
  ensured : {left : Slices} → Put before 0 (finding_text budget input lent) after end → end ≤ length before
      → left ≡ slices_after budget input lent → Ensured budget input lent left before after end
  ensured p l e = (counts p l, (prints p l, (e, printed-tells budget input lent (prints p l))))

  -- an input over 4,096 bytes
  pub long-input : 4096 < length input → Put before 0 (end_line (bytes_of "refused ") 2) after end → end ≤ length before
      → Ensured budget input lent lent before after end
  long-input h p l =
      ensured (put_as (sym (long-text budget input lent h)) p) l (sym (long-slices budget input lent h))

  -- an input that is parsed, and what was found in the lent slices
  pub short-input : {a : Answer} {left : Slices} → length input ≤ 4096
      → a ≡ (finding input lent budget).answer → left ≡ (finding input lent budget).left
      → Put before 0 (report a (instance_lines (sheet_of input) left.instance)) after end → end ≤ length before
      → Ensured budget input lent left before after end
  short-input h a e p l =
      ensured (put_as ((λ i. report (a i) (instance_lines (sheet_of input) (e i).instance))
      ∙ sym (short-text budget input lent h)) p) l
      (e ∙ sym (short-slices budget input lent h))
