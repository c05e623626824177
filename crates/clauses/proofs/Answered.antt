-- What the answers of counting and writing say of the sheet and of the list.
use mathlib.Core.Path.{◌≡◌, refl, sym, ap, ◌∙◌}
use mathlib.Core.Bool.{Bool, true, false, cond, false≢true}
use mathlib.Core.List.{List, ◌++◌}
use Prim.Native.Nat.{ℕ, ◌≤◌}
use lib.Dec.{leb}
use lib.IntN.{ℤ}
use lib.ListN.{length, take, drop}
use lib.Seq.{take-append_seam}
use borrow.Author.Tests.{leb-true}
use Rattle.sheet_rules.specs.declared.Layout.{Layout}
use Rattle.sheet_rules.specs.Blocks.{sheet_of}
use Rattle.sheet_rules.specs.Reading as sheets
use Rattle.sheet_rules.specs.Reading.{reading}
use Rattle.clauses_rules.specs.Whole.{words, variable_total, clause_total, word_total}
use Rattle.clauses.specs.Answers.{Answer, fits, refused, count_after, count_answer, write_after, write_answer, list_by, list_after}

is_fits : Answer → Bool
is_fits (fits v c w) = true
is_fits (refused n) = false

variables_in : Answer → ℕ
variables_in (fits v c w) = v
variables_in (refused n) = n

clauses_in : Answer → ℕ
clauses_in (fits v c w) = c
clauses_in (refused n) = n

words_in : Answer → ℕ
words_in (fits v c w) = w
words_in (refused n) = n

-- counting answered with numbers: the sheet is accepted, its variables are within the limit, and the numbers are those of its clauses
pub record Counted (s : List ℕ) (v c w : ℕ) : Type 0 where
  pub layout : Layout
  pub accepted : reading s ≡ sheets.accepted layout
  pub variables : v ≡ variable_total (sheet_of s)
  pub clauses : c ≡ clause_total (sheet_of s)
  pub words : w ≡ word_total (sheet_of s)
  pub small : variable_total (sheet_of s) ≤ 16000

module _ (s : List ℕ) (v c w : ℕ) where
  within-limit : (layout : Layout) → reading s ≡ sheets.accepted layout → (b : Bool) → leb (variable_total (sheet_of s)) 16000 ≡ b
      → cond b (fits (variable_total (sheet_of s)) (clause_total (sheet_of s)) (word_total (sheet_of s))) (refused 10) ≡ fits v c w
      → Counted s v c w
  unfolding is_fits variables_in clauses_in words_in
  within-limit layout a true h e =
      record {
        layout = layout;
        accepted = a;
        variables = sym (ap variables_in e);
        clauses = sym (ap clauses_in e);
        words = sym (ap words_in e);
        small = leb-true (variable_total (sheet_of s)) 16000 h;
      }
  within-limit layout a false h e = absurd (false≢true (ap is_fits e))

  by-reading : (r : sheets.Answer) → reading s ≡ r → count_after r (sheet_of s) ≡ fits v c w → Counted s v c w
  unfolding is_fits
  by-reading (sheets.refused n) a e = absurd (false≢true (ap is_fits e))
  by-reading (sheets.accepted layout) a e = within-limit layout a (leb (variable_total (sheet_of s)) 16000) refl e

  pub count_fits : count_answer s ≡ fits v c w → Counted s v c w
  unfolding count_answer
  count_fits e = by-reading (reading s) refl e

-- writing answered with numbers: counting answers them too, and the list starts with the words of the clauses
pub record Written (s : List ℕ) (old : List ℤ) (v c w : ℕ) : Type 0 where
  pub counted : count_answer s ≡ fits v c w
  pub room : w ≤ length old
  pub list : list_after s old ≡ words (sheet_of s) ++ drop (word_total (sheet_of s)) old
  pub front : take w (list_after s old) ≡ words (sheet_of s)

module _ (s : List ℕ) (old : List ℤ) (v c w : ℕ) where
  enough : (v₁ c₁ w₁ : ℕ) (b : Bool) → leb w₁ (length old) ≡ b → cond b (fits v₁ c₁ w₁) (refused 13) ≡ fits v c w
      → (fits v₁ c₁ w₁ ≡ fits v c w) × (w₁ ≤ length old)
  unfolding is_fits
  enough v₁ c₁ w₁ true h e = (e, leb-true w₁ (length old) h)
  enough v₁ c₁ w₁ false h e = absurd (false≢true (ap is_fits e))

  by_count : (a : Answer) → write_after a (length old) ≡ fits v c w → (a ≡ fits v c w) × (w ≤ length old)
  unfolding is_fits words_in
  by_count (fits v₁ c₁ w₁) e =
      let r = enough v₁ c₁ w₁ (leb w₁ (length old)) refl e in
      (r.0, rw (sym (ap words_in r.0)) r.1)
  by_count (refused n) e = absurd (false≢true (ap is_fits e))

  pub write-fits : write_answer s old ≡ fits v c w → Written s old v c w
  unfolding write_answer list_after
  write-fits e =
      let r = by_count (count_answer s) e in
      let d = count_fits s v c w r.0 in
      let l : list_after s old ≡ words (sheet_of s) ++ drop (word_total (sheet_of s)) old =
      ap (λ (a : Answer). list_by a (words (sheet_of s)) old) e in
      record {
        counted = r.0;
        room = r.1;
        list = l;
        front = ap (take w) l ∙ rw d.words (take-append_seam (words (sheet_of s)) (drop (word_total (sheet_of s)) old));
      }
