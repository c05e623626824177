-- What counting, writing and read-back answer where a sheet fits the limits and the slices fit.
use mathlib.Core.Path.{◌≡◌, sym, ap, ◌∙◌}
use mathlib.Core.Bool.{true, cond}
use mathlib.Core.List.{List, ◌++◌}
use Prim.Native.Nat.{ℕ, ◌≤◌}
use lib.Dec.{leb}
use lib.IntN.{ℤ}
use lib.ListN.{length, take, drop}
use lib.Seq.{take_at}
use borrow.Author.Tests.{le-leb, eq-eqb}
use Rattle.prelude.proofs.Laws.{and_both}
use Rattle.sheet_rules.specs.Blocks.{sheet_of}
use Rattle.relational.specs.Cells.{cell_count, has_cells}
use Rattle.relational.proofs.Scopes.{within-size, within-bits}
use Rattle.clauses_rules.specs.Whole.{words, variable_total, clause_total, word_total}
use Rattle.clauses.specs.Answers as count
use Rattle.clauses.specs.Answers.{fits, count_after, count_answer, write_after, write_answer, list_after}
use Rattle.clauses.proofs.Answered.{write-fits}
use Rattle.solve_rules.specs.Answers.{copied, refused, read_bits, read_back_after, read_back_answer, instance_by, instance_after}
use Rattle.solve_rules.specs.Demand3.{FitsLimits, ReadsBack}

module _ (s : List ℕ) (h : FitsLimits s) where
  abbrev size : count.Answer
  size = fits (variable_total (sheet_of s)) (clause_total (sheet_of s)) (word_total (sheet_of s))

  pub counts : count_answer s ≡ size
  unfolding count_answer
  counts =
      ap (λ r. count_after r (sheet_of s)) h.accepted
      ∙ ap (λ b. cond b size (count.refused 10)) (le-leb (variable_total (sheet_of s)) 16000 h.few_variables)

  module _ (list : List ℤ) (room : word_total (sheet_of s) ≤ length list) where
    pub writes : write_answer s list ≡ size
    unfolding write_answer
    writes =
        ap (λ a. write_after a (length list)) counts
        ∙ ap (λ b. cond b size (count.refused 13)) (le-leb (word_total (sheet_of s)) (length list) room)

    -- exactly the words of the clauses stand in front
    pub writes-words : take (word_total (sheet_of s)) (list_after s list) ≡ words (sheet_of s)
    writes-words = (write-fits s list (variable_total (sheet_of s)) (clause_total (sheet_of s)) (word_total (sheet_of s)) writes).front

  -- read-back of values of which the cells' values, 3 taken as 0, are an instance
  module _ (values lent : List ℕ) (one_each : length values ≡ variable_total (sheet_of s))
      (within : has_cells (sheet_of s) (read_bits (sheet_of s) values) ≡ true) (room : cell_count (sheet_of s) ≤ length lent)
    where
      read-size : length (read_bits (sheet_of s) values) ≡ cell_count (sheet_of s)
      read-size = within-size (sheet_of s) (read_bits (sheet_of s) values) within

      answers-cells : read_back_answer s values lent ≡ copied (cell_count (sheet_of s))
      unfolding read_back_answer
      answers-cells =
          ap (λ a. read_back_after a (sheet_of s) values (length lent)) counts
          ∙ ap (λ b. cond b (cond (leb (cell_count (sheet_of s)) (length lent)) (copied (cell_count (sheet_of s))) (refused 13)) (refused 11))
          (and_both _ _ (eq-eqb (length values) (variable_total (sheet_of s)) one_each)
          (within-bits (sheet_of s) (read_bits (sheet_of s) values) within))
          ∙ ap (λ b. cond b (copied (cell_count (sheet_of s))) (refused 13)) (le-leb (cell_count (sheet_of s)) (length lent) room)

      pub instance-after : instance_after s values lent ≡ read_bits (sheet_of s) values ++ drop (cell_count (sheet_of s)) lent
      unfolding instance_after
      instance-after = ap (λ a. instance_by a (read_bits (sheet_of s) values) lent) answers-cells

      pub reads-back : ReadsBack s values lent (read_bits (sheet_of s) values)
      reads-back =
          record {
            answer = answers-cells ∙ ap copied (sym read-size);
            copies = instance-after ∙ ap (λ n. read_bits (sheet_of s) values ++ drop n lent) (sym read-size);
          }

-- read-back answers one instance
pub same-instance : (s values lent i j : List ℕ) → ReadsBack s values lent i → ReadsBack s values lent j → i ≡ j
same-instance s values lent i j p q =
    let e : length i ≡ length j = cc in
    sym (take_at i (drop (length i) lent) (length j) e)
    ∙ ap (take (length j)) (sym p.copies ∙ q.copies)
    ∙ take_at j (drop (length j) lent) (length j) (λ i. length j)
