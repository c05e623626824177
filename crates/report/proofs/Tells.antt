-- What the finder prints tells what `find` found: the words that a text starts with differ in their first letters.
use mathlib.Core.Path.{◌≡◌, refl, sym, ap, ap₂, ◌∙◌, subst}
use mathlib.Core.Bool.{Bool, true, false, cond}
use mathlib.Core.Logic.{⊎_elim}
use mathlib.Core.List.{List, [], ◌∷◌, ◌++◌}
use Prim.Native.Nat.{ℕ, ◌<◌}
use native.Mathlib.Nat.{mul-le-mul_right}
use native.Mathlib.Omega.{arith}
use lib.Dec.{leb}
use lib.ListN.{length, get_or, take, drop, get_or-append}
use lib.Seq.{take_at}
use borrow.Author.Tests.{leb-true, leb-false}
use Rattle.prelude.proofs.Laws.{decided}
use Rattle.text.specs.Texts.{bytes_of, decimal, end_line, Prints}
use Rattle.sheet_rules.specs.Blocks.{Sheet, sheet_of, byte, sort_count, scope, is_bounded, relation_count}
use Rattle.cells.proofs.Layouts.{relation-ends}
use Rattle.relational.specs.Cells.{member_cell, row_count, row_length, cell_count, cell}
use Rattle.relational.proofs.Scopes.{within-size}
use Rattle.clauses_rules.proofs.Series.{same-series}
use Rattle.search_rules.specs.declared.Steps.{Steps}
use Rattle.search_rules.specs.Run.{total}
use Rattle.search.specs.Answers.{Answer, found, none, spent, refused}
use Rattle.solve_rules.specs.Finding.{Slices, finding}
use Rattle.solve_rules.specs.Finds.{LeavesSmallest, Finds}
use Rattle.solve_rules.proofs.Finds.{finds}
use Rattle.report.specs.Printed.{cell_digit, row_digits, relation_line, relation_lines, member_digits, member_line}
use Rattle.report.specs.Printed.{member_lines, instance_lines, report, finding_text}
use Rattle.report.specs.Tells.{ShowsSmallest, Tells}
use Rattle.report.proofs.MemberCells.{member-inside}
use Rattle.report.proofs.Texts.{long-text, short-text}

cell-inside : (sheet : Sheet) (r i j : ℕ) → r < relation_count sheet → i < row_count sheet r → j < row_length sheet r
    → cell sheet r i j < cell_count sheet
cell-inside sheet r i j h k l =
    omega (arith, relation-ends sheet r (relation_count sheet) h, mul-le-mul_right (row_length sheet r) k)

-- only the cells are printed: a row, a line, all lines
module _ (sheet : Sheet) (instance rest : List ℕ) (e : length instance ≡ cell_count sheet) where
  row_of : (r i : ℕ) → r < relation_count sheet → i < row_count sheet r → row_digits sheet (instance ++ rest) r i ≡ row_digits sheet instance r i
  row_of r i h k =
      same-series (row_length sheet r) (λ j. cell_digit (byte (instance ++ rest) (cell sheet r i j)) ∷ [])
      (λ j. cell_digit (byte instance (cell sheet r i j)) ∷ []) λ j l.
      ap (λ (b : ℕ). cell_digit b ∷ [])
      (get_or-append instance rest 0 (cell sheet r i j) (omega (arith, cell-inside sheet r i j h k l)))

  line_of : (r : ℕ) → r < relation_count sheet → relation_line sheet (instance ++ rest) r ≡ relation_line sheet instance r
  line_of r h =
      ap (λ (rows : List ℕ). bytes_of "r" ++ (decimal r ++ (rows ++ bytes_of "\n")))
      (same-series (row_count sheet r) (λ i. bytes_of " " ++ row_digits sheet (instance ++ rest) r i)
      (λ i. bytes_of " " ++ row_digits sheet instance r i) λ i k. ap (λ (ds : List ℕ). bytes_of " " ++ ds) (row_of r i h k))

  relations-of : relation_lines sheet (instance ++ rest) ≡ relation_lines sheet instance
  unfolding relation_lines
  relations-of = same-series (relation_count sheet) (relation_line sheet (instance ++ rest)) (relation_line sheet instance)
      line_of

  sort-of : (k : ℕ) → k < sort_count sheet → member_line sheet (instance ++ rest) k ≡ member_line sheet instance k
  sort-of k h = go (is_bounded sheet k) refl
    where
      digits : is_bounded sheet k ≡ true → member_digits sheet (instance ++ rest) k ≡ member_digits sheet instance k
      digits b =
          same-series (scope sheet k) (λ i. cell_digit (byte (instance ++ rest) (member_cell sheet k i)) ∷ [])
          (λ i. cell_digit (byte instance (member_cell sheet k i)) ∷ []) λ i l.
          ap (λ (n : ℕ). cell_digit n ∷ [])
          (get_or-append instance rest 0 (member_cell sheet k i) (omega (arith, e, member-inside sheet k i h b l)))

      go : (b : Bool) → is_bounded sheet k ≡ b
          → cond b (bytes_of "s" ++ (decimal k ++ ((bytes_of " " ++ member_digits sheet (instance ++ rest) k) ++ bytes_of
          "\n"))) []
          ≡ cond b (bytes_of "s" ++ (decimal k ++ ((bytes_of " " ++ member_digits sheet instance k) ++ bytes_of "\n"))) []
      go true b = ap (λ (ds : List ℕ). bytes_of "s" ++ (decimal k ++ ((bytes_of " " ++ ds) ++ bytes_of "\n"))) (digits b)
      go false b = refl

  sorts-of : member_lines sheet (instance ++ rest) ≡ member_lines sheet instance
  unfolding member_lines
  sorts-of = same-series (sort_count sheet) (member_line sheet (instance ++ rest)) (member_line sheet instance) sort-of

  pub lines_of : instance_lines sheet (instance ++ rest) ≡ instance_lines sheet instance
  lines_of = ap₂ (λ (xs ys : List ℕ). xs ++ ys) sorts-of relations-of

shows : (sheet : Sheet) (lent left : List ℕ) (steps : Steps) → LeavesSmallest sheet lent left
    → ShowsSmallest sheet (report (found steps) (instance_lines sheet left))
shows sheet lent left steps h =
    record {
      steps = total steps;
      instance = h.instance;
      solves = h.solves;
      smallest = h.smallest;
      shows =
          ap (λ (ls : List ℕ). end_line (bytes_of "found ") (total steps) ++ ls)
          (ap (instance_lines sheet) h.stands
          ∙ lines_of sheet h.instance (drop (length h.instance) lent)
          (within-size sheet h.instance h.solves.within.bytes));
    }

abbrev first : List ℕ → ℕ
first text = get_or text 0 0

-- a text whose first letter is neither n, byte 110, nor f, byte 102
silent : {input text : List ℕ} → (110 ≡ first text → ⊥) → (102 ≡ first text → ⊥) → Tells input text
silent n f = record { none_only = λ s. absurd (n (ap first s.parts)); found_only = λ s. absurd (f (ap first s.parts)) }

module _ (budget : ℕ) (input : List ℕ) (lent : Slices) where
  told : (a : Answer) (left : Slices) → Finds input lent budget a left
      → Tells input (report a (instance_lines (sheet_of input) left.instance))
  told (found n) left f = record {
    none_only = λ s. absurd (omega (arith, ap first s.parts));
    found_only = λ s. shows (sheet_of input) lent.instance left.instance n (f.found_only n refl);
  }
  told (none n) left f = record { none_only = λ s. f.none_only n refl; found_only = λ s. absurd (omega (arith, ap first s.parts)) }
  told (spent n) left f = silent (λ e. omega arith) (λ e. omega arith)
  told (refused n) left f = silent (λ e. omega arith) (λ e. omega arith)

  tells : Tells input (finding_text budget input lent)
  tells =
      ⊎_elim
      (λ h. subst (Tells input) (sym (short-text budget input lent (leb-true (length input) 4096 h)))
      (told (finding input lent budget).answer (finding input lent budget).left (finds input lent budget)))
      (λ h. subst (Tells input) (sym (long-text budget input lent (leb-false (length input) 4096 h)))
      (silent (λ e. omega arith) (λ e. omega arith)))
      (decided (leb (length input) 4096))

  -- exactly the bytes printed
  pub printed-tells : {before after : List ℕ} {end : ℕ} → Prints (finding_text budget input lent) before after end
      → Tells input (take end after)
  printed-tells {before} {after} {end} p =
      let text = finding_text budget input lent in
      subst (Tells input) (sym (ap (take end) p.stands ∙ take_at text (drop (length text) before) end (sym p.ends))) tells
