-- Sheets with two and three instances that satisfy marks and formula: what `find` leaves and the finder prints is the first of them, by
-- computation (document 02, Change 5).
use mathlib.Core.Path.{◌≡◌, refl}
use mathlib.Core.Logic.{inl, inr}
use mathlib.Core.Bool.{Bool, true, false, cond}
use mathlib.Core.List.{List, [], ◌∷◌, ◌++◌, map}
use Prim.Native.Nat.{ℕ, zero, suc}
use Prim.Native.String.{String}
use lib.IntN.{pos}
use lib.ListN.{replicate}
use Rattle.prelude.specs.Tests.{each, all, any}
use Rattle.prelude.specs.Order.{Before}
use Rattle.text.specs.Texts.{bytes_of, digits, decimal}
use Rattle.clause_list.specs.ClauseList.{cut, words_of, well_cut, is_list}
use Rattle.kinds.specs.Kinds.{row_of}
use Rattle.sheet_rules.specs.Tables as tables
use Rattle.sheet_rules.specs.Tables.{shape_step, free_step, visits_step}
use Rattle.sheet_rules.specs.Reading.{counted, scoped, declared, nodes_fine, shaped, rooted, walkable, reading}
use Rattle.relational.specs.Trees.{symbol_of, tree_step}
use Rattle.relational.specs.Cells.{first_member, first_cell, has_cells}
use Rattle.relational.specs.Evaluation as evaluation
use Rattle.relational.specs.Evaluation.{value_of, marks_hold, cells_inside, holds}
use Rattle.instance.specs.Answers as check
use Rattle.instance.specs.Held.{held_answer, check_answer}
use Rattle.clauses_rules.specs.Builder as builder
use Rattle.clauses_rules.specs.Gates.{remaining, or, input_clauses, gates_clauses}
use Rattle.clauses_rules.specs.Translation.{translate}
use Rattle.clauses_rules.specs.Whole.{series, member_clauses, mark_clauses, root_walk, clauses, words, variable_total}
use Rattle.clauses.specs.Answers.{count_answer, write_answer, list_after}
use Rattle.search_rules.specs.Rules.{truth_of, negated, literal, is_falsified, is_satisfied, conflict, open_of, same_literal, only, unit_of}
use Rattle.search_rules.specs.Rules.{first_unit, lowest_open, word_of, byte_of, place_of, values_of, trail_of, turn, decide, next}
use Rattle.search_rules.specs.Run.{total, count, run}
use Rattle.search.specs.Answers.{answer_at, values_at, trail_at, outcome}
use Rattle.solve_rules.specs.Answers.{read_back_answer, instance_after}
use Rattle.solve_rules.specs.Finding.{Slices, slices, finding}
use Rattle.report.specs.Printed.{finder_budget, relation_lines, member_lines, finding_text}
use Rattle.marked.specs.Table.{k1, k2}

-- three sets r, s and t over a sort of one atom, with "r or s", "r or not s" and "s or t". With r false s is forced and clashes, and r is
-- turned; then s can be false, and t is forced.
abbrev three_sets : List ℕ
three_sets =
    1 ∷ 0 ∷ 1 ∷ 1 ∷ 0 ∷ 0 ∷ 0 ∷ 12 ∷ 1 ∷ 0 ∷ 0 ∷ 0 ∷ 1 ∷ 0 ∷ 0 ∷ 0 ∷ 1 ∷ 0 ∷ 0 ∷ 0 ∷ 0 ∷ 36
    ∷ 1 ∷ 0 ∷ 0 ∷ 22 ∷ 0 ∷ 0 ∷ 1 ∷ 1 ∷ 0 ∷ 22 ∷ 2 ∷ 0 ∷ 1 ∷ 2 ∷ 0 ∷ 22 ∷ 4 ∷ 0
    ∷ 32 ∷ 1 ∷ 3 ∷ 30 ∷ 3 ∷ 0 ∷ 32 ∷ 1 ∷ 7 ∷ 32 ∷ 3 ∷ 5 ∷ 31 ∷ 6 ∷ 8 ∷ 31 ∷ 10 ∷ 9 ∷ []

-- a sheet with so many cells; of the instances that satisfy marks and formula the first and the others, and what the finder prints
record Row : Type 0 where
  sheet : List ℕ
  cells : ℕ
  first : List ℕ
  others : List (List ℕ)
  prints : String

abbrev row : List ℕ → ℕ → List ℕ → List (List ℕ) → String → Row
row sheet cells first others prints = record { sheet = sheet; cells = cells; first = first; others = others; prints = prints }

abbrev rows : List Row
rows =
    -- K1, "some": all but the empty set
    row k1 2 (0 ∷ 1 ∷ []) ((1 ∷ 0 ∷ []) ∷ (1 ∷ 1 ∷ []) ∷ []) "found 4\nr0 01\n"
    -- K2: exactly one
    ∷ row k2 2 (0 ∷ 1 ∷ []) ((1 ∷ 0 ∷ []) ∷ []) "found 4\nr0 01\n"
    -- a turned cell and a forced one are 1
    ∷ row three_sets 3 (1 ∷ 0 ∷ 1 ∷ []) ((1 ∷ 1 ∷ 0 ∷ []) ∷ (1 ∷ 1 ∷ 1 ∷ []) ∷ []) "found 11\nr0 1\nr1 0\nr2 1\n"
    ∷ []

-- all instances of so many cells, in order
abbrev pub instances : ℕ → List (List ℕ)
instances zero = [] ∷ []
instances (suc n) = map (λ i. 0 ∷ i) (instances n) ++ map (λ i. 1 ∷ i) (instances n)

abbrev is_yes : check.Answer → Bool
is_yes check.yes = true
is_yes check.no = false
is_yes (check.refused n) = false

-- those that the check says yes to
abbrev pub satisfying : List ℕ → List (List ℕ) → List (List ℕ)
satisfying sheet [] = []
satisfying sheet (i ∷ is) = cond (is_yes (check_answer sheet i)) (i ∷ satisfying sheet is) (satisfying sheet is)

-- what satisfies, what `find` leaves in a slice of just the cells, and what is printed
record Shown : Type 0 where
  satisfy : List (List ℕ)
  left : List ℕ
  text : List ℕ

abbrev lent : ℕ → Slices
lent cells = slices (replicate 80 (pos 9)) (replicate 12 9) (replicate 12 (pos 9)) (replicate cells 9)

abbrev shown : Row → Shown
shown row =
    record {
      satisfy = satisfying row.sheet (instances row.cells);
      left = (finding row.sheet (lent row.cells) finder_budget).left.instance;
      text = finding_text finder_budget row.sheet (lent row.cells);
    }

pub smallest : map shown rows ≡ map (λ row. record { satisfy = row.first ∷ row.others; left = row.first; text = bytes_of row.prints }) rows
unfolding row_of each all any digits decimal tables.table shape_step free_step visits_step counted scoped declared nodes_fine shaped
    rooted walkable reading symbol_of tree_step first_member first_cell has_cells value_of evaluation.truth_of marks_hold
    cells_inside holds held_answer check_answer
    builder.each remaining or input_clauses gates_clauses translate series member_clauses mark_clauses root_walk clauses
    words words_of variable_total
    count_answer write_answer list_after cut well_cut is_list truth_of negated literal is_falsified is_satisfied conflict open_of same_literal only
    unit_of first_unit lowest_open word_of byte_of place_of values_of trail_of turn decide next total count run answer_at values_at trail_at outcome
    read_back_answer instance_after finding relation_lines member_lines finding_text
smallest = refl

-- each comes before the next
abbrev Ascending : List (List ℕ) → Type 0
Ascending [] = Unit {0}
Ascending (i ∷ []) = Unit {0}
Ascending (i ∷ j ∷ is) = Before i j × Ascending (j ∷ is)

abbrev InOrder : List Row → Type 0
InOrder [] = Unit {0}
InOrder (row ∷ rows) = Ascending (row.first ∷ row.others) × InOrder rows

pub in_order : InOrder rows
unfolding Before
in_order = (
  (inl (refl, refl), (inr (refl, inl (refl, refl)), tt)),
  (
    (inl (refl, refl), tt),
    (
      (inr (refl, inl (refl, refl)), (inr (refl, inr (refl, inl (refl, refl))), tt)),
      tt,
    ),
  ),
)
