-- Sheets whose runs have forces, choices and turns: what `find` answers and the finder prints, by computation (document 02, Change 3).
use mathlib.Core.Path.{◌≡◌, refl}
use mathlib.Core.List.{List, [], ◌∷◌, ◌++◌, map}
use Prim.Native.Nat.{ℕ}
use Prim.Native.String.{String}
use lib.IntN.{pos}
use lib.ListN.{length, replicate}
use Rattle.prelude.specs.Tests.{each, all, any}
use Rattle.text.specs.Texts.{bytes_of, digits, decimal}
use Rattle.clause_list.specs.ClauseList.{cut, words_of, well_cut, is_list}
use Rattle.kinds.specs.Kinds.{row_of}
use Rattle.sheet_rules.specs.Tables as tables
use Rattle.sheet_rules.specs.Tables.{shape_step, free_step, visits_step}
use Rattle.sheet_rules.specs.Reading.{counted, scoped, declared, nodes_fine, shaped, rooted, walkable, reading}
use Rattle.relational.specs.Trees.{symbol_of, tree_step}
use Rattle.relational.specs.Cells.{first_member, first_cell}
use Rattle.clauses_rules.specs.Builder as builder
use Rattle.clauses_rules.specs.Gates.{remaining, or, input_clauses, gates_clauses}
use Rattle.clauses_rules.specs.Translation.{translate}
use Rattle.clauses_rules.specs.Whole.{series, member_clauses, mark_clauses, root_walk, clauses, words, variable_total}
use Rattle.clauses.specs.Answers.{count_answer, write_answer, list_after}
use Rattle.search_rules.specs.Rules.{truth_of, negated, literal, is_falsified, is_satisfied, conflict, open_of, same_literal, only, unit_of}
use Rattle.search_rules.specs.Rules.{first_unit, lowest_open, word_of, byte_of, place_of, values_of, trail_of, turn, decide, next}
use Rattle.search_rules.specs.Run.{tally, total, count, run}
use Rattle.search.specs.Answers.{Answer, found, none, spent, answer_at, values_at, trail_at, outcome}
use Rattle.solve_rules.specs.Answers.{read_back_answer, instance_after}
use Rattle.solve_rules.specs.Finding.{Slices, slices, finding}
use Rattle.report.specs.Printed.{relation_lines, member_lines, finding_text}

-- two sets r and s over a sort of one atom, and nodes 0 to 3: r, some r, s, some s; then other nodes
abbrev pub two_sets : List ℕ → List ℕ
two_sets nodes =
    let all : List ℕ = 1 ∷ 0 ∷ 0 ∷ 22 ∷ 0 ∷ 0 ∷ 1 ∷ 1 ∷ 0 ∷ 22 ∷ 2 ∷ 0 ∷ nodes in
    1 ∷ 0 ∷ 1 ∷ 1 ∷ 0 ∷ 0 ∷ 0 ∷ 8 ∷ 1 ∷ 0 ∷ 0 ∷ 0 ∷ 1 ∷ 0 ∷ 0 ∷ 0 ∷ 0 ∷ length all ∷ all

-- "r or s" and "r or not s", as nodes 4 to 6
abbrev either : List ℕ
either = 32 ∷ 1 ∷ 3 ∷ 30 ∷ 3 ∷ 0 ∷ 32 ∷ 1 ∷ 5 ∷ []

-- both: with r false s is forced, and clashes
abbrev both : List ℕ
both = two_sets (either ++ 31 ∷ 4 ∷ 6 ∷ [])

-- both, and "not r or s" and "not r or not s": no instance
abbrev all-four : List ℕ
all-four =
    two_sets (either ++ 30 ∷ 1 ∷ 0 ∷ 32 ∷ 7 ∷ 3 ∷ 32 ∷ 7 ∷ 5 ∷ 31 ∷ 4 ∷ 6 ∷ 31 ∷ 8 ∷ 9 ∷ 31 ∷ 10 ∷ 11 ∷ [])

record Row : Type 0 where
  sheet : List ℕ
  budget : ℕ
  answer : Answer
  prints : String

abbrev lent : Slices
lent = slices (replicate 80 (pos 9)) (replicate 10 9) (replicate 10 (pos 9)) (replicate 2 9)

abbrev rows : List Row
rows =
    record { sheet = both; budget = 1000000; answer = found (tally 5 2 1); prints = "found 8\nr0 1\nr1 0\n" }
    -- before the turn, after it, and at the end
    ∷ record { sheet = both; budget = 6; answer = spent (tally 5 1 0); prints = "spent 6\n" }
    ∷ record { sheet = both; budget = 7; answer = spent (tally 5 1 1); prints = "spent 7\n" }
    ∷ record { sheet = both; budget = 8; answer = found (tally 5 2 1); prints = "found 8\nr0 1\nr1 0\n" }
    ∷ record { sheet = all-four; budget = 1000000; answer = none (tally 10 1 1); prints = "none 12\n" }
    ∷ []

-- an answer, and the text with its sum
record Shown : Type 0 where
  answer : Answer
  text : List ℕ

abbrev shown : Row → Shown
shown row = record { answer = (finding row.sheet lent row.budget).answer; text = finding_text row.budget row.sheet lent }

pub counters : map shown rows ≡ map (λ row. record { answer = row.answer; text = bytes_of row.prints }) rows
unfolding digits decimal row_of each all any tables.table shape_step free_step visits_step counted scoped declared nodes_fine shaped rooted walkable
    reading symbol_of tree_step first_member first_cell builder.each remaining or input_clauses gates_clauses translate series
    member_clauses mark_clauses root_walk clauses words
    words_of variable_total count_answer write_answer list_after cut well_cut is_list truth_of negated literal is_falsified is_satisfied conflict open_of
    same_literal only unit_of first_unit lowest_open word_of byte_of place_of values_of trail_of turn decide next total count run answer_at values_at
    trail_at outcome read_back_answer instance_after finding relation_lines member_lines finding_text
counters = refl
