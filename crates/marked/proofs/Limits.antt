-- Sheets with sorts of up to 2 atoms: what the check answers, the clause text, what `find` answers and leaves, and what
-- the finder prints, by computation (document 02, Change 8). Calls for the next on K1 with up to 2 atoms: Every.antt.
use mathlib.Core.Path.{◌≡◌, refl}
use mathlib.Core.List.{List, [], ◌∷◌, ◌++◌, map}
use Prim.Native.Nat.{ℕ}
use Prim.Native.String.{String}
use lib.IntN.{ℤ, pos}
use lib.ListN.{length, replicate}
use Rattle.prelude.specs.Tests.{each, all, any}
use Rattle.text.specs.Texts.{bytes_of, digits, decimal}
use Rattle.clause_list.specs.ClauseList.{cut, words_of, well_cut, is_list}
use Rattle.kinds.specs.Kinds.{row_of}
use Rattle.sheet_rules.specs.Tables as tables
use Rattle.sheet_rules.specs.Tables.{shape_step, free_step, visits_step}
use Rattle.sheet_rules.specs.Reading.{counted, scoped, declared, nodes_fine, shaped, rooted, walkable, reading}
use Rattle.relational.specs.Trees.{symbol_of, tree_step}
use Rattle.relational.specs.Cells.{first_member, first_cell, has_cells}
use Rattle.relational.specs.Evaluation as evaluation
use Rattle.relational.specs.Evaluation.{value_of, marks_hold, cells_inside, holds}
use Rattle.instance.specs.Answers as check
use Rattle.instance.specs.Held.{held_answer, check_answer}
use Rattle.clauses_rules.specs.Builder as builder
use Rattle.clauses_rules.specs.Gates.{remaining, or, input_clauses, gates_clauses}
use Rattle.clauses_rules.specs.Translation.{translate}
use Rattle.clauses_rules.specs.Whole.{series, member_clauses, mark_clauses, root_walk, clauses, words, variable_total}
use Rattle.clauses.specs.Answers.{count_answer, write_answer, list_after}
use Rattle.dimacs.specs.Text.{literal_text, clause_line, clause_lines, header, text_of}
use Rattle.search_rules.specs.Rules.{truth_of, negated, literal, is_falsified, is_satisfied, conflict, open_of, same_literal}
use Rattle.search_rules.specs.Rules.{only, unit_of, first_unit, lowest_open, word_of, byte_of, place_of, values_of, trail_of}
use Rattle.search_rules.specs.Rules.{turn, decide, next}
use Rattle.search_rules.specs.Run.{tally, total, count, run}
use Rattle.search.specs.Answers.{Answer, found, none, answer_at, values_at, trail_at, outcome}
use Rattle.solve_rules.specs.Answers.{read_back_answer, instance_after}
use Rattle.solve_rules.specs.Finding.{Slices, slices, finding}
use Rattle.report.specs.Printed.{finder_budget, relation_lines, member_lines, finding_text}
use Rattle.cnf_text.specs.Printed.{clause_text}
use Rattle.marked.specs.Table.{neg, one_set}

-- a block: its length in two bytes, then its bytes
abbrev block : List ℕ → List ℕ
block bytes = 0 ∷ length bytes ∷ bytes

abbrev sheet : List ℕ → List ℕ → List ℕ → List ℕ → List ℕ
sheet sorts variables relations nodes = 1 ∷ (block sorts ++ (block variables ++ (block relations ++ block nodes)))

-- K1, K3 and K5 with up to 2 atoms
abbrev pub k1-bounded : List ℕ
k1-bounded = one_set 130 0 (1 ∷ 0 ∷ 0 ∷ 22 ∷ 0 ∷ 0 ∷ [])

abbrev pub k3-bounded : List ℕ
k3-bounded = one_set 130 2 (1 ∷ 0 ∷ 0 ∷ 22 ∷ 0 ∷ 0 ∷ 30 ∷ 1 ∷ 0 ∷ [])

abbrev k5-bounded : List ℕ
k5-bounded = one_set 130 0 (1 ∷ 0 ∷ 0 ∷ 24 ∷ 0 ∷ 0 ∷ [])

-- ---- the check: an instance, and the answer
record Check : Type 0 where
  sheet : List ℕ
  instance : List ℕ
  answer : check.Answer

abbrev checked : List ℕ → List ℕ → check.Answer → Check
checked sheet instance answer = record { sheet = sheet; instance = instance; answer = answer }

-- "some" of a relation between sort 0, of up to 2 atoms, and sort 1, of 2
abbrev between : ℕ → ℕ → List ℕ
between first second = sheet (130 ∷ 2 ∷ []) [] (2 ∷ 0 ∷ first ∷ second ∷ []) (1 ∷ 0 ∷ 0 ∷ 22 ∷ 0 ∷ 0 ∷ [])

abbrev checks : List Check
checks =
    -- one atom is not used
    checked k1-bounded (0 ∷ 1 ∷ 0 ∷ 1 ∷ []) check.yes
    -- a 1 of a non-member is a no: in a set, and in the first and the second column of a relation
    ∷ checked k1-bounded (1 ∷ 0 ∷ 0 ∷ 1 ∷ []) check.no
    ∷ checked (between 0 1) (1 ∷ 0 ∷ 0 ∷ 0 ∷ 0 ∷ 1 ∷ []) check.no
    ∷ checked (between 1 0) (1 ∷ 0 ∷ 0 ∷ 1 ∷ 0 ∷ 0 ∷ []) check.no
    -- a membership cell of 2; one byte for each cell of the relation alone, and one byte too many
    ∷ checked k1-bounded (0 ∷ 2 ∷ 0 ∷ 1 ∷ []) (check.refused 11)
    ∷ checked k1-bounded (0 ∷ 1 ∷ []) (check.refused 11)
    ∷ checked k1-bounded (0 ∷ 1 ∷ 0 ∷ 1 ∷ 0 ∷ []) (check.refused 11)
    ∷ []

pub all-checked : map (λ c. check_answer c.sheet c.instance) checks ≡ map (λ c. c.answer) checks
unfolding row_of each all tables.table shape_step free_step visits_step counted scoped declared nodes_fine shaped rooted
    walkable reading symbol_of tree_step first_member first_cell has_cells value_of evaluation.truth_of marks_hold
    cells_inside holds held_answer check_answer
all-checked = refl

-- ---- clause text, whole, in parts: (1), the members, the marks, the walk; the last part ends with the root's literal
record Listed : Type 0 where
  sheet : List ℕ
  text : List String

abbrev listed : List ℕ → List String → Listed
listed sheet text = record { sheet = sheet; text = text }

-- "r equal r": the walk makes no gate
abbrev plain : List ℕ → List ℕ → List ℕ
plain sorts relations = sheet sorts [] relations (1 ∷ 0 ∷ 0 ∷ 20 ∷ 0 ∷ 0 ∷ [])

-- a variable of sort k and a relation from sort k to sort 1; node 3 is "some" of v0.r0, and other nodes follow
abbrev over : ℕ → List ℕ → List ℕ
over k nodes =
    sheet (130 ∷ 2 ∷ []) (k ∷ []) (2 ∷ 0 ∷ k ∷ 1 ∷ [])
    (2 ∷ 0 ∷ 0 ∷ 1 ∷ 0 ∷ 0 ∷ 8 ∷ 0 ∷ 1 ∷ 22 ∷ 2 ∷ 0 ∷ nodes)

-- of `over`: the clauses of r0's members, where k is 0, and the gates 8 and 9 of the two bodies
abbrev members : String
members = "-4 2 0\n-5 2 0\n-6 3 0\n-7 3 0\n"

abbrev bodies : String
bodies = "8 -4 0\n8 -5 0\n-8 4 5 0\n9 -6 0\n9 -7 0\n-9 6 7 0\n"

abbrev lists : List Listed
lists =
    -- members 2 and 3, cells 4 and 5
    listed k1-bounded ("p cnf 6 7\n1 0\n" ∷ "-4 2 0\n-5 3 0\n" ∷ "6 -4 0\n6 -5 0\n-6 4 5 0\n6 0\n" ∷ [])
    -- mark 2 on a relation from a sort to itself: each cell on the diagonal has its clause twice
    ∷ listed (plain (130 ∷ []) (2 ∷ 2 ∷ 0 ∷ 0 ∷ []))
    ("p cnf 7 14\n1 0\n" ∷ "-4 2 0\n-4 2 0\n-5 2 0\n-5 3 0\n-6 3 0\n-6 2 0\n-7 3 0\n-7 3 0\n"
    ∷ "-4 -5 0\n-2 4 5 0\n-6 -7 0\n-3 6 7 0\n" ∷ "1 0\n" ∷ [])
    -- to a full sort; and from a full sort: its rows have no member
    ∷ listed (plain (130 ∷ 2 ∷ []) (2 ∷ 2 ∷ 0 ∷ 1 ∷ []))
    ("p cnf 7 10\n1 0\n" ∷ "-4 2 0\n-5 2 0\n-6 3 0\n-7 3 0\n" ∷ "-4 -5 0\n-2 4 5 0\n-6 -7 0\n-3 6 7 0\n" ∷ "1 0\n" ∷ [])
    ∷ listed (plain (130 ∷ 2 ∷ []) (2 ∷ 2 ∷ 1 ∷ 0 ∷ []))
    ("p cnf 7 10\n1 0\n" ∷ "-4 2 0\n-5 3 0\n-6 2 0\n-7 3 0\n" ∷ "-4 -5 0\n4 5 0\n-6 -7 0\n6 7 0\n" ∷ "1 0\n" ∷ [])
    -- mark 2 on two sets: the members of both come ahead of the marks of both, and "A set's row is bound as before."
    ∷ listed (plain (130 ∷ []) (1 ∷ 2 ∷ 0 ∷ 0 ∷ 1 ∷ 2 ∷ 0 ∷ 0 ∷ []))
    ("p cnf 7 10\n1 0\n" ∷ "-4 2 0\n-5 3 0\n-6 2 0\n-7 3 0\n" ∷ "-4 -5 0\n4 5 0\n-6 -7 0\n6 7 0\n" ∷ "1 0\n" ∷ [])
    -- mark 1 on a relation from sort 2 (member 4) to sort 0 (members 2 and 3): the first column's member comes first
    ∷ listed (plain (130 ∷ 2 ∷ 129 ∷ []) (2 ∷ 1 ∷ 2 ∷ 0 ∷ []))
    ("p cnf 6 7\n1 0\n" ∷ "-5 4 0\n-5 2 0\n-6 4 0\n-6 3 0\n" ∷ "-5 -6 0\n" ∷ "1 0\n" ∷ [])
    -- for all: after both bodies OR(-member, body) twice, then their AND
    ∷ listed (over 0 (40 ∷ 0 ∷ 3 ∷ []))
    ("p cnf 12 21\n1 0\n" ∷ members ∷ bodies
    ∷ "10 2 0\n10 -8 0\n-10 -2 8 0\n11 3 0\n11 -9 0\n-11 -3 9 0\n" ∷ "12 10 0\n12 11 0\n-12 -10 -11 0\n-12 0\n" ∷ [])
    -- for some: AND(member, body) twice, then their OR
    ∷ listed (over 0 (41 ∷ 0 ∷ 3 ∷ []))
    ("p cnf 12 21\n1 0\n" ∷ members ∷ bodies
    ∷ "10 2 0\n10 8 0\n-10 -2 -8 0\n11 3 0\n11 9 0\n-11 -3 -9 0\n" ∷ "12 10 0\n12 11 0\n-12 -10 -11 0\n12 0\n" ∷ [])
    -- none of a kind 12: AND(member, body) in each cell
    ∷ listed (over 0 (12 ∷ 0 ∷ 3 ∷ 23 ∷ 4 ∷ 0 ∷ []))
    ("p cnf 12 21\n1 0\n" ∷ members ∷ bodies
    ∷ "10 2 0\n10 8 0\n-10 -2 -8 0\n11 3 0\n11 9 0\n-11 -3 -9 0\n" ∷ "12 10 0\n12 11 0\n-12 -10 -11 0\n-12 0\n" ∷ [])
    -- for all and for some over a full sort, beside the other: no member and no guard
    ∷ listed (over 1 (40 ∷ 0 ∷ 3 ∷ []))
    ("p cnf 10 11\n1 0\n" ∷ bodies ∷ "10 8 0\n10 9 0\n-10 -8 -9 0\n-10 0\n" ∷ [])
    ∷ listed (over 1 (41 ∷ 0 ∷ 3 ∷ []))
    ("p cnf 10 11\n1 0\n" ∷ bodies ∷ "10 -8 0\n10 -9 0\n-10 8 9 0\n10 0\n" ∷ [])
    -- some of all atoms
    ∷ listed (one_set 130 0 (3 ∷ 0 ∷ 0 ∷ 22 ∷ 0 ∷ 0 ∷ []))
    ("p cnf 6 7\n1 0\n" ∷ "-4 2 0\n-5 3 0\n" ∷ "6 -2 0\n6 -3 0\n-6 2 3 0\n6 0\n" ∷ [])
    -- r within the identity: the member on the diagonal, -1 beside it
    ∷ listed (sheet (130 ∷ []) [] (2 ∷ 0 ∷ 0 ∷ 0 ∷ []) (1 ∷ 0 ∷ 0 ∷ 4 ∷ 0 ∷ 0 ∷ 21 ∷ 0 ∷ 1 ∷ []))
    ("p cnf 10 21\n1 0\n" ∷ "-4 2 0\n-4 2 0\n-5 2 0\n-5 3 0\n-6 3 0\n-6 2 0\n-7 3 0\n-7 3 0\n"
    ∷ "8 4 0\n8 -2 0\n-8 -4 2 0\n9 7 0\n9 -3 0\n-9 -7 3 0\n"
    ∷ "10 8 0\n10 -5 0\n10 -6 0\n10 9 0\n-10 -8 5 6 -9 0\n-10 0\n" ∷ [])
    ∷ []

abbrev joined : List String → List ℕ
joined [] = []
joined (t ∷ ts) = bytes_of t ++ joined ts

abbrev lent_list : List ℤ
lent_list = replicate 80 (pos 9)

pub all_listed : map (λ l. clause_text l.sheet lent_list) lists ≡ map (λ l. joined l.text) lists
unfolding row_of each all any digits decimal tables.table shape_step free_step visits_step counted scoped declared
    nodes_fine shaped rooted walkable reading symbol_of tree_step first_member first_cell builder.each remaining or
    input_clauses gates_clauses translate series member_clauses mark_clauses root_walk clauses words words_of
    variable_total count_answer write_answer cut literal_text clause_line clause_lines header text_of clause_text
all_listed = refl

-- ---- what `find` answers and leaves in slices that just fit, and what the finder prints
record Found : Type 0 where
  answer : Answer
  values : List ℕ
  trail : List ℤ
  instance : List ℕ
  text : List ℕ

record Row : Type 0 where
  sheet : List ℕ
  stated : Found

abbrev row : List ℕ → Answer → List ℕ → List ℤ → List ℕ → String → Row
row sheet answer values trail instance prints =
    record {
      sheet = sheet;
      stated = record { answer = answer; values = values; trail = trail; instance = instance; text = bytes_of prints };
    }

-- a relation with mark 2 from sort 1, of up to 2 atoms, to sort 0, of one; some atom of sort 1
abbrev second_sort : List ℕ
second_sort = sheet (1 ∷ 130 ∷ []) [] (2 ∷ 2 ∷ 1 ∷ 0 ∷ []) (3 ∷ 1 ∷ 0 ∷ 22 ∷ 0 ∷ 0 ∷ [])

abbrev rows : List Row
rows =
    -- the smallest instance leaves the first atom out
    row k1-bounded (found (tally 5 1 0))
    (1 ∷ 3 ∷ 1 ∷ 0 ∷ 1 ∷ 1 ∷ []) (pos 1 ∷ pos 6 ∷ neg 2 ∷ neg 4 ∷ pos 5 ∷ pos 3 ∷ [])
    (0 ∷ 1 ∷ 0 ∷ 1 ∷ []) "found 6\ns0 01\nr0 01\n"
    -- no atom at all
    ∷ row k5-bounded (found (tally 4 2 0))
    (1 ∷ 3 ∷ 3 ∷ 0 ∷ 0 ∷ 1 ∷ []) (pos 1 ∷ pos 6 ∷ neg 2 ∷ neg 4 ∷ neg 3 ∷ neg 5 ∷ [])
    (0 ∷ 0 ∷ 0 ∷ 0 ∷ []) "found 6\ns0 00\nr0 00\n"
    -- a line `s` only for the sort that has members; the row of the atom left out is empty
    ∷ row second_sort (found (tally 5 1 0))
    (1 ∷ 3 ∷ 1 ∷ 0 ∷ 1 ∷ 1 ∷ []) (pos 1 ∷ pos 6 ∷ neg 2 ∷ neg 4 ∷ pos 3 ∷ pos 5 ∷ [])
    (0 ∷ 1 ∷ 0 ∷ 1 ∷ []) "found 6\ns1 01\nr0 0 1\n"
    -- "none": with fewer atoms there is none either
    ∷ row k3-bounded (none (tally 4 0 0)) (replicate 6 2) (replicate 6 (pos 0)) (replicate 4 9) "none 4\n"
    ∷ []

abbrev lent : Slices
lent = slices lent_list (replicate 6 9) (replicate 6 (pos 9)) (replicate 4 9)

abbrev shown : List ℕ → Found
shown sheet =
    let f = finding sheet lent finder_budget in
    record {
      answer = f.answer;
      values = f.left.values;
      trail = f.left.trail;
      instance = f.left.instance;
      text = finding_text finder_budget sheet lent;
    }

pub all_found : map (λ row. shown row.sheet) rows ≡ map (λ row. row.stated) rows
unfolding row_of each all any digits decimal tables.table shape_step free_step visits_step counted scoped declared
    nodes_fine shaped rooted walkable reading symbol_of tree_step first_member first_cell builder.each remaining or
    input_clauses gates_clauses translate series member_clauses mark_clauses root_walk clauses words words_of
    variable_total count_answer write_answer list_after cut well_cut is_list truth_of negated literal is_falsified
    is_satisfied conflict open_of same_literal only unit_of first_unit lowest_open word_of byte_of place_of values_of trail_of
    turn decide next total count run answer_at values_at trail_at outcome read_back_answer instance_after finding
    relation_lines member_lines finding_text
all_found = refl
