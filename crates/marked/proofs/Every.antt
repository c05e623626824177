-- Calls for the next on sheets, one after another from a fresh start on: what each answers, what it leaves and what is read back, by
-- computation (document 02, Change 6).
use mathlib.Core.Path.{◌≡◌, refl}
use mathlib.Core.List.{List, [], ◌∷◌, ◌++◌, map}
use Prim.Native.Nat.{ℕ}
use lib.IntN.{ℤ, pos}
use lib.ListN.{length, take, drop, replicate}
use Rattle.prelude.specs.Tests.{each, all, any}
use Rattle.clause_list.specs.ClauseList.{cut, words_of, well_cut, is_list}
use Rattle.kinds.specs.Kinds.{row_of}
use Rattle.sheet_rules.specs.Tables as tables
use Rattle.sheet_rules.specs.Tables.{shape_step, visits_step}
use Rattle.sheet_rules.specs.Reading.{counted, scoped, declared, nodes_fine, shaped, rooted, walkable, reading}
use Rattle.relational.specs.Trees.{symbol_of, tree_step}
use Rattle.relational.specs.Cells.{first_member, first_cell, has_cells}
use Rattle.relational.specs.Matrices.{rounds}
use Rattle.relational.specs.Evaluation.{value_of, marks_hold, cells_inside, holds}
use Rattle.instance.specs.Held.{held_answer, check_answer}
use Rattle.clauses_rules.specs.Builder as builder
use Rattle.clauses_rules.specs.Gates.{remaining, or, input_clauses, gates_clauses}
use Rattle.clauses_rules.specs.Translation.{after_rounds, translate}
use Rattle.clauses_rules.specs.Whole.{series, member_clauses, mark_clauses, root_walk, clauses, words, variable_total}
use Rattle.clauses.specs.Answers as count
use Rattle.clauses.specs.Answers.{count_answer, write_answer, list_after}
use Rattle.search_rules.specs.declared.Steps.{Steps}
use Rattle.search_rules.specs.declared.Position.{Position}
use Rattle.search_rules.specs.Rules.{truth_of, negated, literal, is_falsified, is_satisfied, conflict, open_of, same_literal, only, unit_of}
use Rattle.search_rules.specs.Rules.{first_unit, lowest_open, word_of, byte_of, place_of, values_of, trail_of, turn, decide, next}
use Rattle.search_rules.specs.Run as run
use Rattle.search_rules.specs.Run.{tally, total}
use Rattle.search_rules.specs.Held.{position_of, repeats, goes_with, no_state, entry_of, state_in}
use Rattle.search_rules.specs.Following.{first_step, following_run}
use Rattle.search.specs.Answers.{Answer, found, none, spent, refused, answer_at, values_at, trail_at}
use Rattle.search.specs.Resumed.{Resumption, left, taken_up}
use Rattle.search.specs.Resuming.{start}
use Rattle.search.specs.Every.{Standing, left_by, next_call}
use Rattle.solve_rules.specs.Answers as back
use Rattle.solve_rules.specs.Answers.{read_back_answer, instance_after}
use Rattle.marked.specs.Table.{neg, k1, k2, k3, k5, k6}
use Rattle.marked.proofs.Counters.{two_sets}
use Rattle.marked.proofs.Limits.{k1-bounded, k3-bounded}
use Rattle.marked.proofs.Smallest.{instances, satisfying}

-- a call by its budget: its answer, the values, the trail and the record that it leaves, and what read-back makes of these values
record Call : Type 0 where
  budget : ℕ
  answer : Answer
  values : List ℕ
  trail : List ℤ
  position : Position
  reading_back : back.Answer
  instance : List ℕ

-- every variable is set: the trail is full, and the instance is copied
abbrev full : ℕ → (Steps → Answer) → Steps → List ℕ → List ℤ → List ℕ → Call
full budget answer steps values trail instance =
    record {
      budget = budget;
      answer = answer steps;
      values = values;
      trail = trail;
      position = position_of (length trail) steps;
      reading_back = back.copied (length instance);
      instance = instance;
    }

-- a cell is open: read-back is an 11
abbrev part : ℕ → (Steps → Answer) → Steps → List ℕ → List ℤ → ℕ → Call
part budget answer steps values trail n =
    record {
      budget = budget;
      answer = answer steps;
      values = values;
      trail = trail;
      position = position_of n steps;
      reading_back = back.refused 11;
      instance = [];
    }

-- all v variables are open, as after "none"
abbrev all_open : ℕ → ℕ → (Steps → Answer) → Steps → Call
all_open v budget answer steps = part budget answer steps (replicate v 2) (replicate v (pos 0)) 0

-- a sheet with so many cells, and the calls, each on what the one before left
record Row : Type 0 where
  sheet : List ℕ
  cells : ℕ
  calls : List Call

abbrev row : List ℕ → ℕ → List Call → Row
row sheet cells calls = record { sheet = sheet; cells = cells; calls = calls }

-- K1: all but the empty set, then "none"
abbrev k1-calls : List Call
k1-calls =
    full 1000000 found (tally 3 1 0) (1 ∷ 3 ∷ 1 ∷ 1 ∷ []) (pos 1 ∷ pos 4 ∷ neg 2 ∷ pos 3 ∷ []) (0 ∷ 1 ∷ [])
    ∷ full 1000000 found (tally 3 2 1) (1 ∷ 1 ∷ 3 ∷ 1 ∷ []) (pos 1 ∷ pos 4 ∷ pos 2 ∷ neg 3 ∷ []) (1 ∷ 0 ∷ [])
    ∷ full 1000000 found (tally 3 2 2) (1 ∷ 1 ∷ 1 ∷ 1 ∷ []) (pos 1 ∷ pos 4 ∷ pos 2 ∷ pos 3 ∷ []) (1 ∷ 1 ∷ [])
    ∷ all_open 4 1000000 none (tally 3 2 2)
    -- a further call starts over, and goes on counting
    ∷ full 1000000 found (tally 6 3 2) (1 ∷ 3 ∷ 1 ∷ 1 ∷ []) (pos 1 ∷ pos 4 ∷ neg 2 ∷ pos 3 ∷ []) (0 ∷ 1 ∷ [])
    ∷ []

-- K1 with small budgets
abbrev k1-small : List Call
k1-small =
    part 3 spent (tally 2 1 0) (1 ∷ 3 ∷ 2 ∷ 1 ∷ []) (pos 1 ∷ pos 4 ∷ neg 2 ∷ pos 0 ∷ []) 3
    ∷ full 1 found (tally 3 1 0) (1 ∷ 3 ∷ 1 ∷ 1 ∷ []) (pos 1 ∷ pos 4 ∷ neg 2 ∷ pos 3 ∷ []) (0 ∷ 1 ∷ [])
    -- a choice is left: with budget 0 "spent", and all stays; with budget 1 the turn, after which a variable is open
    ∷ full 0 spent (tally 3 1 0) (1 ∷ 3 ∷ 1 ∷ 1 ∷ []) (pos 1 ∷ pos 4 ∷ neg 2 ∷ pos 3 ∷ []) (0 ∷ 1 ∷ [])
    ∷ part 1 spent (tally 3 1 1) (1 ∷ 1 ∷ 2 ∷ 1 ∷ []) (pos 1 ∷ pos 4 ∷ pos 2 ∷ pos 0 ∷ []) 3
    ∷ part 0 spent (tally 3 1 1) (1 ∷ 1 ∷ 2 ∷ 1 ∷ []) (pos 1 ∷ pos 4 ∷ pos 2 ∷ pos 0 ∷ []) 3
    ∷ full 1 found (tally 3 2 1) (1 ∷ 1 ∷ 3 ∷ 1 ∷ []) (pos 1 ∷ pos 4 ∷ pos 2 ∷ neg 3 ∷ []) (1 ∷ 0 ∷ [])
    -- the same, where all are set after the turn
    ∷ full 0 spent (tally 3 2 1) (1 ∷ 1 ∷ 3 ∷ 1 ∷ []) (pos 1 ∷ pos 4 ∷ pos 2 ∷ neg 3 ∷ []) (1 ∷ 0 ∷ [])
    ∷ full 1 found (tally 3 2 2) (1 ∷ 1 ∷ 1 ∷ 1 ∷ []) (pos 1 ∷ pos 4 ∷ pos 2 ∷ pos 3 ∷ []) (1 ∷ 1 ∷ [])
    -- no choice is left: "none" with budget 0
    ∷ all_open 4 0 none (tally 3 2 2)
    -- it starts over
    ∷ all_open 4 0 spent (tally 3 2 2)
    ∷ full 4 found (tally 6 3 2) (1 ∷ 3 ∷ 1 ∷ 1 ∷ []) (pos 1 ∷ pos 4 ∷ neg 2 ∷ pos 3 ∷ []) (0 ∷ 1 ∷ [])
    ∷ []

-- K2: after the turn the other cell is forced, a 0 that is no choice
abbrev k2-calls : List Call
k2-calls =
    full 1000000 found (tally 3 1 0) (1 ∷ 3 ∷ 1 ∷ 1 ∷ []) (pos 1 ∷ pos 4 ∷ neg 2 ∷ pos 3 ∷ []) (0 ∷ 1 ∷ [])
    ∷ full 1000000 found (tally 4 1 1) (1 ∷ 1 ∷ 0 ∷ 1 ∷ []) (pos 1 ∷ pos 4 ∷ pos 2 ∷ neg 3 ∷ []) (1 ∷ 0 ∷ [])
    ∷ all_open 4 1000000 none (tally 4 1 1)
    ∷ []

-- K3: no instance, and none again
abbrev k3-calls : List Call
k3-calls = all_open 4 1000000 none (tally 4 0 0) ∷ all_open 4 1000000 none (tally 8 0 0) ∷ []

-- K1 with up to 2 atoms: in the order of the members, then of the set; no instance has a 1 of a non-member
abbrev k1-bounded-calls : List Call
k1-bounded-calls =
    full 1000000 found (tally 5 1 0) (1 ∷ 3 ∷ 1 ∷ 0 ∷ 1 ∷ 1 ∷ [])
    (pos 1 ∷ pos 6 ∷ neg 2 ∷ neg 4 ∷ pos 5 ∷ pos 3 ∷ []) (0 ∷ 1 ∷ 0 ∷ 1 ∷ [])
    ∷ full 1000000 found (tally 7 2 1) (1 ∷ 1 ∷ 3 ∷ 1 ∷ 0 ∷ 1 ∷ [])
    (pos 1 ∷ pos 6 ∷ pos 2 ∷ neg 3 ∷ neg 5 ∷ pos 4 ∷ []) (1 ∷ 0 ∷ 1 ∷ 0 ∷ [])
    ∷ full 1000000 found (tally 8 3 2) (1 ∷ 1 ∷ 1 ∷ 3 ∷ 1 ∷ 1 ∷ [])
    (pos 1 ∷ pos 6 ∷ pos 2 ∷ pos 3 ∷ neg 4 ∷ pos 5 ∷ []) (1 ∷ 1 ∷ 0 ∷ 1 ∷ [])
    ∷ full 1000000 found (tally 8 4 3) (1 ∷ 1 ∷ 1 ∷ 1 ∷ 3 ∷ 1 ∷ [])
    (pos 1 ∷ pos 6 ∷ pos 2 ∷ pos 3 ∷ pos 4 ∷ neg 5 ∷ []) (1 ∷ 1 ∷ 1 ∷ 0 ∷ [])
    ∷ full 1000000 found (tally 8 4 4) (1 ∷ 1 ∷ 1 ∷ 1 ∷ 1 ∷ 1 ∷ [])
    (pos 1 ∷ pos 6 ∷ pos 2 ∷ pos 3 ∷ pos 4 ∷ pos 5 ∷ []) (1 ∷ 1 ∷ 1 ∷ 1 ∷ [])
    ∷ all_open 6 1000000 none (tally 8 4 4)
    ∷ []

-- K5: two choices; the latest is turned first, then the other
abbrev k5-calls : List Call
k5-calls =
    full 1000000 found (tally 2 2 0) (1 ∷ 3 ∷ 3 ∷ 1 ∷ []) (pos 1 ∷ pos 4 ∷ neg 2 ∷ neg 3 ∷ []) (0 ∷ 0 ∷ [])
    ∷ full 1000000 found (tally 2 2 1) (1 ∷ 3 ∷ 1 ∷ 1 ∷ []) (pos 1 ∷ pos 4 ∷ neg 2 ∷ pos 3 ∷ []) (0 ∷ 1 ∷ [])
    ∷ full 1000000 found (tally 3 2 2) (1 ∷ 1 ∷ 0 ∷ 1 ∷ []) (pos 1 ∷ pos 4 ∷ pos 2 ∷ neg 3 ∷ []) (1 ∷ 0 ∷ [])
    ∷ all_open 4 1000000 none (tally 3 2 2)
    ∷ []

-- K6: one instance, found with no choice
abbrev k6-calls : List Call
k6-calls =
    full 1000000 found (tally 2 0 0) (1 ∷ 1 ∷ []) (pos 1 ∷ pos 2 ∷ []) (1 ∷ [])
    ∷ all_open 2 1000000 none (tally 2 0 0)
    ∷ []

-- two sets over one atom, with "not r or s", "not r or not s" and "r or not s": one instance, both empty
abbrev neither : List ℕ
neither = two_sets (30 ∷ 1 ∷ 0 ∷ 30 ∷ 3 ∷ 0 ∷ 32 ∷ 4 ∷ 3 ∷ 32 ∷ 4 ∷ 5 ∷ 32 ∷ 1 ∷ 5 ∷ 31 ∷ 6 ∷ 7 ∷ 31 ∷ 9 ∷ 8 ∷ [])

-- it is found with a choice; turned, s is forced and clashes
abbrev neither-calls : List Call
neither-calls =
    full 1000000 found (tally 7 1 0) (1 ∷ 3 ∷ 0 ∷ 1 ∷ 1 ∷ 0 ∷ 1 ∷ 0 ∷ [])
    (pos 1 ∷ neg 8 ∷ neg 6 ∷ pos 4 ∷ pos 5 ∷ pos 7 ∷ neg 2 ∷ neg 3 ∷ []) (0 ∷ 0 ∷ [])
    ∷ all_open 8 1000000 none (tally 8 1 1)
    ∷ []

abbrev rows : List Row
rows =
    row k1 2 k1-calls
    ∷ row k1 2 k1-small
    ∷ row k2 2 k2-calls
    ∷ row k3 2 k3-calls
    ∷ row k1-bounded 4 k1-bounded-calls
    -- K3 with up to 2 atoms
    ∷ row k3-bounded 4 (all_open 6 1000000 none (tally 4 0 0) ∷ [])
    ∷ row k5 2 k5-calls
    ∷ row k6 1 k6-calls
    ∷ row neither 2 neither-calls
    ∷ []

-- what a call answers and leaves, the record with it, and what read-back answers and leaves
record Shown : Type 0 where
  call : Resumption
  reading_back : back.Answer
  instance : List ℕ

-- the slices are one byte and one word longer than v asks for; for the instance four bytes are lent
abbrev fresh : ℕ → Standing
fresh v = record { values = replicate v 2 ++ 9 ∷ []; trail = replicate v (pos 0) ++ pos 9 ∷ []; position = start }

abbrev lent_instance : List ℕ
lent_instance = replicate 4 9

abbrev shown_of : List ℕ → ℕ → Resumption → Shown
shown_of sheet v r =
    let values = take v r.outcome.values in
    record {
      call = r;
      reading_back = read_back_answer sheet values lent_instance;
      instance = instance_after sheet values lent_instance;
    }

abbrev shown_from : List ℕ → List ℤ → ℕ → Standing → List Call → List Shown
shown_from sheet list v at [] = []
shown_from sheet list v at (c ∷ calls) =
    let r = next_call list v at c.budget in
    shown_of sheet v r ∷ shown_from sheet list v (left_by r) calls

-- the calls get the words that the clause rules give for the sheet, and the v that counting answers
abbrev shown_after : count.Answer → Row → List Shown
shown_after (count.fits v c w) row =
    shown_from row.sheet (take w (list_after row.sheet (replicate 80 (pos 9)))) v (fresh v) row.calls
shown_after (count.refused n) row = []

-- what is stated of a call, in full
abbrev in_full : Call → Shown
in_full c =
    record {
      call = left c.answer (c.values ++ 9 ∷ []) (c.trail ++ pos 9 ∷ []) c.position;
      reading_back = c.reading_back;
      instance = c.instance ++ drop (length c.instance) lent_instance;
    }

pub every_call : map (λ row. shown_after (count_answer row.sheet) row) rows ≡ map (λ row. map in_full row.calls) rows
unfolding row_of each all any tables.table shape_step visits_step counted scoped declared nodes_fine shaped rooted walkable reading
    symbol_of tree_step first_member first_cell rounds builder.each remaining or input_clauses gates_clauses after_rounds
    translate series member_clauses mark_clauses root_walk
    clauses words words_of variable_total count_answer write_answer list_after cut well_cut is_list truth_of negated literal is_falsified is_satisfied
    conflict open_of same_literal only unit_of first_unit lowest_open word_of byte_of place_of values_of trail_of turn decide next total run.count
    run.run first_step following_run repeats goes_with no_state entry_of state_in taken_up answer_at values_at trail_at read_back_answer instance_after
every_call = refl

-- the instances that the "found"s gave before the first "none"
abbrev given : List Call → List (List ℕ)
given [] = []
given (c ∷ calls) =
    elim c.answer
    [ found steps ↦ c.instance ∷ given calls | none steps ↦ [] | spent steps ↦ given calls | refused n ↦ given calls ]

-- they are those that the check says yes to, in order and each once
pub all_given : map (λ row. given row.calls) rows ≡ map (λ row. satisfying row.sheet (instances row.cells)) rows
unfolding row_of each all tables.table shape_step visits_step counted scoped declared nodes_fine shaped rooted walkable reading
    symbol_of tree_step first_member first_cell has_cells rounds value_of marks_hold cells_inside holds held_answer check_answer
all_given = refl
