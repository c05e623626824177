-- Resumed calls on K1, K3 and two more lists, computed by the definition: ends, counters, records and the order of the refusals.
use mathlib.Core.Path.{◌≡◌, refl}
use mathlib.Core.List.{List, [], ◌∷◌, map}
use Prim.Native.Nat.{ℕ}
use lib.IntN.{ℤ, pos, negsuc}
use Rattle.prelude.specs.Tests as tests
use Rattle.clause_list.specs.ClauseList.{cut, well_cut, is_list}
use Rattle.clause_list.specs.Marked.{k1, k2}
use Rattle.search_rules.specs.declared.Steps.{Steps}
use Rattle.search_rules.specs.Rules.{truth_of, negated, literal, is_falsified, is_satisfied, conflict, open_of, same_literal, only, unit_of}
use Rattle.search_rules.specs.Rules.{first_unit, lowest_open, word_of, byte_of, place_of, values_of, trail_of, turn, decide, next}
use Rattle.search_rules.specs.Run.{tally, zeros, total, count, run}
use Rattle.search_rules.specs.Held.{position_of, repeats, goes_with, no_state, entry_of, state_in}
use Rattle.search.specs.Answers.{Answer, found, none, spent, refused, answer_at, values_at, trail_at}
use Rattle.search.specs.Resumed.{left, taken_up, resumption}

-- the slices and the record of a call
record Held : Type 0 where
  values : List ℕ
  trail : List ℤ
  length : ℕ
  steps : Steps

record Row : Type 0 where
  list : List ℤ
  v : ℕ
  lent : Held
  budget : ℕ
  answer : Answer
  after : Held

abbrev held : List ℕ → List ℤ → ℕ → Steps → Held
held values trail length steps = record { values = values; trail = trail; length = length; steps = steps }

-- what is lent is one byte and one word longer than K1 and K3 ask for: all open, with so many steps done
abbrev fresh : Steps → Held
fresh steps = held (2 ∷ 2 ∷ 2 ∷ 2 ∷ 9 ∷ []) (pos 0 ∷ pos 0 ∷ pos 0 ∷ pos 0 ∷ pos 9 ∷ []) 0 steps

-- K1 after two steps, after three and at its end
abbrev two : Held
two = held (1 ∷ 2 ∷ 2 ∷ 1 ∷ 9 ∷ []) (pos 1 ∷ pos 4 ∷ pos 0 ∷ pos 0 ∷ pos 9 ∷ []) 2 (tally 2 0 0)

abbrev three : Steps → Held
three steps = held (1 ∷ 3 ∷ 2 ∷ 1 ∷ 9 ∷ []) (pos 1 ∷ pos 4 ∷ negsuc 1 ∷ pos 0 ∷ pos 9 ∷ []) 3 steps

abbrev end : Steps → Held
end steps = held (1 ∷ 3 ∷ 1 ∷ 1 ∷ 9 ∷ []) (pos 1 ∷ pos 4 ∷ negsuc 1 ∷ pos 3 ∷ pos 9 ∷ []) 4 steps

-- K3 after three steps
abbrev third : Held
third = held (1 ∷ 0 ∷ 2 ∷ 0 ∷ 9 ∷ []) (pos 1 ∷ negsuc 3 ∷ negsuc 1 ∷ pos 0 ∷ pos 9 ∷ []) 3 (tally 3 0 0)

-- no state: the length passes v
abbrev long : Held
long = held (1 ∷ 0 ∷ 1 ∷ 1 ∷ 9 ∷ []) (pos 1 ∷ pos 4 ∷ negsuc 1 ∷ pos 3 ∷ pos 9 ∷ []) 5 (tally 3 1 0)

-- (1 2) (1 -2), after the choice -1 and the force 2, which clash, after the turn, and at its end
abbrev all_kinds : List ℤ
all_kinds = pos 2 ∷ pos 1 ∷ pos 2 ∷ pos 2 ∷ pos 1 ∷ negsuc 1 ∷ []

abbrev clashing : Steps → Held
clashing steps = held (3 ∷ 1 ∷ []) (negsuc 0 ∷ pos 2 ∷ []) 2 steps

abbrev turned : Steps → Held
turned steps = held (1 ∷ 2 ∷ []) (pos 1 ∷ pos 0 ∷ []) 1 steps

abbrev set_all : Steps → Held
set_all steps = held (1 ∷ 3 ∷ []) (pos 1 ∷ negsuc 1 ∷ []) 2 steps

-- counters that come to 2^64 - 2, to 2^64 - 1, and to 2^64, which is 0 in 64 bits
abbrev all_but_one : Steps
all_but_one = tally 9223372036854775807 9223372036854775800 7

abbrev all : Steps
all = tally 9223372036854775808 9223372036854775800 7

abbrev one_more : Steps
one_more = tally 9223372036854775808 0 9223372036854775808

abbrev row : List ℤ → ℕ → Held → ℕ → Answer → Held → Row
row list v lent budget answer after =
    record { list = list; v = v; lent = lent; budget = budget; answer = answer; after = after }

abbrev rows : List Row
rows =
    -- K1 in one call, and in calls of 2 steps, 1 step, no step and many; at its end no step is left
    row k1 4 (fresh zeros) 1000000 (found (tally 3 1 0)) (end (tally 3 1 0))
    ∷ row k1 4 (fresh zeros) 2 (spent (tally 2 0 0)) two
    ∷ row k1 4 two 1 (spent (tally 2 1 0)) (three (tally 2 1 0))
    ∷ row k1 4 (three (tally 2 1 0)) 0 (spent (tally 2 1 0)) (three (tally 2 1 0))
    ∷ row k1 4 (three (tally 2 1 0)) 1000000 (found (tally 3 1 0)) (end (tally 3 1 0))
    ∷ row k1 4 (end (tally 3 1 0)) 1000000 (found (tally 3 1 0)) (end (tally 3 1 0))
    -- K3: none has length 0 and the totals; taken up again there, the search starts anew and goes on counting
    ∷ row (k2 (negsuc 3)) 4 (fresh zeros) 3 (spent (tally 3 0 0)) third
    ∷ row (k2 (negsuc 3)) 4 third 1 (none (tally 4 0 0)) (fresh (tally 4 0 0))
    ∷ row (k2 (negsuc 3)) 4 (fresh (tally 4 0 0)) 4 (none (tally 8 0 0)) (fresh (tally 8 0 0))
    -- each counter goes on from the one handed in: a force; a turn; a choice after it
    ∷ row k1 4 (three (tally 7 5 3)) 1 (found (tally 8 5 3)) (end (tally 8 5 3))
    ∷ row all_kinds 2 (clashing (tally 7 5 3)) 1 (spent (tally 7 5 4)) (turned (tally 7 5 4))
    ∷ row all_kinds 2 (turned (tally 7 5 4)) 1 (found (tally 7 6 4)) (set_all (tally 7 6 4))
    -- a state that no run from a fresh start leaves: "none", though (1 2) has an assignment
    ∷ row (pos 2 ∷ pos 1 ∷ pos 2 ∷ []) 2 (held (0 ∷ 0 ∷ []) (negsuc 0 ∷ negsuc 1 ∷ []) 2 zeros) 1 (none zeros)
    (held (2 ∷ 2 ∷ []) (pos 0 ∷ pos 0 ∷ []) 0 zeros)
    -- 12, then 13, then 14: the list, then a slice of 5 where 6 are needed, then the state, then the steps
    ∷ row (negsuc 0 ∷ []) 6 long 1 (refused 12) long
    ∷ row k1 6 long 18446744073709551615 (refused 13) long
    ∷ row k1 4 long 1 (refused 14) long
    -- sums up to 2^64 - 1 pass, and 2^64 does not
    ∷ row k1 4 (three all_but_one) 1 (found all) (end all)
    ∷ row k1 4 (three all_but_one) 2 (refused 14) (three all_but_one)
    ∷ row k1 4 (three all) 0 (spent all) (three all)
    ∷ row k1 4 (three one_more) 0 (refused 14) (three one_more)
    ∷ []

pub cases :
    map (λ row. resumption row.list row.v row.lent.values row.lent.trail (position_of row.lent.length row.lent.steps)
    row.budget) rows
    ≡ map (λ row. left row.answer row.after.values row.after.trail (position_of row.after.length row.after.steps)) rows
unfolding truth_of negated literal is_falsified is_satisfied conflict open_of same_literal only unit_of first_unit lowest_open word_of byte_of place_of
    values_of trail_of turn decide next total count run answer_at values_at trail_at tests.all tests.any tests.each cut well_cut is_list repeats
    goes_with no_state entry_of state_in taken_up
cases = refl
