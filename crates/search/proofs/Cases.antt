-- Calls on K1 to K4 of document 01 with their counters, and refusals, computed by the definitions: one theorem over all rows.
use mathlib.Core.Path.{◌≡◌, refl}
use mathlib.Core.List.{List, [], ◌∷◌, map}
use Prim.Native.Nat.{ℕ}
use lib.IntN.{ℤ, pos, negsuc}
use lib.ListN.{take}
use Rattle.prelude.specs.Tests.{all, any}
use Rattle.clause_list.specs.ClauseList.{cut, well_cut, is_list}
use Rattle.clause_list.specs.Marked.{k1, k2}
use Rattle.search_rules.specs.Rules.{truth_of, negated, literal, is_falsified, is_satisfied, conflict, open_of, same_literal, only, unit_of}
use Rattle.search_rules.specs.Rules.{first_unit, lowest_open, word_of, byte_of, place_of, values_of, trail_of, turn, decide, next}
use Rattle.search_rules.specs.Run.{tally, count, run}
use Rattle.search.specs.Answers.{Answer, found, none, spent, refused, answer_at, values_at, trail_at, outcome}

-- what is lent is one byte and one word longer than v asks for
record Row : Type 0 where
  list : List ℤ
  v : ℕ
  budget : ℕ
  answer : Answer
  values : List ℕ
  trail : List ℤ

abbrev lent_values : List ℕ
lent_values = 7 ∷ 7 ∷ 7 ∷ 7 ∷ 9 ∷ []

abbrev lent_trail : List ℤ
lent_trail = pos 7 ∷ pos 7 ∷ pos 7 ∷ pos 7 ∷ pos 9 ∷ []

abbrev row : List ℤ → ℕ → ℕ → Answer → List ℕ → List ℤ → Row
row list v budget answer values trail =
    record { list = list; v = v; budget = budget; answer = answer; values = values; trail = trail }

abbrev rows : List Row
rows =
    row k1 4 1000000 (found (tally 3 1 0)) (1 ∷ 3 ∷ 1 ∷ 1 ∷ 9 ∷ []) (pos 1 ∷ pos 4 ∷ negsuc 1 ∷ pos 3 ∷ pos 9 ∷ [])
    ∷ row (k2 (pos 4)) 4 1000000 (found (tally 3 1 0)) (1 ∷ 3 ∷ 1 ∷ 1 ∷ 9 ∷ []) (pos 1 ∷ pos 4 ∷ negsuc 1 ∷ pos 3 ∷ pos 9 ∷ [])
    ∷ row (k2 (negsuc 3)) 4 1000000 (none (tally 4 0 0)) (2 ∷ 2 ∷ 2 ∷ 2 ∷ 9 ∷ []) (pos 0 ∷ pos 0 ∷ pos 0 ∷ pos 0 ∷ pos 9 ∷ [])
    ∷ row k1 4 3 (spent (tally 2 1 0)) (1 ∷ 3 ∷ 2 ∷ 1 ∷ 9 ∷ []) (pos 1 ∷ pos 4 ∷ negsuc 1 ∷ pos 0 ∷ pos 9 ∷ [])
    -- (1 2) (1 -2): two choices, a force and a turn
    ∷ row (pos 2 ∷ pos 1 ∷ pos 2 ∷ pos 2 ∷ pos 1 ∷ negsuc 1 ∷ []) 2 4 (found (tally 1 2 1)) (1 ∷ 3 ∷ 7 ∷ 7 ∷ 9 ∷ [])
    (pos 1 ∷ negsuc 1 ∷ pos 7 ∷ pos 7 ∷ pos 9 ∷ [])
    -- 12: v of 0 and past 16,000, a count past the end, a literal 0 and one beyond v; 13: a slice of 5 where 6 are needed
    ∷ row [] 0 1 (refused 12) lent_values lent_trail
    ∷ row [] 16001 1 (refused 12) lent_values lent_trail
    ∷ row (pos 2 ∷ pos 1 ∷ []) 4 1 (refused 12) lent_values lent_trail
    ∷ row (pos 1 ∷ pos 0 ∷ []) 4 1 (refused 12) lent_values lent_trail
    ∷ row (pos 1 ∷ negsuc 4 ∷ []) 4 1 (refused 12) lent_values lent_trail
    ∷ row (pos 1 ∷ negsuc 2147483647 ∷ []) 4 1 (refused 12) lent_values lent_trail
    ∷ row (negsuc 0 ∷ []) 4 1 (refused 12) lent_values lent_trail
    ∷ row k1 6 1 (refused 13) lent_values lent_trail
    ∷ []

pub cases : map (λ row. outcome row.list row.v lent_values lent_trail row.budget) rows
    ≡ map (λ row. record { answer = row.answer; values = row.values; trail = row.trail }) rows
unfolding truth_of negated literal is_falsified is_satisfied conflict open_of same_literal only unit_of first_unit lowest_open word_of byte_of place_of
    values_of trail_of turn decide next count run answer_at values_at trail_at outcome all any cut well_cut is_list
cases = refl

-- 13: values, then the trail, of 3 where 4 are needed, the other of 5
pub short-slices : ((outcome k1 4 (take 3 lent_values) lent_trail 9).answer ≡ refused 13)
    × ((outcome k1 4 lent_values (take 3 lent_trail) 9).answer ≡ refused 13)
unfolding outcome all any cut well_cut is_list
short-slices = (refl, refl)
