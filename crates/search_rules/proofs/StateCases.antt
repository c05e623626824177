-- The conditions of 14 at their edges and the states that slices hold, computed by the definitions; and why "none", and that "found"
-- leaves the first, is promised only where a run goes back to a fresh start.
use mathlib.Core.Path.{◌≡◌, refl}
use mathlib.Core.Bool.{Bool, true, false}
use mathlib.Core.Logic.{inl}
use mathlib.Core.List.{List, [], ◌∷◌, ◌++◌, map}
use Prim.Native.Nat.{ℕ}
use lib.IntN.{ℤ, pos, negsuc}
use lib.ListN.{take}
use Rattle.prelude.specs.Tests.{each, all, any}
use Rattle.prelude.specs.Order.{Before}
use Rattle.clause_list.specs.ClauseList.{cut, clauses_of, Satisfying}
use Rattle.search_rules.specs.declared.Steps.{Steps}
use Rattle.search_rules.specs.Rules.{truth_of, negated, literal, is_falsified, conflict, same_literal, State, propagated, decided}
use Rattle.search_rules.specs.Rules.{first_unit, lowest_open, word_of, byte_of, place_of, values_of, turn, decide, next, settle}
use Rattle.search_rules.specs.Run.{tally, zeros, total, was_none, was_found, run}
use Rattle.search_rules.specs.Held.{too_long, strays, repeats, goes_with, contradicts, set_outside, filled_outside, no_state, too_many}
use Rattle.search_rules.specs.Held.{entry_of, state_in}

-- the conditions of 14, but for the steps, in the order of its sentence
pub data Condition : Type 0 where
  too_long_trail out_of_range repeated contradicting set_byte filled_word : Condition

abbrev when : Bool → Condition → List Condition
when true condition = condition ∷ []
when false condition = []

-- those that apply
abbrev applying : ℕ → List ℕ → List ℤ → ℕ → List Condition
applying v values trail n =
    let literals = take n trail in
    when (too_long v n) too_long_trail ++ when (strays v literals) out_of_range ++ when (repeats literals) repeated
    ++ when (contradicts values literals) contradicting ++ when (set_outside v values literals) set_byte
    ++ when (filled_outside trail n) filled_word

-- 14 with the conditions that apply, or the state that is held
pub data Verdict : Type 0 where
  declined : List Condition → Verdict
  holds : State → Verdict

record Row : Type 0 where
  v : ℕ
  values : List ℕ
  trail : List ℤ
  n : ℕ
  verdict : Verdict

abbrev verdict_of : Row → Verdict
verdict_of row =
    elim (no_state row.v row.values row.trail row.n) [
      | true ↦ declined (applying row.v row.values row.trail row.n)
      | false ↦ holds (state_in row.values row.trail row.n)
    ]

abbrev rows : List Row
rows =
    -- the length is v, v + 1, and the highest 64-bit number; no literal; no variable
    record { v = 2; values = 1 ∷ 0 ∷ []; trail = pos 1 ∷ negsuc 1 ∷ []; n = 2; verdict = holds (propagated (negsuc 1) ∷ propagated (pos 1) ∷ []) }
    ∷ record { v = 2; values = 1 ∷ 0 ∷ []; trail = pos 1 ∷ negsuc 1 ∷ []; n = 3; verdict = declined (too_long_trail ∷ []) }
    ∷ record { v = 2; values = 1 ∷ 0 ∷ []; trail = pos 1 ∷ negsuc 1 ∷ []; n = 18446744073709551615; verdict = declined (too_long_trail ∷ []) }
    ∷ record { v = 1; values = 2 ∷ []; trail = pos 0 ∷ []; n = 0; verdict = holds [] }
    ∷ record { v = 0; values = []; trail = []; n = 0; verdict = holds [] }
    ∷ record { v = 0; values = []; trail = []; n = 1; verdict = declined (too_long_trail ∷ []) }
    -- the literals v, -v, 0, v + 1, -v - 1 and the lowest 32-bit number
    ∷ record { v = 2; values = 2 ∷ 1 ∷ []; trail = pos 2 ∷ pos 0 ∷ []; n = 1; verdict = holds (propagated (pos 2) ∷ []) }
    ∷ record { v = 2; values = 2 ∷ 0 ∷ []; trail = negsuc 1 ∷ pos 0 ∷ []; n = 1; verdict = holds (propagated (negsuc 1) ∷ []) }
    ∷ record { v = 2; values = 1 ∷ 2 ∷ []; trail = pos 0 ∷ pos 0 ∷ []; n = 1; verdict = declined (out_of_range ∷ []) }
    ∷ record { v = 2; values = 2 ∷ 2 ∷ []; trail = pos 3 ∷ pos 0 ∷ []; n = 1; verdict = declined (out_of_range ∷ contradicting ∷ []) }
    ∷ record { v = 2; values = 2 ∷ 2 ∷ []; trail = negsuc 2 ∷ pos 0 ∷ []; n = 1; verdict = declined (out_of_range ∷ contradicting ∷ []) }
    ∷ record { v = 2; values = 2 ∷ 2 ∷ []; trail = negsuc 2147483647 ∷ pos 0 ∷ []; n = 1; verdict = declined (out_of_range ∷ contradicting ∷ []) }
    -- one literal twice, side by side and not; then both of a variable
    ∷ record { v = 2; values = 1 ∷ 2 ∷ []; trail = pos 1 ∷ pos 1 ∷ []; n = 2; verdict = declined (repeated ∷ []) }
    ∷ record { v = 3; values = 2 ∷ 0 ∷ 2 ∷ []; trail = negsuc 1 ∷ negsuc 1 ∷ pos 0 ∷ []; n = 2; verdict = declined (repeated ∷ []) }
    ∷ record { v = 3; values = 1 ∷ 0 ∷ 2 ∷ []; trail = pos 1 ∷ negsuc 1 ∷ pos 1 ∷ []; n = 3; verdict = declined (repeated ∷ []) }
    ∷ record { v = 2; values = 2 ∷ 1 ∷ []; trail = pos 2 ∷ negsuc 1 ∷ []; n = 2; verdict = declined (contradicting ∷ []) }
    ∷ record { v = 2; values = 2 ∷ 0 ∷ []; trail = pos 2 ∷ negsuc 1 ∷ []; n = 2; verdict = declined (contradicting ∷ []) }
    ∷ record { v = 2; values = 2 ∷ 3 ∷ []; trail = negsuc 1 ∷ pos 2 ∷ []; n = 2; verdict = declined (contradicting ∷ []) }
    -- each byte with 1 on the trail
    ∷ record { v = 2; values = 0 ∷ 2 ∷ []; trail = pos 1 ∷ pos 0 ∷ []; n = 1; verdict = declined (contradicting ∷ []) }
    ∷ record { v = 2; values = 1 ∷ 2 ∷ []; trail = pos 1 ∷ pos 0 ∷ []; n = 1; verdict = holds (propagated (pos 1) ∷ []) }
    ∷ record { v = 2; values = 2 ∷ 2 ∷ []; trail = pos 1 ∷ pos 0 ∷ []; n = 1; verdict = declined (contradicting ∷ []) }
    ∷ record { v = 2; values = 3 ∷ 2 ∷ []; trail = pos 1 ∷ pos 0 ∷ []; n = 1; verdict = declined (contradicting ∷ []) }
    ∷ record { v = 2; values = 4 ∷ 2 ∷ []; trail = pos 1 ∷ pos 0 ∷ []; n = 1; verdict = declined (contradicting ∷ []) }
    ∷ record { v = 2; values = 255 ∷ 2 ∷ []; trail = pos 1 ∷ pos 0 ∷ []; n = 1; verdict = declined (contradicting ∷ []) }
    -- with -1
    ∷ record { v = 2; values = 0 ∷ 2 ∷ []; trail = negsuc 0 ∷ pos 0 ∷ []; n = 1; verdict = holds (propagated (negsuc 0) ∷ []) }
    ∷ record { v = 2; values = 1 ∷ 2 ∷ []; trail = negsuc 0 ∷ pos 0 ∷ []; n = 1; verdict = declined (contradicting ∷ []) }
    ∷ record { v = 2; values = 2 ∷ 2 ∷ []; trail = negsuc 0 ∷ pos 0 ∷ []; n = 1; verdict = declined (contradicting ∷ []) }
    ∷ record { v = 2; values = 3 ∷ 2 ∷ []; trail = negsuc 0 ∷ pos 0 ∷ []; n = 1; verdict = holds (decided 0 ∷ []) }
    ∷ record { v = 2; values = 4 ∷ 2 ∷ []; trail = negsuc 0 ∷ pos 0 ∷ []; n = 1; verdict = declined (contradicting ∷ []) }
    ∷ record { v = 2; values = 255 ∷ 2 ∷ []; trail = negsuc 0 ∷ pos 0 ∷ []; n = 1; verdict = declined (contradicting ∷ []) }
    -- and of a variable that is not on it
    ∷ record { v = 2; values = 1 ∷ 0 ∷ []; trail = pos 1 ∷ pos 0 ∷ []; n = 1; verdict = declined (set_byte ∷ []) }
    ∷ record { v = 2; values = 1 ∷ 1 ∷ []; trail = pos 1 ∷ pos 0 ∷ []; n = 1; verdict = declined (set_byte ∷ []) }
    ∷ record { v = 2; values = 1 ∷ 2 ∷ []; trail = pos 1 ∷ pos 0 ∷ []; n = 1; verdict = holds (propagated (pos 1) ∷ []) }
    ∷ record { v = 2; values = 1 ∷ 3 ∷ []; trail = pos 1 ∷ pos 0 ∷ []; n = 1; verdict = declined (set_byte ∷ []) }
    ∷ record { v = 2; values = 1 ∷ 4 ∷ []; trail = pos 1 ∷ pos 0 ∷ []; n = 1; verdict = declined (set_byte ∷ []) }
    ∷ record { v = 2; values = 1 ∷ 255 ∷ []; trail = pos 1 ∷ pos 0 ∷ []; n = 1; verdict = declined (set_byte ∷ []) }
    -- a word behind the length
    ∷ record { v = 3; values = 1 ∷ 2 ∷ 2 ∷ []; trail = pos 1 ∷ pos 2 ∷ pos 0 ∷ []; n = 1; verdict = declined (filled_word ∷ []) }
    ∷ record { v = 3; values = 1 ∷ 2 ∷ 2 ∷ []; trail = pos 1 ∷ pos 0 ∷ negsuc 2147483647 ∷ []; n = 1; verdict = declined (filled_word ∷ []) }
    ∷ record { v = 1; values = 2 ∷ []; trail = pos 1 ∷ []; n = 0; verdict = declined (filled_word ∷ []) }
    ∷ record { v = 1; values = 1 ∷ []; trail = pos 1 ∷ []; n = 0; verdict = declined (set_byte ∷ filled_word ∷ []) }
    ∷ record {
      v = 3;
      values = 1 ∷ 0 ∷ 2 ∷ [];
      trail = pos 1 ∷ negsuc 1 ∷ pos 0 ∷ [];
      n = 2;
      verdict = holds (propagated (negsuc 1) ∷ propagated (pos 1) ∷ []);
    }
    -- a decision among propagations: K4
    ∷ record {
      v = 4;
      values = 1 ∷ 3 ∷ 2 ∷ 1 ∷ [];
      trail = pos 1 ∷ pos 4 ∷ negsuc 1 ∷ pos 0 ∷ [];
      n = 3;
      verdict = holds (decided 1 ∷ propagated (pos 4) ∷ propagated (pos 1) ∷ []);
    }
    ∷ record {
      v = 3;
      values = 3 ∷ 1 ∷ 0 ∷ [];
      trail = negsuc 0 ∷ pos 2 ∷ negsuc 2 ∷ [];
      n = 3;
      verdict = holds (propagated (negsuc 2) ∷ propagated (pos 2) ∷ decided 0 ∷ []);
    }
    ∷ []

pub state-cases : map verdict_of rows ≡ map (λ row. row.verdict) rows
unfolding same_literal place_of repeats goes_with no_state entry_of state_in each any
state-cases = refl

-- steps done, by kind, and steps allowed, and whether they pass 2^64 - 1 together
record Figures : Type 0 where
  done : Steps
  allowed : ℕ
  passing : Bool

abbrev figures : ℕ → ℕ → ℕ → ℕ → Bool → Figures
figures p d b allowed passing = record { done = tally p d b; allowed = allowed; passing = passing }

-- 2^64 - 1, its third, and 2^63
abbrev most : ℕ
most = 18446744073709551615

abbrev third : ℕ
third = 6148914691236517205

abbrev half : ℕ
half = 9223372036854775808

abbrev sums : List Figures
sums =
    -- none done; one done, of each kind
    figures 0 0 0 most false
    ∷ figures 1 0 0 most true ∷ figures 0 1 0 most true ∷ figures 0 0 1 most true
    -- all done, in one kind, in two, in three
    ∷ figures most 0 0 0 false ∷ figures 0 most 0 0 false ∷ figures 0 0 most 0 false
    ∷ figures half 0 9223372036854775807 0 false ∷ figures third third third 0 false
    ∷ figures most 0 0 1 true ∷ figures 0 most 0 1 true ∷ figures 0 0 most 1 true
    ∷ figures half 0 9223372036854775807 1 true ∷ figures third third third 1 true
    -- half and half
    ∷ figures 0 half 0 9223372036854775807 false ∷ figures 0 half 0 half true
    -- the three alone pass it; in 64 bits they would come to 0, 0, half and 2^64 - 3
    ∷ figures half half 0 0 true ∷ figures most 0 1 0 true ∷ figures half half half 0 true ∷ figures most most most 0 true
    ∷ figures most most most most true
    ∷ []

pub step-cases : map (λ row. too_many row.done row.allowed) sums ≡ map (λ row. row.passing) sums
unfolding total
step-cases = refl

-- (1 2) with -1 and -2 on the trail: 14 lets the state pass, the rules end with "none" at once, and yet an assignment satisfies the clause.
-- No run from a fresh start leads there.
abbrev clauses : List (List ℤ)
clauses = clauses_of (pos 2 ∷ pos 1 ∷ pos 2 ∷ [])

abbrev values : List ℕ
values = 0 ∷ 0 ∷ []

abbrev trail : List ℤ
trail = negsuc 0 ∷ negsuc 1 ∷ []

pub not-from-start : (no_state 2 values trail 2 ≡ false) × (run clauses 2 0 zeros (state_in values trail 2) ≡ was_none zeros) ×
    Satisfying 2 clauses (0 ∷ 1 ∷ [])
unfolding truth_of negated literal is_falsified conflict same_literal word_of byte_of place_of values_of turn next run repeats goes_with no_state entry_of
    state_in each all any cut
not-from-start = (refl, refl, record { size = refl; bits = refl; holds = refl })

-- No clause, with 1 on the trail: the rules end with "found" at once, and yet an assignment comes before what is left (document 02, Change 5).
pub not_first : (no_state 1 (1 ∷ []) (pos 1 ∷ []) 1 ≡ false)
    × (run [] 1 0 zeros (state_in (1 ∷ []) (pos 1 ∷ []) 1) ≡ was_found zeros (propagated (pos 1) ∷ []))
    × Satisfying 1 [] (0 ∷ []) × Before (0 ∷ []) (map settle (values_of 1 (propagated (pos 1) ∷ [])))
unfolding truth_of conflict first_unit lowest_open word_of byte_of place_of values_of decide next run repeats goes_with no_state entry_of state_in each all any
    same_literal Before
not_first = (refl, refl, record { size = refl; bits = refl; holds = refl }, inl (refl, refl))
