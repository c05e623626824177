-- Cases K1 to K4 of document 01 and its traps, computed by the definitions: one theorem over all rows, and the clash of
-- a call for the next (document 02, Change 6).
use mathlib.Core.Path.{◌≡◌, refl}
use mathlib.Core.List.{List, [], ◌∷◌, map}
use Prim.Native.Nat.{ℕ}
use lib.IntN.{ℤ, pos, negsuc}
use Rattle.prelude.specs.Tests.{all, any}
use Rattle.clause_list.specs.ClauseList.{cut, clauses_of}
use Rattle.clause_list.specs.Marked.{k1, k2}
use Rattle.search_rules.specs.Rules.{truth_of, negated, literal, is_falsified, is_satisfied, conflict, open_of, same_literal, only, unit_of}
use Rattle.search_rules.specs.Rules.{first_unit, lowest_open, word_of, byte_of, place_of, values_of, turn, decide, next, propagated}
use Rattle.search_rules.specs.Rules.{decided}
use Rattle.search_rules.specs.Run.{tally, zeros, count, End, was_none, was_found, was_spent, run}
use Rattle.search_rules.specs.Following.{first_step, following_run}

-- clauses in 32-bit words, v, a budget, and how the run from a fresh start ends
record Row : Type 0 where
  list : List ℤ
  v : ℕ
  budget : ℕ
  end : End

abbrev rows : List Row
rows =
    -- K1 and K2: found after 4; K3: none after 4; K4: spent 3
    record {
      list = k1;
      v = 4;
      budget = 1000000;
      end = was_found (tally 3 1 0) (propagated (pos 3) ∷ decided 1 ∷ propagated (pos 4) ∷ propagated (pos 1) ∷ []);
    }
    ∷ record {
      list = k2 (pos 4);
      v = 4;
      budget = 1000000;
      end = was_found (tally 3 1 0) (propagated (pos 3) ∷ decided 1 ∷ propagated (pos 4) ∷ propagated (pos 1) ∷ []);
    }
    ∷ record { list = k2 (negsuc 3); v = 4; budget = 1000000; end = was_none (tally 4 0 0) }
    ∷ record { list = k1; v = 4; budget = 3; end = was_spent (tally 2 1 0) (decided 1 ∷ propagated (pos 4) ∷ propagated (pos 1) ∷ []) }
    -- an end after exactly the budget's steps is that end
    ∷ record {
      list = k1;
      v = 4;
      budget = 4;
      end = was_found (tally 3 1 0) (propagated (pos 3) ∷ decided 1 ∷ propagated (pos 4) ∷ propagated (pos 1) ∷ []);
    }
    ∷ record { list = k1; v = 4; budget = 0; end = was_spent zeros [] }
    -- (1 -1): both signs of an open variable force nothing
    ∷ record { list = pos 2 ∷ pos 1 ∷ negsuc 0 ∷ []; v = 1; budget = 5; end = was_found (tally 0 1 0) (decided 0 ∷ []) }
    -- (1 1): a literal twice forces
    ∷ record { list = pos 2 ∷ pos 1 ∷ pos 1 ∷ []; v = 1; budget = 5; end = was_found (tally 1 0 0) (propagated (pos 1) ∷ []) }
    -- no clause: every variable is decided
    ∷ record { list = []; v = 2; budget = 5; end = was_found (tally 0 2 0) (decided 1 ∷ decided 0 ∷ []) }
    -- (1) (2 -1) (-1): once 1 is true, the conflict (-1) stands behind the unit clause (2 -1), and goes first
    ∷ record { list = pos 1 ∷ pos 1 ∷ pos 2 ∷ pos 2 ∷ negsuc 0 ∷ pos 1 ∷ negsuc 0 ∷ []; v = 2; budget = 5; end = was_none (tally 1 0 0) }
    -- (1 2) (1 -2): a backtrack opens all behind the decision, which becomes true
    ∷ record {
      list = pos 2 ∷ pos 1 ∷ pos 2 ∷ pos 2 ∷ pos 1 ∷ negsuc 1 ∷ [];
      v = 2;
      budget = 9;
      end = was_found (tally 1 2 1) (decided 1 ∷ propagated (pos 1) ∷ []);
    }
    -- (2 3) (2 -3): the choices -1 and -2, and (2 3) forces 3; now (2 -3) is false, and of two choices the latest is
    -- turned: 2. Both clauses are true, and the choice -3 sets the last variable
    ∷ record {
      list = pos 2 ∷ pos 2 ∷ pos 3 ∷ pos 2 ∷ pos 2 ∷ negsuc 2 ∷ [];
      v = 3;
      budget = 9;
      end = was_found (tally 1 3 1) (decided 2 ∷ propagated (pos 2) ∷ decided 0 ∷ []);
    }
    ∷ []

pub cases : map (λ row. run (clauses_of row.list) row.v row.budget zeros []) rows ≡ map (λ row. row.end) rows
unfolding truth_of negated literal is_falsified is_satisfied conflict open_of same_literal only unit_of first_unit lowest_open word_of byte_of place_of
    values_of turn decide next count run all any cut
cases = refl

-- calls for the next on full assignments, with no clause and one variable: the clash of the choice -1 is a step, the
-- turn 1; behind it no choice is left
pub next-cases : (following_run [] 1 1 (tally 0 1 0) (decided 0 ∷ []) ≡ was_found (tally 0 1 1) (propagated (pos 1) ∷ []))
    × (following_run [] 1 1 (tally 0 1 1) (propagated (pos 1) ∷ []) ≡ was_none (tally 0 1 1))
unfolding truth_of conflict first_unit lowest_open word_of byte_of place_of values_of turn decide next count run first_step
    following_run any
next-cases = (refl, refl)
