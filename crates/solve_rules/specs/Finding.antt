-- What `find` answers, and what it leaves in the lent slices: counting, writing, search and read-back, one after the
-- other.
use Rattle.std.specs.Prelude.{Bool, ◌&&◌, cond, List, ℕ, leb, ℤ, length, take}
use Rattle.sheet_rules.specs.Blocks.{sheet_of}
use Rattle.relational.specs.Cells.{cell_count}
use Rattle.clauses.specs.Answers as count
use Rattle.clauses.specs.Answers.{count_answer, list_after}
use Rattle.search.specs.Answers.{Answer, found, none, spent, refused, Outcome, outcome}
use Rattle.solve_rules.specs.Answers.{instance_after}

-- the contents of the slices that a caller lends
pub record Slices : Type 0 where
  pub list : List ℤ
  pub values : List ℕ
  pub trail : List ℤ
  pub instance : List ℕ

abbrev pub slices : List ℤ → List ℕ → List ℤ → List ℕ → Slices
slices list values trail instance = record { list = list; values = values; trail = trail; instance = instance }

-- an answer with the contents of all lent slices after the call
pub record Finding : Type 0 where
  pub answer : Answer
  pub left : Slices

-- a refusal changes nothing
abbrev pub decline : ℕ → Slices → Finding
decline number lent = record { answer = refused number; left = lent }

-- no 13 in writing, in search and in read-back: room for w words, v values and trail words, and the cells
abbrev pub have_room : ℕ → ℕ → ℕ → Slices → Bool
have_room w v cells lent =
    leb w (length lent.list)
    && (leb v (length lent.values) && (leb v (length lent.trail) && leb cells (length lent.instance)))

-- "read-back gets the same sheet, with .. the values that "found" left"; without a "found" the instance stays
abbrev pub instance_for : Answer → List ℕ → List ℕ → List ℕ → List ℕ
instance_for (found steps) s values instance = instance_after s values instance
instance_for (none steps) s values instance = instance
instance_for (spent steps) s values instance = instance
instance_for (refused n) s values instance = instance

-- the search over exactly the words written, with the v that counting answers, and read-back of the first v values
abbrev pub find_in : List ℕ → ℕ → ℕ → Slices → ℕ → Finding
find_in s v w lent budget =
    let list = list_after s lent.list in
    let searched = outcome (take w list) v lent.values lent.trail budget in
    record {
      answer = searched.answer;
      left = slices list searched.values searched.trail
          (instance_for searched.answer s (take v searched.values) lent.instance);
    }

-- the numbers in order: those of counting, 1 to 10; 12 LIST, "more than 2^31 - 1 words"; 13 SHORT, "a lent slice is too
-- short"
abbrev pub find_after : count.Answer → List ℕ → Slices → ℕ → Finding
find_after (count.refused n) s lent budget = decline n lent
find_after (count.fits v c w) s lent budget =
    cond (leb w 2147483647)
    (cond (have_room w v (cell_count (sheet_of s)) lent) (find_in s v w lent budget) (decline 13 lent))
    (decline 12 lent)

unfoldable pub finding : List ℕ → Slices → ℕ → Finding
finding s lent budget = find_after (count_answer s) s lent budget

-- what `find` leaves of its search
abbrev pub searched_by : Finding → Outcome
searched_by f = record { answer = f.answer; values = f.left.values; trail = f.left.trail }
