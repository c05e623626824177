-- Demand 3 of one call of `find`, and the smallest case of document 02, Change 5, in the papers' words: a part of its
-- contract. The other part says that the answer and all lent slices equal the definition `finding`, which has the
-- number of each refusal.
use Rattle.std.specs.Prelude.{◌≡◌, ◌↔◌, List, [], ◌++◌, ℕ, ◌+◌, ◌≤◌, length, take, drop}
use Rattle.clause_list.specs.ClauseList.{clauses_of}
use Rattle.sheet_rules.specs.Blocks.{Sheet, sheet_of}
use Rattle.clauses_rules.specs.Whole.{words, variable_total, word_total}
use Rattle.relational.specs.Meaning.{Solution}
use Rattle.search_rules.specs.declared.Steps.{Steps}
use Rattle.search_rules.specs.Run.{EndedWithin}
use Rattle.search_rules.specs.Held.{step_limit}
use Rattle.search.specs.Answers.{Answer, found, none, spent, refused}
use Rattle.search.specs.Resumed.{resumption}
use Rattle.search.specs.Resuming.{record_of, with_record}
use Rattle.solve_rules.specs.Finding.{Slices, finding, searched_by}
use Rattle.solve_rules.specs.Smallest.{Smallest}
use Rattle.solve_rules.specs.Demand3.{FitsLimits, FitSlices}

-- an instance within the scopes that satisfies marks and formula stands in front of the slice, and none that does comes
-- before it; what was lent after it is unchanged
pub record LeavesSmallest (sheet : Sheet) (lent left : List ℕ) : Type 0 where
  pub instance : List ℕ
  pub solves : Solution sheet instance
  pub smallest : Smallest sheet instance
  pub stands : left ≡ instance ++ drop (length instance) lent

-- the clauses fit the limits and the lent slices, and the step rules have not ended within the budget
pub record NotEnded (s : List ℕ) (lent : Slices) (budget : ℕ) : Type 0 where
  pub limits : FitsLimits s
  pub room : FitSlices s lent
  pub runs : EndedWithin (clauses_of (words (sheet_of s))) (variable_total (sheet_of s)) budget [] → ⊥

pub record Finds (s : List ℕ) (lent : Slices) (budget : ℕ) (answer : Answer) (left : Slices) : Type 0 where
  -- "found" only with an instance in the lent slice that satisfies marks and formula, the smallest
  pub found_only : (steps : Steps) → answer ≡ found steps → LeavesSmallest (sheet_of s) lent.instance left.instance
  -- "none" only if no instance within the scopes satisfies them
  pub none_only : (steps : Steps) → answer ≡ none steps → (instance : List ℕ) → Solution (sheet_of s) instance → ⊥
  -- "spent" exactly when the step rules have not ended within the budget
  pub spent_exactly : ((steps : Steps) × (answer ≡ spent steps)) ↔ NotEnded s lent budget
  -- a refusal exactly when the sheet does not fit the limits or the slices do not fit, and then nothing is changed
  pub refused_exactly : ((number : ℕ) × (answer ≡ refused number)) ↔ (FitsLimits s → FitSlices s lent → ⊥)
  pub unchanged : (number : ℕ) → answer ≡ refused number → left ≡ lent

-- a search that `find` began and that was spent is taken up by a resumed call: over the words that it wrote, with the v
-- that counting answers and the record that goes with what it left
abbrev pub FindResumed : Type 0
FindResumed = (s : List ℕ) (lent : Slices) (m n : ℕ) (steps : Steps) → (finding s lent m).answer ≡ spent steps
    → m + n ≤ step_limit
    → let v = variable_total (sheet_of s) in
    let f = finding s lent m in
    resumption (take (word_total (sheet_of s)) f.left.list) v f.left.values f.left.trail
    (record_of v (searched_by f)) n
    ≡ with_record v (searched_by (finding s lent (m + n)))
