-- Demand 3, undivided: what the answers of counting, writing, search and read-back of a sheet say of its instances
-- (document 01, "The words of demand 3"; document 02, Change 1, for resumed calls, Change 5 for the smallest case and
-- Change 6 for every case). proofs/Demand3.antt shows it for every sheet that fits the limits, in slices that fit.
--
-- The statement speaks of definitions. The contract that ties each one to the code, for every input and with no
-- `requires`:
--   `reading`                          `sheet::read`: its answer equals it
--   `count_answer`                      `clauses::count`: its answer equals it
--   `write_answer`, `list_after`         `clauses::write`: its answer, and the lent list afterwards, equal them
--   `outcome`                          `search::search`: its answer, values and trail afterwards equal its fields
--   `resumption`, `following`          `search::resume`, `search::next`: so do answer, values, trail and record
--   `read_back_answer`, `instance_after`  `solve::read_back`: its answer, and the lent instance afterwards, equal them
--   `finding`                          `solve::find`: its answer, and all lent slices afterwards, equal its fields
-- `Solution` (an instance within the scopes that satisfies marks and formula), `Satisfying`, `EndedWithin` and
-- `FollowingEnded` are no code's answer: they are the paper's words, in relational/specs/Meaning,
-- clause_list/specs/ClauseList, search_rules/specs/Run and search_rules/specs/Following; `Reached`
-- (search_rules/specs/Reached) has the states of mixed runs.
use Rattle.std.specs.Prelude.{◌≡◌, false, ◌↔◌, List, [], ◌++◌, ℕ, ◌+◌, ◌^◌, ◌≤◌, ℤ, length, take, drop}
use Rattle.std.proofs.Math.Option.{some}
use Rattle.prelude.specs.Order.{Some}
use Rattle.clause_list.specs.ClauseList.{clauses_of, Satisfying}
use Rattle.sheet_rules.specs.declared.Layout.{Layout}
use Rattle.sheet_rules.specs.Blocks.{sheet_of}
use Rattle.sheet_rules.specs.Reading as sheets
use Rattle.sheet_rules.specs.Reading.{reading}
use Rattle.relational.specs.Cells.{cell_count}
use Rattle.clauses_rules.specs.Whole.{words, variable_total, word_total}
use Rattle.clauses_rules.specs.Matching.{ReadBackOnce}
use Rattle.relational.specs.Meaning.{Solution}
use Rattle.clauses.specs.Answers.{fits, count_answer, write_answer, list_after}
use Rattle.search_rules.specs.declared.Steps.{Steps}
use Rattle.search_rules.specs.declared.Position.{Position}
use Rattle.search_rules.specs.Rules.{State}
use Rattle.search_rules.specs.Run.{total, after, EndedWithin}
use Rattle.search_rules.specs.Held.{steps_of, step_limit}
use Rattle.search_rules.specs.Following.{FollowingEnded}
use Rattle.search.specs.Answers.{Outcome, found, none, spent, refused, outcome}
use Rattle.search.specs.Resumed.{start_of, declines_state}
use Rattle.search.specs.Resuming.{with_record}
use Rattle.search.specs.Following.{OpenOrFalse}
use Rattle.search.specs.Every.{Standing, left_by, next_call, resumed_call, Stands, EveryCall}
use Rattle.solve_rules.specs.Answers.{copied, read_back_answer, instance_after}
use Rattle.solve_rules.specs.Finding.{Slices, finding, searched_by}
use Rattle.solve_rules.specs.Smallest.{Smallest}

-- "A sheet is accepted when none of 1 to 9 below applies to it. Its clauses fit the limits when neither 10 nor the word
-- limit in 12 applies"
pub record FitsLimits (s : List ℕ) : Type 0 where
  pub layout : Layout
  pub accepted : reading s ≡ sheets.accepted layout
  pub few_variables : variable_total (sheet_of s) ≤ 16000
  pub few_words : word_total (sheet_of s) ≤ 2147483647

-- "and the lent slices when writing, search and read-back don't meet 13"
pub record FitSlices (s : List ℕ) (lent : Slices) : Type 0 where
  pub list : word_total (sheet_of s) ≤ length lent.list
  pub values : variable_total (sheet_of s) ≤ length lent.values
  pub trail : variable_total (sheet_of s) ≤ length lent.trail
  pub instance : cell_count (sheet_of s) ≤ length lent.instance

-- read-back of the sheet with these values answers this instance: it copies it to the front of the slice that is lent
pub record ReadsBack (s values lent instance : List ℕ) : Type 0 where
  pub answer : read_back_answer s values lent ≡ copied (length instance)
  pub copies : instance_after s values lent ≡ instance ++ drop (length instance) lent

-- with these values read-back answers an instance within the scopes that satisfies marks and formula
pub record ReadsSolution (s values lent : List ℕ) : Type 0 where
  pub instance : List ℕ
  pub reads : ReadsBack s values lent instance
  pub solves : Solution (sheet_of s) instance

-- no instance within the scopes that satisfies marks and formula comes before the one that read-back answers with these
-- values
abbrev pub ReadsSmallest : (s values lent : List ℕ) → Type 0
ReadsSmallest s values lent = (instance : List ℕ) → ReadsBack s values lent instance → Smallest (sheet_of s) instance

-- the calls on a sheet of which counting answers v variables and w words
module _ (s : List ℕ) (lent : Slices) (v w : ℕ) where
  -- "The clauses are the whole list that the clause rules give, as written": the first w words that writing leaves
  abbrev pub written : List ℤ
  written = take w (list_after s lent.list)

  -- read-back in the slice that is lent
  abbrev pub Reads : List ℕ → List ℕ → Type 0
  Reads values instance = ReadsBack s values lent.instance instance

  -- "which the search gets unchanged and with the v that counting answers"
  abbrev pub searched : ℕ → Outcome
  searched n = outcome written v lent.values lent.trail n

  -- the lent values and trail with a record, and the state that slices and a record hold
  abbrev pub lent_at : Position → Standing
  lent_at p = record { values = lent.values; trail = lent.trail; position = p }

  abbrev pub state_at : Standing → State
  state_at at = start_of v at.values at.trail at.position

  abbrev pub begin : Position → State
  begin p = state_at (lent_at p)

  -- "where the run goes back to a fresh start over the same list", and "without such a clash" as a call for the next
  -- makes of a found assignment (document 02, Change 6): the step rules alone reach the state from all open
  pub record GoesBack (at : Standing) : Type 0 where
    pub steps : ℕ
    pub reached : after (clauses_of written) v steps [] ≡ some (state_at at)

  -- what the search's answer within n steps says
  pub record Answered (n : ℕ) : Type 0 where
    -- it is no refusal
    pub taken : (number : ℕ) → (searched n).answer ≡ refused number → ⊥
    -- "none" only if no such instance exists
    pub none_only : (steps : Steps) → (searched n).answer ≡ none steps → (instance : List ℕ)
        → Solution (sheet_of s) instance → ⊥
    -- "found" only with values that read back to one
    pub found_only : (steps : Steps) → (searched n).answer ≡ found steps
        → ReadsSolution s (take v (searched n).values) lent.instance
    -- "Whenever the finder prints a case, no instance that satisfies marks and formula comes earlier in that order."
    pub found_first : (steps : Steps) → (searched n).answer ≡ found steps
        → ReadsSmallest s (take v (searched n).values) lent.instance
    -- "spent" exactly when the step rules have not ended within n steps from the call's start, all open
    pub spent_exactly : ((steps : Steps) × ((searched n).answer ≡ spent steps))
        ↔ (EndedWithin (clauses_of written) v n [] → ⊥)
    -- what it leaves, with the record that goes with it, goes back to a fresh start
    pub goes_back : GoesBack (left_by (with_record v (searched n)))

  -- and with such clashes: steps and clashes reach the state, with the instances that read-back answered at the
  -- "found"s
  abbrev pub Found : List (List ℕ) → Standing → Type 0
  Found instances at = Stands written v Reads instances at

  -- the same list and v, the lent values and trail, and a record: the search is taken up again
  abbrev pub resumed : Position → ℕ → Outcome
  resumed p n = (resumed_call written v (lent_at p) n).outcome

  -- what the answer of a resumed call within n steps says; "of a call that 14 declines it says nothing"
  pub record ResumedAnswered (p : Position) (n : ℕ) : Type 0 where
    -- "none" only if no such instance exists, where the run goes back to a fresh start
    pub none_only : GoesBack (lent_at p) → (steps : Steps) → (resumed p n).answer ≡ none steps
        → (instance : List ℕ) → Solution (sheet_of s) instance → ⊥
    -- behind a clash: "no instance is left beyond those given"
    pub all_found : (instances : List (List ℕ)) → Found instances (lent_at p) → (steps : Steps)
        → (resumed p n).answer ≡ none steps
        → (instance : List ℕ) → Solution (sheet_of s) instance → Some (λ i. i ≡ instance) instances
    -- "found" only with values that read back to one, from any state
    pub found_only : (steps : Steps) → (resumed p n).answer ≡ found steps
        → ReadsSolution s (take v (resumed p n).values) lent.instance
    -- and no such instance comes before that one, where the run goes back to a fresh start
    pub found_first : GoesBack (lent_at p) → (steps : Steps) → (resumed p n).answer ≡ found steps
        → ReadsSmallest s (take v (resumed p n).values) lent.instance
    -- whatever the answer, what is left goes back again
    pub goes_back_on : GoesBack (lent_at p) → GoesBack (left_by (resumed_call written v (lent_at p) n))
    -- where 14 does not decline it is no refusal, and
    pub taken : declines_state v lent.values lent.trail p n ≡ false → (number : ℕ)
        → (resumed p n).answer ≡ refused number → ⊥
    -- "spent" exactly when the step rules have not ended within n steps from the state the call starts in
    pub spent_exactly : declines_state v lent.values lent.trail p n ≡ false
        → ((steps : Steps) × ((resumed p n).answer ≡ spent steps)) ↔ (EndedWithin (clauses_of written) v n (begin p) → ⊥)

  -- a call for the next on them
  abbrev pub followed : Position → ℕ → Outcome
  followed p n = (next_call written v (lent_at p) n).outcome

  -- what the answer of a call for the next within n steps says, whatever the state; what "none" says behind a clash is
  -- below
  pub record FollowedAnswered (p : Position) (n : ℕ) : Type 0 where
    -- "none" only if no such instance exists, where the run goes back to a fresh start and the call makes no clash
    pub none_only : GoesBack (lent_at p) → OpenOrFalse written v (take v lent.values) → (steps : Steps)
        → (followed p n).answer ≡ none steps
        → (instance : List ℕ) → Solution (sheet_of s) instance → ⊥
    -- "found" only with values that read back to an instance that satisfies marks and formula
    pub found_only : (steps : Steps) → (followed p n).answer ≡ found steps
        → ReadsSolution s (take v (followed p n).values) lent.instance
    -- where 14 does not decline it is no refusal, and
    pub taken : declines_state v lent.values lent.trail p n ≡ false → (number : ℕ)
        → (followed p n).answer ≡ refused number → ⊥
    -- "spent" exactly when the step rules, with the clash, have not ended within n steps
    pub spent_exactly : declines_state v lent.values lent.trail p n ≡ false
        → ((steps : Steps) × ((followed p n).answer ≡ spent steps))
        ↔ (FollowingEnded (clauses_of written) v n (begin p) → ⊥)

  -- "the calls, repeated until "none" with enough budget, give each satisfying instance of the sheet exactly once, in
  -- the ascending order of Change 5": where a search stands, with the instances found
  pub record EveryCase (instances : List (List ℕ)) (at : Standing) : Type 0 where
    -- there are at most 2^c, for c cells
    pub few : length instances ≤ 2 ^ cell_count (sheet_of s)
    -- a further call is no refusal as long as the steps can be counted, it is "spent" exactly when the step rules, with
    -- the clash, have not ended within n steps, and within some number of steps they have
    pub taken : (n : ℕ) → total (steps_of at.position) + n ≤ step_limit → (number : ℕ)
        → (next_call written v at n).outcome.answer ≡ refused number → ⊥
    pub spent_exactly : (n : ℕ) → total (steps_of at.position) + n ≤ step_limit
        → ((steps : Steps) × ((next_call written v at n).outcome.answer ≡ spent steps)) ↔
        (FollowingEnded (clauses_of written) v n (state_at at) → ⊥)
    pub ends : (n : ℕ) × FollowingEnded (clauses_of written) v n (state_at at)

-- what is demanded of a sheet and of the slices that are lent
pub record Demanded (s : List ℕ) (lent : Slices) : Type 0 where
  -- what counting answers, and writing too
  pub v : ℕ
  pub c : ℕ
  pub w : ℕ
  pub counted : count_answer s ≡ fits v c w
  pub wrote : write_answer s lent.list ≡ fits v c w
  pub whole : written s lent v w ≡ words (sheet_of s)
  -- (a) every instance within the scopes that satisfies marks and formula is read back from exactly one satisfying
  -- assignment
  pub once : (instance : List ℕ) → Solution (sheet_of s) instance
      → ReadBackOnce (Satisfying v (clauses_of (written s lent v w))) (Reads s lent v w) instance
  -- (b) every satisfying assignment reads back to such an instance
  pub reads : (a : List ℕ) → Satisfying v (clauses_of (written s lent v w)) a → ReadsSolution s a lent.instance
  -- (c) for every number of steps, what the search answers, and that `find` leaves the same list, answer, values and
  -- trail
  pub answers : (n : ℕ) → Answered s lent v w n
  pub finds : (n : ℕ) → ((finding s lent n).left.list ≡ list_after s lent.list)
      × (searched_by (finding s lent n) ≡ searched s lent v w n)
  -- and for every record, what a resumed call answers
  pub resumes : (p : Position) (n : ℕ) → ResumedAnswered s lent v w p n
  -- and a call for the next
  pub follows : (p : Position) (n : ℕ) → FollowedAnswered s lent v w p n
  -- and what calls give one after another, whichever calls take the steps: the instances that satisfy, and no others
  pub every_call : EveryCall (written s lent v w) v (Reads s lent v w) (Solution (sheet_of s))
  pub every_case : (instances : List (List ℕ)) (at : Standing) → Found s lent v w instances at
      → EveryCase s lent v w instances at

-- for every accepted sheet whose clauses fit the limits, and all lent slices that fit
abbrev pub Demand3 : Type 0
Demand3 = (s : List ℕ) (lent : Slices) → FitsLimits s → FitSlices s lent → Demanded s lent
