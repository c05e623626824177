-- What is promised of resumed calls (document 02, Changes 1 and 3): a fresh start, a chain of calls that comes to one,
-- and each counter.
use Rattle.std.specs.Prelude.{◌≡◌, cond, List, [], ◌∷◌, ℕ, suc, ◌+◌, ◌≤◌, eqb, ℤ, nat_abs, take}
use Rattle.std.proofs.Math.Option.{none, some}
use Rattle.clause_list.specs.ClauseList.{clauses_of}
use Rattle.search_rules.specs.declared.Steps.{Steps}
use Rattle.search_rules.specs.declared.Position.{Position}
use Rattle.search_rules.specs.Rules.{Kind, values_of, trail_of}
use Rattle.search_rules.specs.Run.{total}
use Rattle.search_rules.specs.Held.{steps_of, position_of, step_limit}
use Rattle.search_rules.specs.Counting.{counter, kinds_taken, of_kind}
use Rattle.search.specs.Answers.{spent, steps_in, Outcome, outcome}
use Rattle.search.specs.Resumed.{start_of, Resumption, resumption}

-- "A record of zeros"
abbrev pub start : Position
start = record { length = 0; propagations = 0; decisions = 0; backtracks = 0 }

-- the words of a trail ahead of its first 0
unfoldable pub trail_length : List ℤ → ℕ
trail_length [] = 0
trail_length (l ∷ trail) = cond (eqb (nat_abs l) 0) 0 (suc (trail_length trail))

-- the record of "its trail length and the steps done so far" that goes with what `search` answers and leaves: the words
-- of its trail, and the counters of its answer
abbrev pub record_of : ℕ → Outcome → Position
record_of v o =
    elim (steps_in o.answer)
    [ none ↦ start | some steps ↦ position_of (trail_length (take v o.trail)) steps ]

abbrev pub with_record : ℕ → Outcome → Resumption
with_record v o = record { outcome = o; position = record_of v o }

-- "A record of zeros over open slices is a fresh start": it answers and leaves what `search` does, and the record that
-- goes with that
abbrev pub FreshStart : Type 0
FreshStart = (list : List ℤ) (v : ℕ) (values : List ℕ) (trail : List ℤ) (budget : ℕ)
    → take v values ≡ values_of v [] → take v trail ≡ trail_of v [] → budget ≤ step_limit
    → resumption list v values trail start budget ≡ with_record v (outcome list v values trail budget)

-- so a search that was begun by `search`, whatever the slices held, is taken up by a resumed call with that record
abbrev pub SearchResumed : Type 0
SearchResumed = (list : List ℤ) (v : ℕ) (values : List ℕ) (trail : List ℤ) (m n : ℕ) (steps : Steps)
    → (outcome list v values trail m).answer ≡ spent steps → m + n ≤ step_limit
    → let o = outcome list v values trail m in
    resumption list v o.values o.trail (record_of v o) n ≡ with_record v (outcome list v values trail (m + n))

-- calls of one kind over one list and v, from slices and a record on: each but the last is spent, and the next takes up
-- what it left; n steps are allowed in all, and the last call comes to r
pub data Chain (call : List ℕ → List ℤ → Position → ℕ → Resumption) : List ℕ → List ℤ → Position → ℕ → Resumption
    → Type 0 where
  last : {values : List ℕ} {trail : List ℤ} {p : Position} (n : ℕ) → Chain call values trail p n (call values trail p n)
  spends : {values : List ℕ} {trail : List ℤ} {p : Position} {n : ℕ} {steps : Steps} {r : Resumption} (m : ℕ)
      → (call values trail p m).outcome.answer ≡ spent steps
      → Chain call (call values trail p m).outcome.values (call values trail p m).outcome.trail
      (call values trail p m).position n r
      → Chain call values trail p (m + n) r

-- "A search that was spent after m steps and is allowed n more gives the same end, state and step figure as one allowed
-- m + n from the start, provided the clause list and v are the same and record and slices are those the search left":
-- and so for any number of calls
abbrev pub ComesToOne : (List ℕ → List ℤ → Position → ℕ → Resumption) → Type 0
ComesToOne call = (values : List ℕ) (trail : List ℤ) (p : Position) (n : ℕ) (r : Resumption)
    → Chain call values trail p n r
    → total (steps_of p) + n ≤ step_limit → r ≡ call values trail p n

-- resumed calls do: "the sameness in Change 1" is "meant for runs without such a clash" as a call for the next makes of
-- a full assignment (document 02, Change 6), and in a chain of resumed calls there is none
abbrev pub SameAsOne : Type 0
SameAsOne = (list : List ℤ) (v : ℕ) → ComesToOne (resumption list v)

-- "Each counter equals the one handed in (0 at the start) plus the steps of its kind that the rules' run takes in the
-- call": of a call from the start, and of a resumed call, whose record has the answer's counters
pub record EachCounter : Type 0 where
  pub searched : (list : List ℤ) (v : ℕ) (values : List ℕ) (trail : List ℤ) (budget : ℕ) (steps : Steps)
      → steps_in (outcome list v values trail budget).answer ≡ some steps
      → (kind : Kind) → counter kind steps ≡ of_kind kind (kinds_taken (clauses_of list) v budget [])
  pub resumed : (list : List ℤ) (v : ℕ) (values : List ℕ) (trail : List ℤ) (p : Position) (budget : ℕ) (steps : Steps)
      → steps_in (resumption list v values trail p budget).outcome.answer ≡ some steps
      → (kind : Kind)
      → counter kind steps
      ≡ counter kind (steps_of p) + of_kind kind (kinds_taken (clauses_of list) v budget (start_of v values trail p))
  pub recorded : (list : List ℤ) (v : ℕ) (values : List ℕ) (trail : List ℤ) (p : Position) (budget : ℕ) (steps : Steps)
      → steps_in (resumption list v values trail p budget).outcome.answer ≡ some steps
      → steps_of (resumption list v values trail p budget).position ≡ steps
