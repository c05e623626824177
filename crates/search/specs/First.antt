-- What is promised of "found" over any clause list (document 02, Change 5): the values that are left, with 3 taken as
-- 0, are the first satisfying assignment in variable order, 0 before 1.
use Rattle.std.specs.Prelude.{◌≡◌, List, [], map, ℕ, ◌≤◌, ℤ, take}
use Rattle.std.proofs.Math.Option.{some}
use Rattle.prelude.specs.Order.{NoneBefore}
use Rattle.clause_list.specs.ClauseList.{clauses_of, Satisfying}
use Rattle.search_rules.specs.declared.Steps.{Steps}
use Rattle.search_rules.specs.declared.Position.{Position}
use Rattle.search_rules.specs.Rules.{values_of, trail_of, settle}
use Rattle.search_rules.specs.Run.{after}
use Rattle.search_rules.specs.Held.{step_limit}
use Rattle.search.specs.Answers.{found, outcome}
use Rattle.search.specs.Resumed.{start_of, Resumption, resumption}
use Rattle.search.specs.Resuming.{start, Chain}

-- the bits that the first v values give
abbrev pub bits_of : ℕ → List ℕ → List ℕ
bits_of v values = map settle (take v values)

pub record First (v : ℕ) (clauses : List (List ℤ)) (a : List ℕ) : Type 0 where
  pub satisfying : Satisfying v clauses a
  pub none_before : NoneBefore (Satisfying v clauses) a

pub record FoundFirst : Type 0 where
  -- of a call from a fresh start
  pub searched : (list : List ℤ) (v : ℕ) (values : List ℕ) (trail : List ℤ) (budget : ℕ) (steps : Steps)
      → (outcome list v values trail budget).answer ≡ found steps
      → First v (clauses_of list) (bits_of v (outcome list v values trail budget).values)
  -- of a resumed call, where the rules reach its state from a fresh start after some number of steps
  pub resumed : (list : List ℤ) (v : ℕ) (values : List ℕ) (trail : List ℤ) (p : Position) (budget k : ℕ) (steps : Steps)
      → after (clauses_of list) v k [] ≡ some (start_of v values trail p)
      → (resumption list v values trail p budget).outcome.answer ≡ found steps
      → First v (clauses_of list) (bits_of v (resumption list v values trail p budget).outcome.values)
  -- of calls one after the other from a fresh start on, each but the last spent, n steps allowed in all
  pub chained : (list : List ℤ) (v : ℕ) (values : List ℕ) (trail : List ℤ) (n : ℕ) (r : Resumption) (steps : Steps)
      → take v values ≡ values_of v [] → take v trail ≡ trail_of v [] → n ≤ step_limit
      → Chain (resumption list v) values trail start n r
      → r.outcome.answer ≡ found steps
      → First v (clauses_of list) (bits_of v r.outcome.values)
