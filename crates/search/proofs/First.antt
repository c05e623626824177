-- "found" leaves the first satisfying assignment, from a fresh start and where resumed calls go back to one.
use mathlib.Core.Path.{◌≡◌, sym, ap, ◌∙◌, subst}
use mathlib.Core.List.{List, []}
use mathlib.Core.Option.{some}
use Prim.Native.Nat.{ℕ, ◌≤◌}
use lib.IntN.{ℤ}
use lib.ListN.{take}
use Rattle.clause_list.specs.ClauseList.{clauses_of}
use Rattle.search_rules.specs.declared.Steps.{Steps}
use Rattle.search_rules.specs.declared.Position.{Position}
use Rattle.search_rules.specs.Rules.{values_of, trail_of}
use Rattle.search_rules.specs.Run.{after}
use Rattle.search_rules.specs.Held.{step_limit}
use Rattle.search.specs.Answers.{found, Outcome, outcome}
use Rattle.search.specs.Resumed.{start_of, Resumption, resumption}
use Rattle.search.specs.Resuming.{start, Chain}
use Rattle.search.specs.First.{bits_of, First, FoundFirst}
use Rattle.search.proofs.Theorems as once
use Rattle.search.proofs.ResumedTheorems as again
use Rattle.search.proofs.Resuming.{none_done, fresh_start, same_as_one}

module _ (list : List ℤ) (v : ℕ) (values : List ℕ) (trail : List ℤ) where
  abbrev Left : Outcome → Type 0
  Left o = First v (clauses_of list) (bits_of v o.values)

  once-first : (budget : ℕ) (steps : Steps) → (outcome list v values trail budget).answer ≡ found steps → Left (outcome list v values trail budget)
  once-first budget steps e =
      record {
        satisfying = once.found_satisfies list v values trail budget steps e;
        none_before = once.found_first list v values trail budget steps e;
      }

  again-first : (p : Position) (budget k : ℕ) (steps : Steps) → after (clauses_of list) v k [] ≡ some (start_of v values trail p)
      → (resumption list v values trail p budget).outcome.answer ≡ found steps → Left (resumption list v values trail p budget).outcome
  again-first p budget k steps r e =
      record {
        satisfying = again.found_satisfies list v values trail p budget steps e;
        none_before = again.found_first list v values trail p budget k steps r e;
      }

  -- a chain of calls from a fresh start comes to one call
  chain_first : (n : ℕ) (r : Resumption) (steps : Steps) → take v values ≡ values_of v [] → take v trail ≡ trail_of v [] → n ≤ step_limit
      → Chain (resumption list v) values trail start n r → r.outcome.answer ≡ found steps → Left r.outcome
  chain_first n r steps opened emptied few chain e =
      let as_one : outcome list v values trail n ≡ r.outcome =
      sym
      (ap (λ x. x.outcome)
      (same_as_one list v values trail start n r chain (none_done n few)
      ∙ fresh_start list v values trail n opened emptied few)) in
      subst Left as_one (once-first n steps (ap (λ o. o.answer) as_one ∙ e))

pub found_first : FoundFirst
found_first = record { searched = once-first; resumed = again-first; chained = chain_first }
