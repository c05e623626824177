-- What a run over a list leaves where its answer is "found", from any state: for the call from a fresh start and for the resumed call alike.
use mathlib.Core.Path.{◌≡◌, sym, ◌∙◌, ap}
use mathlib.Core.Bool.{true}
use mathlib.Core.List.{List, [], ◌++◌, map}
use mathlib.Core.Option.{some}
use Prim.Native.Nat.{ℕ}
use lib.IntN.{ℤ}
use lib.ListN.{drop}
use Rattle.prelude.specs.Order.{NoneBefore}
use Rattle.clause_list.specs.ClauseList.{clauses_of, is_list, Satisfying}
use Rattle.search_rules.specs.declared.Steps.{Steps}
use Rattle.search_rules.specs.Rules.{State, values_of, settle}
use Rattle.search_rules.specs.Run.{End, was_found, run, after}
use Rattle.search_rules.proofs.Ranges.{Ranged, fine-list, ranged}
use Rattle.search_rules.proofs.Theorems as rules
use Rattle.search.specs.Answers.{found, values_at, Outcome, finish}
use Rattle.search.specs.First.{bits_of}
use Rattle.search.proofs.Outcomes.{was-found, found-values}

module _ (list : List ℤ) (v budget : ℕ) (done : Steps) (begin : State) (values : List ℕ) (trail : List ℤ) (is : is_list v list ≡ true)
    (out : Outcome) (ends : out ≡ finish v values trail (run (clauses_of list) v budget done begin))
    (steps : Steps) (answers : out.answer ≡ found steps) where
  abbrev end : End
  end = run (clauses_of list) v budget done begin

  in-range : Ranged v (clauses_of list)
  in-range = ranged v list (fine-list v list is)

  -- the state at the end
  was : (s : State) × (end ≡ was_found steps s)
  was = was-found end steps (sym (ap (λ o. o.answer) ends) ∙ answers)

  leaves : bits_of v out.values ≡ map settle (values_of v was.0)
  unfolding values_at
  leaves =
      ap (bits_of v) (ap (λ o. o.values) ends ∙ ap (λ x. values_at v x ++ drop v values) was.1)
      ∙ ap (map settle) (found-values v was.0 values)

  pub satisfies : Satisfying v (clauses_of list) (bits_of v out.values)
  satisfies = rw leaves (rules.found_satisfies (clauses_of list) v in-range budget done steps begin was.0 was.1)

  pub first : (k : ℕ) → after (clauses_of list) v k [] ≡ some begin → NoneBefore (Satisfying v (clauses_of list)) (bits_of v out.values)
  first k r = rw leaves (rules.found_first (clauses_of list) v in-range k budget done steps begin was.0 r was.1)
