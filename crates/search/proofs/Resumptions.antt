-- A call that takes up a state, case by case, whatever its run, and its end as the code has it.
use mathlib.Core.Path.{◌≡◌, refl, sym, ◌∙◌, ap}
use mathlib.Core.Bool.{Bool, true, false, not, cond, ◌&&◌}
use mathlib.Core.List.{List, ◌++◌}
use Prim.Native.Nat.{ℕ, ◌+◌, ◌<◌, ◌≤◌}
use lib.Dec.{leb}
use lib.IntN.{ℤ}
use lib.ListN.{length, take, drop, take-append-drop}
use borrow.Author.Tests.{le-leb, lt-leb, lt-ltb, le-ltb}
use Rattle.prelude.proofs.Laws.{and_both, and-not-left, and-not-right, or_left, or_right, or-rest}
use Rattle.refusal.specs.declared.Refusal.{Refusal}
use Rattle.refusal.specs.Refusals.{number_of}
use Rattle.clause_list.specs.ClauseList.{is_list}
use Rattle.search_rules.specs.Run.{total, End}
use Rattle.search_rules.specs.Held.{steps_of, no_state, step_limit}
use Rattle.std.specs.Prelude.{Err}
use Rattle.search_rules.specs.declared.Position.{Position}
use Rattle.search.specs.declared.answer.Resumed.{Resumed}
use Rattle.search.specs.Answers.{answer_of}
use Rattle.search.specs.Resumed.{Resumption, left, decline, finish_at, start_of, declines_state, Running, taken_up}
use Rattle.search.specs.Inner.{Finished}

module _ (running : Running) (list : List ℤ) (v : ℕ) (values : List ℕ) (trail : List ℤ) (p : Position) (budget : ℕ) where
  abbrev call : Resumption
  call = taken_up running list v values trail p budget

  abbrev long : Bool
  long = leb v (length values) && leb v (length trail)

  abbrev stopped : Bool
  stopped = declines_state v values trail p budget

  abbrev ended : Resumption
  ended = finish_at v values trail (running (steps_of p) (start_of v values trail p) budget)

  abbrev by_state : Bool → Resumption
  by_state d = cond d (decline 14 values trail p) ended

  abbrev by-room : Bool → Resumption → Resumption
  by-room c r = cond c r (decline 13 values trail p)

  by_tests : (b c d : Bool) → is_list v list ≡ b → long ≡ c → stopped ≡ d
      → call ≡ cond b (by-room c (by_state d)) (decline 12 values trail p)
  unfolding taken_up
  by_tests b c d q r s =
      ap (λ x. cond x (by-room long (by_state stopped)) (decline 12 values trail p)) q
      ∙ ap (λ x. cond b (by-room x (by_state stopped)) (decline 12 values trail p)) r
      ∙ ap (λ x. cond b (by-room c (by_state x)) (decline 12 values trail p)) s

  pub no-list : is_list v list ≡ false → call ≡ decline 12 values trail p
  no-list q = by_tests false long stopped q refl refl

  module _ (is : is_list v list ≡ true) where
    pub short-values : length values < v → call ≡ decline 13 values trail p
    short-values h = by_tests true false stopped is (and-not-left _ _ (lt-leb v (length values) h)) refl

    pub short-trail : length trail < v → call ≡ decline 13 values trail p
    short-trail h = by_tests true false stopped is (and-not-right (leb v (length values)) _ (lt-leb v (length trail) h)) refl

    module _ (wide : v ≤ length values) (deep : v ≤ length trail) where
      room : long ≡ true
      room = and_both _ _ (le-leb v (length values) wide) (le-leb v (length trail) deep)

      pub no-state : no_state v (take v values) (take v trail) p.length ≡ true → call ≡ decline 14 values trail p
      no-state h = by_tests true true true is room (or_left _ _ h)

      pub too_many_lem : step_limit < total (steps_of p) + budget → call ≡ decline 14 values trail p
      too_many_lem h = by_tests true true true is room (or_right (no_state v (take v values) (take v trail) p.length) _ (lt-ltb _ _ h))

      pub takes : stopped ≡ false → call ≡ ended
      takes h = by_tests true true false is room h

      pub runs : no_state v (take v values) (take v trail) p.length ≡ false → total (steps_of p) + budget ≤ step_limit → call ≡ ended
      runs h k = takes (or-rest _ _ h ∙ le-ltb _ _ k)

pub denied : (b : Bool) → not b ≡ false → b ≡ true
denied true e = refl
denied false e = sym e

pub granted : (b : Bool) → not b ≡ true → b ≡ false
granted true e = sym e
granted false e = refl

-- a refusal, as `resumed` ensures it
pub declines : (refusal : Refusal) (values : List ℕ) (trail : List ℤ) (p : Position) (r : Resumed) (o : Resumption)
    → r.answer ≡ Err refusal → r.position ≡ p → o ≡ decline (number_of refusal) values trail p
    → left (answer_of r.answer) values trail r.position ≡ o
declines refusal values trail p r o e q d = rw (e, q, d) refl

-- the same after the first n bytes and words were lent on, and came back as they were
pub declines-back : (n : ℕ) (refusal : Refusal) (values : List ℕ) (trail : List ℤ) (p : Position) (r : Resumed) (o : Resumption)
    → r.answer ≡ Err refusal → r.position ≡ p → o ≡ decline (number_of refusal) values trail p
    → left (answer_of r.answer) (take n values ++ drop n values) (take n trail ++ drop n trail) r.position ≡ o
declines-back n refusal values trail p r o e q d =
    rw (take-append-drop n values, take-append-drop n trail) (declines refusal values trail p r o e q d)

-- the end of a run, as `resumed` ensures it
pub finishes : (v : ℕ) (end : End) (r : Resumed) (values vs : List ℕ) (trail ts : List ℤ) (o : Resumption)
    → o ≡ finish_at v values trail end → Finished v end r vs ts
    → left (answer_of r.answer) (vs ++ drop v values) (ts ++ drop v trail) r.position ≡ o
finishes v end r values vs trail ts o e f = rw (e, f.answer_is, f.values_are, f.trail_is, f.position_is) refl
