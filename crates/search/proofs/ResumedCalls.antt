-- A call that takes up a state is refused, or runs from the state that is held.
use mathlib.Core.Path.{◌≡◌, refl, sym, ◌∙◌, ap}
use mathlib.Core.Bool.{Bool, true, false, ◌&&◌}
use mathlib.Core.Logic.{◌⊎◌, inl, inr, ⊎_elim}
use mathlib.Core.List.{List}
use Prim.Native.Nat.{ℕ, ◌+◌, ◌≤◌}
use lib.Dec.{leb}
use lib.IntN.{ℤ}
use lib.ListN.{length, take}
use lib.Seq.{length-take-le}
use borrow.Author.Tests.{leb-true, leb-false, ltb-true, ltb-false}
use Rattle.prelude.proofs.Laws.{and_left, and_right}
use Rattle.clause_list.specs.ClauseList.{is_list}
use Rattle.search_rules.specs.Rules.{State}
use Rattle.search_rules.specs.Run.{total}
use Rattle.search_rules.specs.Held.{steps_of, no_state, step_limit, too_many, Stored}
use Rattle.search_rules.proofs.Booleans.{or-false}
use Rattle.search_rules.proofs.StateHeld.{holds-state}
use Rattle.search_rules.specs.declared.Position.{Position}
use Rattle.search.specs.Answers.{Answer, refused, answer_at}
use Rattle.search.specs.Resumed.{decline, finish_at, start_of, declines_state, Running, taken_up}
use Rattle.search.proofs.Resumptions.{no-list, short-values, short-trail, no-state, too_many_lem, runs}

module _ (running : Running) (list : List ℤ) (v : ℕ) (values : List ℕ) (trail : List ℤ) (p : Position) (budget : ℕ) where
  abbrev pub begin : State
  begin = start_of v values trail p

  pub record Runs : Type 0 where
    pub is_list_ok : is_list v list ≡ true
    pub wide : v ≤ length values
    pub deep : v ≤ length trail
    pub holds : no_state v (take v values) (take v trail) p.length ≡ false
    pub few : total (steps_of p) + budget ≤ step_limit
    pub ends : taken_up running list v values trail p budget ≡ finish_at v values trail (running (steps_of p) begin budget)

  abbrev Called : Type 0
  Called = ((n : ℕ) × (taken_up running list v values trail p budget ≡ decline n values trail p)) ⊎ Runs

  pub called : Called
  called =
      by (is_list v list) (leb v (length values)) (leb v (length trail)) (no_state v (take v values) (take v trail) p.length)
      (too_many (steps_of p) budget) refl refl refl refl refl
    where
      by : (a b c d e : Bool) → is_list v list ≡ a → leb v (length values) ≡ b → leb v (length trail) ≡ c
          → no_state v (take v values) (take v trail) p.length ≡ d → too_many (steps_of p) budget ≡ e → Called
      by false b c d e f g h i j = inl (12, no-list running list v values trail p budget f)
      by true false c d e f g h i j = inl (13, short-values running list v values trail p budget f (leb-false _ _ g))
      by true true false d e f g h i j = inl (13, short-trail running list v values trail p budget f (leb-false _ _ h))
      by true true true true e f g h i j = inl (14, no-state running list v values trail p budget f (leb-true _ _ g) (leb-true _ _ h) i)
      by true true true false true f g h i j = inl (
        14,
        too_many_lem running list v values trail p budget f (leb-true _ _ g) (leb-true _ _ h)
            (ltb-true _ _ j),
      )
      by true true true false false f g h i j = inr (record {
        is_list_ok = f;
        wide = leb-true _ _ g;
        deep = leb-true _ _ h;
        holds = i;
        few = ltb-false _ _ j;
        ends = runs running list v values trail p budget f (leb-true _ _ g) (leb-true _ _ h) i (ltb-false _ _ j);
      })

  -- the state that is held
  pub held : (r : Runs) → Stored v begin (take v values) (take v trail) p.length
  held r = holds-state v _ _ _ r.holds (length-take-le _ _ r.wide) (length-take-le _ _ r.deep)

  -- an answer that is no refusal is that of the run
  pub answered : (a : Answer) → ((n : ℕ) → refused n ≡ a → ⊥) → (taken_up running list v values trail p budget).outcome.answer ≡ a
      → Runs × (answer_at (running (steps_of p) begin budget) ≡ a)
  answered a h e =
      ⊎_elim (λ c. absurd (h c.0 (sym (ap (λ o. o.outcome.answer) c.1) ∙ e)))
      (λ r. (r, sym (ap (λ o. o.outcome.answer) r.ends) ∙ e)) called

-- two kinds of calls that run alike from a state that is held come to the same
module _ (running other : Running) (list : List ℤ) (v : ℕ) (values : List ℕ) (trail : List ℤ) (p : Position) (budget : ℕ) where
  refused-alike : (a b c : Bool) → is_list v list ≡ a → (leb v (length values) && leb v (length trail)) ≡ b → declines_state v values trail p budget ≡ c
      → (Runs running list v values trail p budget
      → running (steps_of p) (start_of v values trail p) budget ≡ other (steps_of p) (start_of v values trail p) budget)
      → taken_up running list v values trail p budget ≡ taken_up other list v values trail p budget
  unfolding taken_up
  refused-alike false b c d e f h = rw d refl
  refused-alike true false c d e f h = rw (d, e) refl
  refused-alike true true true d e f h = rw (d, e, f) refl
  refused-alike true true false d e f h =
      let w = leb-true _ _ (and_left _ _ e) in
      let l = leb-true _ _ (and_right (leb v (length values)) _ e) in
      let n = or-false (no_state v (take v values) (take v trail) p.length) _ f in
      let k = ltb-false _ _ n.1 in
      let r : Runs running list v values trail p budget =
      record { is_list_ok = d; wide = w; deep = l; holds = n.0; few = k; ends = runs running list v values trail p budget d w l n.0 k } in
      rw (d, e, f) (ap (finish_at v values trail) (h r))

  pub alike : (Runs running list v values trail p budget
      → running (steps_of p) (start_of v values trail p) budget ≡ other (steps_of p) (start_of v values trail p) budget)
      → taken_up running list v values trail p budget ≡ taken_up other list v values trail p budget
  alike h =
      refused-alike (is_list v list) (leb v (length values) && leb v (length trail)) (declines_state v values trail p budget) refl refl refl h
