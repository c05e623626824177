-- `search::taken_up` meets its contract: 12, 13 and 14, and then the run.
use Rattle.std.proofs.Common.{◌≡◌, ◌∙◌, ℕ, ◌+◌, ◌<◌, ◌≤◌, Bool, true, false, not, List, length, take, sym, length-take-le, arith}
use borrow.Author.Tests.{ltb-true, ltb-false}
use Rattle.clause_list.proofs.Laws.{list-most-variables}
use Rattle.search_rules.specs.declared.Steps.{Steps}
use Rattle.search_rules.specs.Run.{total}
use Rattle.search_rules.specs.Held.{step_limit, too_many}
use Rattle.search_rules.proofs.StateHeld.{holds-state}
use Rattle.search_rules.proofs.Ranges.{fine-list}
use Rattle.search.specs.Resumed.{start_of}
use Rattle.refusal.specs.declared.Refusal.TheVariants as refusal
use Rattle.search.proofs.Resumptions.{no-list, short-values, short-trail, no-state, too_many_lem, runs, denied, granted}
use Rattle.search.proofs.Resumptions.{declines, declines-back, finishes}
use Rattle.search.proofs.taken_up.Goals as goal

-- what the test of the steps says
more : (done : Steps) (allowed : ℕ) → too_many done allowed ≡ true → step_limit < total done + allowed
more done allowed e = ltb-true _ _ e

fewer : (done : Steps) (allowed : ℕ) → too_many done allowed ≡ false → total done + allowed ≤ step_limit
fewer done allowed e = ltb-false _ _ e

pub returns-then-not-is_list : goal.returns-then-not-is_list
returns-then-not-is_list c =
    declines refusal.List _ _ _ _ _ c.refused.ensures.0 c.refused.ensures.1
    (no-list _ _ _ _ _ _ _ (sym c.is_list.ensures ∙ c.if-not-is_list.true))

pub returns-then-values-n : goal.returns-then-values-n
returns-then-values-n c =
    declines refusal.Short _ _ _ _ _ c.refused-then-values-n.ensures.0 c.refused-then-values-n.ensures.1
    (short-values _ _ _ _ _ _ _ (sym c.is_list.ensures ∙ c.if-not-is_list.false) c.if-values-n.true)

pub returns-then-trail-n : goal.returns-then-trail-n
returns-then-trail-n c =
    declines refusal.Short _ _ _ _ _ c.refused-then-trail-n.ensures.0 c.refused-then-trail-n.ensures.1
    (short-trail _ _ _ _ _ _ _ (sym c.is_list.ensures ∙ c.if-not-is_list.false) c.if-trail-n.true)

pub is_state-requires : goal.is_state-requires
is_state-requires c =
    let w = length-take-le c.args.v c.args.values.now c.if-values-n.false in record {
      values_len_bound = rw w (omega (arith, list-most-variables _ _ (sym c.is_list.ensures ∙ c.if-not-is_list.false)));
      trail_len = length-take-le c.args.v c.args.trail.now c.if-trail-n.false ∙ sym w;
    }

pub returns-then-not-is_state : goal.returns-then-not-is_state
returns-then-not-is_state c =
    let w = length-take-le c.args.v c.args.values.now c.if-values-n.false in
    let d = denied _ (sym (rw w at c.is_state.ensures) ∙ c.if-not-is_state.true) in
    declines-back c.args.v refusal.State _ _ _ _ _ c.refused-then-not-is_state.ensures.0 c.refused-then-not-is_state.ensures.1
    (no-state _ _ _ _ _ _ _ (sym c.is_list.ensures ∙ c.if-not-is_list.false) c.if-values-n.false c.if-trail-n.false d)

pub returns-then-too_many : goal.returns-then-too_many
returns-then-too_many c =
    declines-back c.args.v refusal.State _ _ _ _ _ c.refused-then-too_many.ensures.0 c.refused-then-too_many.ensures.1
    (too_many_lem _ _ _ _ _ _ _ (sym c.is_list.ensures ∙ c.if-not-is_list.false) c.if-values-n.false c.if-trail-n.false
    (omega (arith, more _ _ (sym c.too_many.ensures ∙ c.if-too_many.true))))

pub go_on-requires : goal.go_on-requires
go_on-requires c =
    let l = sym c.is_list.ensures ∙ c.if-not-is_list.false in
    let w = length-take-le c.args.v c.args.values.now c.if-values-n.false in
    let t = granted _ (sym (rw w at c.is_state.ensures) ∙ c.if-not-is_state.false) in record {
      fine = rw w (fine-list _ _ l);
      values_len_bound = rw w (omega (arith, list-most-variables _ _ l));
      some_stored = record {
        state = start_of c.args.v c.args.values.now c.args.trail.now c.args.position;
        stored = rw w (holds-state _ _ _ _ t w (length-take-le c.args.v c.args.trail.now c.if-trail-n.false));
      };
      budget_bound = omega (arith, fewer _ _ (sym c.too_many.ensures ∙ c.if-too_many.false));
    }

pub returns : goal.returns
returns c =
    let l = sym c.is_list.ensures ∙ c.if-not-is_list.false in
    let w = length-take-le c.args.v c.args.values.now c.if-values-n.false in
    let t = granted _ (sym (rw w at c.is_state.ensures) ∙ c.if-not-is_state.false) in
    finishes _ _ _ _ _ _ _ _
    (runs _ _ _ _ _ _ _ l c.if-values-n.false c.if-trail-n.false t
    (omega (arith, fewer _ _ (sym c.too_many.ensures ∙ c.if-too_many.false))))
    ((rw w at c.go_on.ensures) _ (holds-state _ _ _ _ t w (length-take-le c.args.v c.args.trail.now c.if-trail-n.false)))
