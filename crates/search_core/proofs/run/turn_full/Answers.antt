-- `search_core::run::turn_full` meets its contract. Assumes nothing.
use mathlib.Core.Path.{◌≡◌, sym, ◌∙◌, ap}
use mathlib.Core.Bool.{true}
use Prim.Native.Nat.{suc}
use native.Mathlib.Omega.{arith}
use lib.ListN.{length}
use Rattle.prelude.specs.Tests.{any}
use Rattle.search_rules.specs.Rules.{State, backtrack}
use Rattle.search_rules.specs.Run.{total}
use Rattle.search_rules.specs.Held.{steps_of, Stored}
use Rattle.search_rules.proofs.StepView.{total-count}
use Rattle.search_core.proofs.RunCode.{is_three}
use Rattle.search_core.proofs.NextCode.{Turns, some_turn, no-turn, turned, full-none, full-waits, full-goes}
use Rattle.search_core.proofs.run.turn_full.Goals as goal
use Rattle.search_core.proofs.run.turn_full.Lts as lts
use Rattle.search_core.proofs.run.turn_full.Tie as tie
use Rattle.search_core.proofs.run.turn_full.Reads as reads

abbrev At-After-run-arg2 : Type 0
At-After-run-arg2 = lts.After-run-arg2 tie.the-claims reads.Pre reads.Post tie.handed_clauses

abbrev At-Start : Type 0
At-Start = lts.Start tie.the-claims reads.Pre reads.Post tie.handed_clauses

pub returns-then-not-any_decision : goal.returns-then-not-any_decision
returns-then-not-any_decision c state i full =
    let t = c.if-not-any_decision.true in
    let s : At-Start = c.before.before.before.before.before.before.before.before.before.before.before in
    full-none _ _ state full s.args.start _ _ _ _ _ (no-turn _ state _ _ _ i (sym c.any_decision.ensures ∙ t))
    c.emptied-position.ensures
    (c.back_scanned.ensures state i)

pub returns-then-budget-eq0 : goal.returns-then-budget-eq0
returns-then-budget-eq0 c state i full =
    let t = some_turn _ state _ _ _ i (sym c.any_decision.ensures ∙ c.if-not-any_decision.false) in
    let s : At-Start = c.before.before.before.before in
    full-waits _ _ state full s.args.start _ t.0 _ _ t.1 c.if-budget-eq0.true i

-- the state that is turned to
module _ (c : At-After-run-arg2) where
  abbrev s : At-Start
  s = c.before.before.before.before.before.before.before.before.before.before.before.before.before

  some-decision : any is_three s.args.values.now ≡ true
  some-decision =
      sym c.any_decision.ensures
      ∙ c.if-not-any_decision.false

  goes_to : (state : State)
      → Stored (length s.args.values.now) state s.args.values.now s.args.trail.now s.args.start.length
      → Turns (length s.args.values.now) state c.advance-position.result.length
      c.back_scanned-n.new.values
      c.back_scanned-n.new.trail
  goes_to state i =
      turned _ state _ _ _ i _ _ _ _ _ some-decision c.advance-position.ensures
      (c.back_scanned-n.ensures state i)

  wide : length c.back_scanned-n.new.values ≡ length s.args.values.now
  wide = c.back_scanned-n.auto.values

  -- the turn is counted
  figure : total (steps_of c.advance-position.result) ≡ suc (total (steps_of s.args.start))
  figure = ap (λ p. total (steps_of p)) c.advance-position.ensures ∙ total-count backtrack (steps_of s.args.start)

pub run-requires : goal.run-requires
run-requires c =
    let p = (s c).requires in
    let t = goes_to c p.some_stored.state p.some_stored.stored in record {
      fine = rw (wide c) p.fine;
      values_len_bound = rw (wide c) p.values_len_bound;
      some_stored = record { state = t.to; stored = rw (wide c) t.stored };
      budget_bound = omega (arith, figure c, p.budget_bound, c.if-budget-eq0.false);
    }

pub returns : goal.returns
returns c state i full =
    let k = c.before.before.before.before.before in
    let t = goes_to k state i in
    let e = (rw (wide k) at c.run.ensures) t.to t.stored in
    rw (full-goes _ _ state full (s k).args.start _ c.advance-position.result _ t.to t.turns
    c.if-budget-eq0.false c.advance-position.ensures) at e
