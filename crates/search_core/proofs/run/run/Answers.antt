-- `search_core::run::run` meets its contract. Assumes nothing.
use mathlib.Core.Path.{◌≡◌, sym, ◌∙◌}
use Prim.Native.Nat.{ℕ, ◌≤◌}
use native.Mathlib.Omega.{arith}
use lib.ListN.{length}
use Rattle.clause_list.specs.ClauseList.{clauses_of}
use Rattle.search_rules.specs.Rules.{State}
use Rattle.search_rules.specs.Run.{run}
use Rattle.search_rules.specs.Held.{steps_of, Stored}
use Rattle.search_core.specs.declared.run.End.TheVariants.{Spent}
use Rattle.search_core.specs.Inner.{Ended}
use Rattle.search_core.proofs.TwoRuns.{Onward, apart_none, apart-found, ended-early, onward}
use Rattle.search_core.proofs.run.run.Goals as goal
use Rattle.search_core.proofs.run.run.Lts as lts
use Rattle.search_core.proofs.run.run.Tie as tie
use Rattle.search_core.proofs.run.run.Reads as reads

abbrev At-After-run_scanned2 : Type 0
At-After-run_scanned2 = lts.After-run_scanned2 tie.the-claims reads.Pre reads.Post tie.handed_clauses

abbrev At-Start : Type 0
At-Start = lts.Start tie.the-claims reads.Pre reads.Post tie.handed_clauses

pub run_indexed-requires : goal.run_indexed-requires
run_indexed-requires c = record {
  fine = c.requires.fine;
  values_len_bound = c.requires.values_len_bound;
  some_stored = c.requires.some_stored;
  budget_bound = c.requires.budget_bound;
  values_len_bound_2 =
      c.scanned_steps-few.ensures.1 (omega (arith, c.scanned_steps-few.ensures.0, c.if-few-budget.false));
}

-- after the first steps
module _ (c : At-After-run_scanned2) where
  abbrev s : At-Start
  s = c.before.before.before.before.before.before.before

  abbrev few : ℕ
  few = c.scanned_steps-few.result

  some_left : few ≤ s.args.budget
  some_left = c.scanned_steps-few.ensures.0

  wide : length c.run_scanned-ran.new.values ≡ length s.args.values.now
  wide = c.run_scanned-ran.auto.values

  -- where they are spent
  spent : c.run_scanned-ran.result.end ≡ Spent → (state : State)
      → Stored (length s.args.values.now) state s.args.values.now s.args.trail.now s.args.start.length
      → Onward (clauses_of s.args.list.now) (length s.args.values.now) few s.args.budget (steps_of s.args.start) state
      c.run_scanned-ran.result c.run_scanned-ran.new.values c.run_scanned-ran.new.trail
  spent e state i = onward _ _ few _ some_left _ state _ _ _ e (c.run_scanned-ran.ensures state i)

  -- where they end
  early : (c.run_scanned-ran.result.end ≡ Spent → ⊥) → (state : State)
      → Stored (length s.args.values.now) state s.args.values.now s.args.trail.now s.args.start.length
      → Ended (length s.args.values.now)
      (run (clauses_of s.args.list.now) (length s.args.values.now) s.args.budget (steps_of s.args.start) state)
      c.run_scanned-ran.result c.run_scanned-ran.new.values c.run_scanned-ran.new.trail
  early n state i = ended-early _ _ few _ some_left _ state _ _ _ n (c.run_scanned-ran.ensures state i)

pub run_indexed-requires-in-Spent : goal.run_indexed-requires-in-Spent
run_indexed-requires-in-Spent c =
    let k = c.before.before.before.before.before.before.before in
    let p = (s k).requires in
    let o = spent k c.in-Spent.is p.some_stored.state p.some_stored.stored in
    let f = c.scanned_steps-few.ensures.1 (omega (
      arith,
      c.scanned_steps-few.ensures.0,
      c.if-few-budget.false,
    )) in record {
      fine = rw (wide k) p.fine;
      values_len_bound = rw (wide k) p.values_len_bound;
      some_stored = record { state = o.to; stored = rw (wide k) o.stored };
      budget_bound = omega (arith, o.figure, p.budget_bound, c.scanned_steps-few.ensures.0);
      values_len_bound_2 = (omega (arith, wide k, f.0), f.1);
    }

pub returns : goal.returns
returns c = early c.before.before.before.before.before.before c.in_default.not-Spent

pub returns-in-Spent : goal.returns-in-Spent
returns-in-Spent c state i =
    let k = c.before.before.before.before.before.before.before.before.before.before.before.before in
    let o = spent k c.in-Spent.is state i in
    let e = (rw (wide k) at c.run_indexed-in-Spent.ensures) o.to o.stored in
    rw o.alike at e
