-- `search_index::watch::look` meets its contract. Assumes nothing.
use mathlib.Core.Path.{◌∙◌}
use mathlib.Core.List.{List}
use Prim.Native.Nat.{◌≤◌}
use native.Mathlib.Omega.{arith}
use lib.IntN.{ℤ}
use Rattle.clause_list.specs.ClauseList.{clauses_of}
use Rattle.search_index.specs.Index.{IsHead, falses_at, Indexed, watched}
use Rattle.search_index.proofs.Looking.{looks-false, size_low, tallied, looks-neither, unit-low, unit-head, looks-unit}
use Rattle.search_index.proofs.Looking.{lowered}
use Rattle.search_index.proofs.Touching.{indexed}
use Rattle.search_index.proofs.watch.look.Goals as goal
use Rattle.search_index.proofs.watch.look.Lts as lts
use Rattle.search_index.proofs.watch.look.Tie as tie
use Rattle.search_index.proofs.watch.look.Reads as reads

abbrev At-After-head : Type 0
At-After-head = lts.After-head tie.the-claims reads.Pre reads.Post tie.handed_clauses

abbrev At-Else1 : Type 0
At-Else1 = lts.Else1 tie.the-claims reads.Pre reads.Post tie.handed_clauses

abbrev At-Else2 : Type 0
At-Else2 = lts.Else2 tie.the-claims reads.Pre reads.Post tie.handed_clauses

abbrev At-Start : Type 0
At-Start = lts.Start tie.the-claims reads.Pre reads.Post tie.handed_clauses

-- where there are weights
module _ (c : At-Else1) where
  abbrev s : At-Start
  s = c.before.before.before.before

  abbrev clauses : List (List ℤ)
  clauses = clauses_of s.args.list.now

  index : Indexed clauses s.args.values.now s.args.chains.now s.args.weights.now
  index = indexed _ _ _ _ s.requires.watched c.if-weights-eq0.false

pub returns-then-falses-gt0 : goal.returns-then-falses-gt0
returns-then-falses-gt0 c =
    let k = c.before.before.before in record {
      result_value = looks-false (clauses k) _ _ _ (index k) (omega (arith, c.if-falses-gt0.true, c.falses.ensures));
      watched_2 = watched (index k);
    }

-- where no clause is false
none : (c : At-Else2) → falses_at (s c.before.before).args.weights.now ≤ 0
none c = omega (arith, c.if-falses-gt0.false, c.falses.ensures)

pub first_unit-c-requires : goal.first_unit-c-requires
first_unit-c-requires c =
    let k = c.before.before.before.before.before in
    let e = c.count-m.ensures in record {
      tallied = tallied (clauses k) _ _ _ (index k) _ e;
      m_le_limit = size_low (clauses k) _ _ _ (index k) _ e;
    }

pub head-at-requires : goal.head-at-requires
head-at-requires c =
    let k = c.before.before.before.before.before.before.before.before.before in (
      (index k).chains_are.linked.long,
      unit-low (clauses k) _ _ _ (index k) _ c.count-m.ensures _
          c.first_unit-c.ensures.stopped (none c.before.before.before.before.before.before.before) c.if-c-m.true,
    )

-- the head of the first unit clause
at_head : (c : At-After-head) → IsHead (clauses c.before.before.before.before.before.before.before.before.before)
    c.head-at.result
at_head c =
    unit-head (clauses c.before.before.before.before.before.before.before.before.before) _ _ _
    (index c.before.before.before.before.before.before.before.before.before) _
    c.count-m.ensures _ c.first_unit-c.ensures.stopped
    (none c.before.before.before.before.before.before.before) c.if-c-m.true _
    c.head-at.ensures

pub returns-then-c-m : goal.returns-then-c-m
unfolding at_head
returns-then-c-m c =
    let k = c.before.before.before.before.before.before.before.before.before.before.before in
    let u = c.first_unit-c.ensures in
    let e = c.count-m.ensures in record {
      result_value = c.sight.ensures (at_head c.before.before)
          ∙ looks-unit (clauses k) _ _ _ (index k) _ e _ u.stopped
          (none c.before.before.before.before.before.before.before.before.before)
          c.if-c-m.true _ c.head-at.ensures;
      watched_2 = watched (lowered (clauses k) _ _ _ (index k) _ e _ u.same.0 u.same.1);
    }

pub returns : goal.returns
returns c =
    let k = c.before.before.before.before.before.before.before.before.before in
    let u = c.first_unit-c.ensures in
    let e = c.count-m.ensures in record {
      result_value =
          looks-neither (clauses k) _ _ _ (index k) _ e _ u.stopped
          (none c.before.before.before.before.before.before.before) (omega (arith, c.if-c-m.false));
      watched_2 = watched (lowered (clauses k) _ _ _ (index k) _ e _ u.same.0 u.same.1);
    }
