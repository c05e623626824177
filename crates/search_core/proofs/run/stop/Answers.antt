use Rattle.std.proofs.Common.{refl, ◌≤◌, length, arith}
use Rattle.clause_list.specs.ClauseList.{clauses_of}
use Rattle.search_rules.specs.Rules.{State}
use Rattle.search_rules.specs.Held.{steps_of, Stored}
use Rattle.search_core.proofs.RunCode.{Far, here, far-emptied, far-full, far-spent}
use Rattle.search_core.proofs.run.stop.Goals as goal

pub returns-in-None : goal.returns-in-None
returns-in-None c state i =
    let f = here (clauses_of c.args.list.now) _ state c.args.values.now c.args.trail.now c.args.position i in
    let e = c.in-None.ensures state i.was_open i.values_are in
    let b = c.back.ensures.turned state i in
    rw c.in-None.is (far-emptied _ _ _ _ _ _ _ _ _ f _ _ _ _ _ refl e c.emptied-position.ensures b)

pub returns-in-Found : goal.returns-in-Found
returns-in-Found c state i =
    let f = here (clauses_of c.args.list.now) _ state c.args.values.now c.args.trail.now c.args.position i in
    rw c.in-Found.is (far-full _ _ _ _ _ _ _ _ _ f _ refl (c.in-Found.ensures state i.was_open i.values_are))

pub returns-in-Spent : goal.returns-in-Spent
returns-in-Spent c state i =
    let f = here (clauses_of c.args.list.now) _ state c.args.values.now c.args.trail.now c.args.position i in
    rw c.in-Spent.is (far-spent _ _ _ _ _ _ _ _ _ f _ (omega arith) refl (c.in-Spent.ensures state i.was_open i.values_are))
