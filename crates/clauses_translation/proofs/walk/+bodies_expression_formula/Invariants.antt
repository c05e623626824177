-- The walk meets its contracts: at each node the operands' walks and the operator's own step put together (NodeWalks,
-- BodyWalks). The measure is twice the node number, and one more for the walks of a binder's body.
use Rattle.std.proofs.Common.{◌+◌, ◌*◌}
use Rattle.sheet_rules.specs.Blocks.{sheet_of}
use Rattle.clauses_translation.proofs.BodyWalks.{Done}
use Rattle.clauses_translation.proofs.walk.+bodies_expression_formula.Given as goal

abbrev pub decreases-bodies : goal.decreases-bodies
decreases-bodies l = 2 * l.at + 1

abbrev pub decreases-expression : goal.decreases-expression
decreases-expression l = 2 * l.at

abbrev pub decreases-formula : goal.decreases-formula
decreases-formula l = 2 * l.at

abbrev pub invariant-bodies-loop-i : goal.invariant-bodies-loop-i
invariant-bodies-loop-i l =
    Done (sheet_of l.source.sheet.bytes.now) l.source.given.now l.env l.at l.initial.list l.initial.tape l.x l.i l.cells l.list l.tape
