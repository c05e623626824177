use Rattle.std.proofs.Common.{sym, ◌∙◌, add-one, arith}
use Rattle.std.specs.Cmp.Rules.{signed_items}
use Rattle.clauses_rules.specs.Translation.{round_of, after_rounds}
use Rattle.clauses_emission.proofs.Steps.{emits-return, emits-bind}
use Rattle.clauses_matrix.specs.Matrices.{matrix_of}
use Rattle.clauses_matrix.proofs.Regulars.{regular-round, regular-rounds}
use Rattle.clauses_matrix.proofs.Rounds.{rounds-done}
use Rattle.clauses_matrix.proofs.operators.closure.Goals as goal

pub loop-init : goal.loop-init
unfolding after_rounds
loop-init c = emits-return (matrix_of c.args.p) c.args.list.now c.args.tape.now c.requires.bounded c.requires.operand

pub returns-then-eq : goal.returns-then-eq
returns-then-eq c =
    let p = matrix_of c.args.p in
    rounds-done c.loop.counter p c.loop.invariant c.round-made.ensures c.if-tape-first.true
    (sym ((signed_items c.round-made.result.cells c.loop.matrix.cells).0 (sym c.eq.ensures ∙ c.if-eq.true)))
    _ (omega (arith, c.rounds-end.ensures))

pub loop-preserved : goal.loop-preserved
unfolding after_rounds
loop-preserved c =
    let p = matrix_of c.args.p in
    let k = c.loop.counter in
    rw (add-one k)
    (emits-bind (after_rounds k p) round_of (regular-rounds k p) regular-round c.loop.invariant c.round-made.ensures)
