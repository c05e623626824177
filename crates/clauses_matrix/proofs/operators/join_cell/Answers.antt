use Rattle.std.proofs.Common.{◌+◌, ◌*◌, get_or, pos, rules}
use Rattle.literal.proofs.Signs.{back}
use Rattle.clauses_rules.specs.Builder.{each}
use Rattle.clauses_rules.specs.Gates.{or}
use Rattle.clauses_rules.specs.Translation.{both}
use Rattle.clauses_emission.specs.declared.Pairing.TheVariants.{Both}
use Rattle.clauses_emission.specs.Emission.{literals_of}
use Rattle.clauses_matrix.specs.Matrices.{row_middles}
use Rattle.clauses_emission.proofs.Steps.{regular-pairing, regular-each, regular-or, emits-bind, emits-read}
use Rattle.clauses_matrix.proofs.Middles.{met_start, met_next, met_all, met-inputs, row_inside, column-inside}
use Rattle.clauses_matrix.proofs.operators.join_cell.Goals as goal

pub loop-k-init : goal.loop-k-init
loop-k-init c = met_start c.args.list.now c.args.tape.now c.requires.bounded

pub both-requires-clause-inside : goal.both-requires-clause-inside
both-requires-clause-inside c =
    rw (back (get_or c.args.left.now c.loop-k.k (pos 0)) (search rules))
    (row_inside c.requires.row_and_column c.loop-k-test.true c.loop-k.invariant.emits.grows)

pub both-requires-clause-inside_2 : goal.both-requires-clause-inside_2
both-requires-clause-inside_2 c =
    let a = c.args in
    rw (back (get_or a.right.now (c.loop-k.k * a.columns + a.j) (pos 0)) (search rules))
    (column-inside c.requires.row_and_column c.loop-k-test.true c.loop-k.invariant.emits.grows)

pub loop-k-preserved : goal.loop-k-preserved
loop-k-preserved c =
    let k = c.loop-k.k in
    let a = c.args in
    let w = c.both.result in
    rw (back w (search rules))
    (met_next c.requires.row_and_column c.loop-k-test.true w c.loop-k.invariant
    (rw (back (get_or a.left.now k (pos 0)) (search rules), back (get_or a.right.now (k * a.columns + a.j) (pos 0)) (search rules))
    at c.both.ensures))

pub or-requires-clause-inputs : goal.or-requires-clause-inputs
or-requires-clause-inputs c = met-inputs c.loop-k.invariant

pub returns : goal.returns
returns c =
    let a = c.args in
    let met = row_middles (literals_of a.left.now) (literals_of a.right.now) a.columns a.j in
    emits-read (search rules)
    (emits-bind (each both met) or (regular-each both (regular-pairing Both) met) regular-or
    (met_all c.loop-k.invariant c.loop-k-test.false) c.or.ensures)
