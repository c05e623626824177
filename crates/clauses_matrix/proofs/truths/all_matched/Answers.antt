use Rattle.std.proofs.Common.{◌*◌, rules}
use Rattle.clauses_rules.specs.Gates.{and}
use Rattle.clauses_matrix.specs.Matrices.{matrix_of, paired}
use Rattle.clauses_emission.proofs.Steps.{regular-and, emits-bind, emits-read}
use Rattle.clauses_matrix.proofs.Fills.{front-inputs}
use Rattle.clauses_matrix.proofs.Regulars.{regular-paired}
use Rattle.clauses_matrix.proofs.truths.all_matched.Goals as goal

pub and-requires-clause-inputs : goal.and-requires-clause-inputs
and-requires-clause-inputs c =
    let made = c.matched_cells-cells in
    let size = c.args.p.rows * c.args.p.columns in
    front-inputs size size made.new.tape.next made.result made.ensures.bounded.first made.ensures.fine

pub returns : goal.returns
returns c =
    let p = matrix_of c.args.p in
    let q = matrix_of c.args.q in
    let kind = c.args.kind in
    emits-read (search rules)
    (emits-bind (paired kind p q) and (regular-paired kind p q) regular-and c.matched_cells-cells.ensures c.and.ensures)
