use Rattle.std.proofs.Common.{◌*◌}
use Rattle.clauses_matrix.proofs.Fills.{front-inputs}
use Rattle.clauses_matrix.proofs.truths.some.Goals as goal

pub or-requires-clause-inputs : goal.or-requires-clause-inputs
or-requires-clause-inputs c =
    let p = c.args.p in
    let size = p.rows * p.columns in
    front-inputs size size c.args.tape.now.next p.cells c.requires.bounded.first c.requires.operand.cells
