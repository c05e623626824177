use native.Mathlib.Omega.{arith}
use Rattle.sheet_rules.proofs.Acceptance.{accepted-facts}
use Rattle.relational.proofs.Places.{square}
use Rattle.cells.proofs.Layouts.{rows-most}
use Rattle.clauses_kinds.proofs.Sources.{row-ends, low-relation}
use Rattle.clauses_kinds.proofs.source.Source.row.Goals as goal

pub row_length-n-requires : goal.row_length-n-requires
row_length-n-requires c = low-relation _ _ c.args.r c.args.self.now.sheet.taken c.requires.r_bound

pub overflow_mul-i : goal.overflow_mul-i
overflow_mul-i c =
    let most = rows-most _ (accepted-facts _ _ c.args.self.now.sheet.taken) c.args.r in
    omega (arith, square {a = c.args.i} (omega (arith, most, c.requires.i_bound)) c.row_length-n.ensures.1)

pub overflow_add-first_cell : goal.overflow_add-first_cell
overflow_add-first_cell c =
    let most = rows-most _ (accepted-facts _ _ c.args.self.now.sheet.taken) c.args.r in
    omega (
      arith,
      c.first_cell.ensures.1.0,
      square {a = c.args.i} (omega (arith, most, c.requires.i_bound)) c.row_length-n.ensures.1,
    )

pub cells-requires : goal.cells-requires
cells-requires c =
    rw (c.first_cell.ensures.0, c.row_length-n.ensures.0) (row-ends _ c.args.r c.args.i c.requires.r_bound c.requires.i_bound)
