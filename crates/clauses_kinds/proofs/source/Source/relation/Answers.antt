use mathlib.Core.Path.{◌≡◌, ap₂}
use Prim.Native.Nat.{◌*◌}
use native.Mathlib.Omega.{arith}
use Rattle.sheet_rules.specs.Blocks.{sheet_of}
use Rattle.relational.specs.Cells.{cells_of}
use Rattle.cells.proofs.Layouts.{relation-ends}
use Rattle.clauses_kinds.proofs.source.Source.relation.Goals as goal

pub cells-requires : goal.cells-requires
cells-requires c =
    let sheet = sheet_of c.args.self.now.sheet.bytes.now in
    let e : c.row_count.result * c.row_length.result ≡ cells_of sheet c.args.r =
    ap₂ ◌*◌ c.row_count.ensures.0 c.row_length.ensures.0 in
    omega (arith, e, c.first_cell.ensures.0, relation-ends sheet c.args.r _ c.requires)

pub returns : goal.returns
returns c = rw (← c.first_cell.ensures.0, ← c.row_count.ensures.0, ← c.row_length.ensures.0) c.cells.ensures
