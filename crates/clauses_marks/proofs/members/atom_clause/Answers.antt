-- One clause, or none.
use mathlib.Core.Path.{◌≡◌, sym, ap, ◌∙◌}
use mathlib.Core.List.{List, [], ◌∷◌}
use native.Mathlib.Omega.{arith}
use Rattle.literal.specs.Literals.{opposite}
use Rattle.literal.specs.Words.{literal_of}
use Rattle.literal.proofs.Signs.{read, back}
use Rattle.sheet_rules.specs.Blocks.{sheet_of}
use Rattle.relational.specs.Cells.{member_cell}
use Rattle.cells.proofs.Layouts.{sort-low}
use Rattle.clauses_rules.specs.Gates.{Clause}
use Rattle.clauses_rules.specs.Translation.{literal_at}
use Rattle.clauses_emission.specs.Emission.{literals_of}
use Rattle.clauses_emission.proofs.Ranges.{opposite-read}
use Rattle.clauses_marks.specs.Marking.{member_clause}
use Rattle.clauses_marks.proofs.Adding.{adds_none, adds-as, adds-most, adds_one}
use Rattle.clauses_marks.proofs.Guards.{bounded-atom, full-atom}
use Rattle.clauses_marks.proofs.members.atom_clause.Goals as goal

pub member-requires : goal.member-requires
member-requires c =
    let s = c.args.source.now.sheet in
    (sort-low s.bytes.now s.taken c.args.sort c.is_bounded.ensures c.if-is_bounded.true, c.requires.inside.1)

pub returns-then-is_bounded : goal.returns-then-is_bounded
returns-then-is_bounded c =
    let a = c.args in
    let sheet = sheet_of a.source.now.sheet.bytes.now in
    let cells = literals_of a.source.now.given.now in
    let opp = c.opposite in
    let mem = c.member in
    let e : literal_of (read opp.result) ≡ opposite (literal_of a.cell) =
    opposite-read 16002 a.cell opp.result (omega arith) c.ranges.cell c.requires.inside.0 opp.ensures
    (record { sfits = opp.type_inv })
    in
    let f : literal_of (read mem.result) ≡ literal_at sheet cells (member_cell sheet a.sort a.i) =
    ap literal_of (back mem.result (record { sfits = mem.type_inv })) ∙ mem.ensures
    in
    let g : ◌≡◌ {A = List Clause} ((literal_of (read opp.result) ∷ literal_of (read mem.result) ∷ []) ∷ [])
    (member_clause (literal_of a.cell) (literal_at sheet cells (member_cell sheet a.sort a.i)) ∷ []) = rw (e, f)
    in
    adds-most
    (adds-as (adds_one (read opp.result) (read mem.result ∷ []) c.emit_clause.ensures)
    (g ∙ bounded-atom sheet cells (literal_of a.cell) a.sort a.i (sym c.is_bounded.ensures ∙ c.if-is_bounded.true)))
    (omega arith)

pub returns-else-is_bounded : goal.returns-else-is_bounded
returns-else-is_bounded c =
    let a = c.args in
    adds-most
    (adds-as (adds_none a.list.now a.tape.now)
    (full-atom (sheet_of a.source.now.sheet.bytes.now) (literals_of a.source.now.given.now) (literal_of a.cell) a.sort a.i
    (sym c.is_bounded.ensures ∙ c.if-is_bounded.false)))
    (omega arith)
