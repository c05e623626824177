-- Of a set one column, of a relation two.
use mathlib.Core.Path.{ap, ◌∙◌}
use mathlib.Core.List.{◌++◌}
use native.Mathlib.Omega.{arith}
use lib.IntN.{ℤ}
use Rattle.literal.specs.Words.{literal_of}
use Rattle.literal.proofs.Signs.{back}
use Rattle.sheet_rules.specs.Blocks.{sheet_of}
use Rattle.clauses_emission.specs.Emission.{literals_of}
use Rattle.clauses_marks.specs.Marking.{atom_clauses}
use Rattle.clauses_marks.proofs.Adding.{adds-as, adds-most, adds_then}
use Rattle.clauses_marks.proofs.Guards.{relation-columns}
use Rattle.clauses_marks.proofs.members.cell_clauses.Goals as goal

pub returns-else-arity-eq1 : goal.returns-else-arity-eq1
returns-else-arity-eq1 c =
    let a = c.args in
    let sheet = sheet_of a.source.now.sheet.bytes.now in
    let cells = literals_of a.source.now.given.now in
    let first = c.first_sort-first in
    let second = c.second_sort-second in
    adds-most
    (adds-as (adds_then c.atom_clause-else-arity-eq1.ensures c.atom_clause-else-arity-eq1-2.ensures)
    (ap (λ (w : ℤ). atom_clauses sheet cells (literal_of w) first.result a.i ++ atom_clauses sheet cells
    (literal_of w) second.result a.j)
    (back a.cell c.ranges.cell)
    ∙ relation-columns sheet cells (literal_of a.cell) a.r a.i a.j c.arity.ensures first.ensures c.if-arity-eq1.false
    second.ensures))
    (omega arith)
