-- By mark.
use mathlib.Core.Path.{sym, ◌∙◌}
use native.Mathlib.Omega.{arith}
use Rattle.sheet_rules.specs.Blocks.{sheet_of, multiplicity}
use Rattle.clauses_rules.specs.Whole.{row_members, row_literals}
use Rattle.clauses_emission.specs.Emission.{literals_of}
use Rattle.clauses_kinds.proofs.Sources.{low-relation}
use Rattle.clauses_marks.proofs.Adding.{adds_none, adds-as, adds-most, adds_then}
use Rattle.clauses_marks.proofs.Relations.{row-of, row-members, row_same}
use Rattle.clauses_marks.proofs.Rows.{free-row, one-row}
use Rattle.clauses_marks.proofs.row_marks.Goals as goal

pub multiplicity-mark-requires : goal.multiplicity-mark-requires
multiplicity-mark-requires c = low-relation _ _ c.args.r c.args.source.now.sheet.taken c.requires.r_bound

pub row_pairs-requires-clause-members : goal.row_pairs-requires-clause-members
row_pairs-requires-clause-members c =
    let s = c.args.source.now in
    row-members _ _ s.sheet.taken _ s.inside c.args.r c.args.i c.requires.r_bound _ c.row-row.ensures

pub row_clause-requires-clause-row_of : goal.row_clause-requires-clause-row_of
row_clause-requires-clause-row_of c =
    let s = c.args.source.now in
    row-of _ _ s.sheet.taken _ s.inside c.args.r c.args.i c.requires.r_bound _ c.row-row.ensures c.requires.i_bound

pub returns-then-mark-eq0 : goal.returns-then-mark-eq0
returns-then-mark-eq0 c =
    let a = c.args in
    let sheet = sheet_of a.source.now.sheet.bytes.now in
    let cells = literals_of a.source.now.given.now in
    adds-most
    (adds-as (adds_none a.list.now a.tape.now)
    (free-row (row_members sheet cells a.r a.i) (row_literals sheet cells a.r a.i) (multiplicity sheet a.r)
    (sym c.multiplicity-mark.ensures ∙ c.if-mark-eq0.true)))
    (omega arith)

pub returns : goal.returns
returns c =
    let a = c.args in
    let sheet = sheet_of a.source.now.sheet.bytes.now in
    let cells = literals_of a.source.now.given.now in
    let mark = c.multiplicity-mark.ensures in
    adds-most
    (adds-as (adds_then c.row_pairs.ensures c.row_clause.ensures)
    (one-row (row_members sheet cells a.r a.i) (literals_of c.row-row.result.now) (multiplicity sheet a.r)
    (λ z. c.if-mark-eq0.false (mark ∙ z)) (λ z. c.if-mark-eq1.false (mark ∙ z))
    ∙ row_same (multiplicity sheet a.r) (row_members sheet cells a.r a.i) c.row-row.ensures))
    (omega arith)
