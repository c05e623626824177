use mathlib.Core.Path.{ap, ◌∙◌}
use native.Mathlib.Omega.{arith}
use lib.IntN.{pos}
use lib.ListN.{get_or}
use mir.Syntax.{w32}
use mir.Val.{SFits}
use borrow.Author.Rules.{rules}
use Rattle.literal.specs.Literals.{Literal}
use Rattle.literal.specs.Words.{literal_of}
use Rattle.literal.proofs.Signs.{back}
use Rattle.sheet_rules.specs.Blocks.{sheet_of}
use Rattle.clauses_emission.specs.Emission.{literals_of}
use Rattle.clauses_marks.specs.Marking.{column_clauses}
use Rattle.clauses_marks.proofs.Adding.{adds-small}
use Rattle.clauses_marks.proofs.Relations.{series-start, series-next, series-end}
use Rattle.clauses_marks.proofs.Relations.{row-long, row-literal, row-members, row-of}
use Rattle.clauses_marks.proofs.members.row_inside.Goals as goal

pub loop-j-init : goal.loop-j-init
loop-j-init c = series-start 6 _

pub cell_clauses-requires-clause-small : goal.cell_clauses-requires-clause-small
cell_clauses-requires-clause-small c =
    let s = c.args.source.now in
    let row = row-members _ _ s.sheet.taken _ s.inside c.args.r c.args.i c.requires.r_bound _ c.row-row.ensures in
    adds-small c.loop-j.invariant c.requires.small (omega (arith, c.loop-j-test.true, row.few))

pub cell_clauses-requires-clause-inside : goal.cell_clauses-requires-clause-inside
cell_clauses-requires-clause-inside c =
    let s = c.args.source.now in
    let a = c.args in
    let h = c.loop-j-test.true in
    let w = get_or c.row-row.result.now c.loop-j.j (pos 0) in
    let fits : SFits w32 w = search rules in
    let row = row-of _ _ s.sheet.taken _ s.inside a.r a.i c.requires.r_bound _ c.row-row.ensures c.requires.i_bound in
    let e = row-literal _ _ s.sheet.taken _ s.inside a.r a.i c.requires.r_bound _ c.row-row.ensures c.loop-j.j h in
    (rw (back w fits, e) (s.inside _), (row.relation, (row.atom, omega (arith, h, row.members.few))))

pub loop-j-preserved : goal.loop-j-preserved
loop-j-preserved c =
    let a = c.args in
    let s = a.source.now in
    let w = get_or c.row-row.result.now c.loop-j.j (pos 0) in
    let fits : SFits w32 w = search rules in
    let e = ap literal_of (back w fits)
    ∙ row-literal _ _ s.sheet.taken _ s.inside a.r a.i c.requires.r_bound _ c.row-row.ensures c.loop-j.j c.loop-j-test.true in
    series-next 6 _ c.loop-j.j c.loop-j.invariant c.cell_clauses.ensures
    (ap (λ (m : Literal). column_clauses (sheet_of s.sheet.bytes.now) (literals_of s.given.now) m a.r a.i c.loop-j.j) e)

pub returns : goal.returns
returns c =
    let a = c.args in
    let s = a.source.now in
    let wide = row-long _ _ s.sheet.taken _ s.inside a.r a.i c.requires.r_bound _ c.row-row.ensures in
    let row = row-members _ _ s.sheet.taken _ s.inside a.r a.i c.requires.r_bound _ c.row-row.ensures in
    series-end 6 _ c.loop-j.invariant (omega (arith, wide, c.loop-j-test.false, c.loop-j.auto.j-end)) (omega (arith, wide, row.few))
