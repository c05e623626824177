use native.Mathlib.Omega.{arith}
use Rattle.sheet_rules.proofs.Acceptance.{accepted-facts}
use Rattle.cells.proofs.Layouts.{first-most}
use Rattle.clauses_kinds.proofs.source.Source.first_cell.Goals as goal

pub bounds-self-r : goal.bounds-self-r
bounds-self-r c = omega (arith, (accepted-facts _ _ c.args.self.now.sheet.taken).counts.few_relations)

pub offset_bounds-self-r : goal.offset_bounds-self-r
offset_bounds-self-r c = omega (arith, (accepted-facts _ _ c.args.self.now.sheet.taken).counts.few_relations)

pub returns : goal.returns
returns c =
    let s = c.args.self.now in
    let f = accepted-facts _ _ s.sheet.taken in
    let e = s.located.first c.args.r c.requires in
    (e, (omega (arith, e, first-most _ f c.args.r, f.counts.few_relations), omega (arith, f.counts.few_relations)))
