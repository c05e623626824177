use native.Mathlib.Omega.{arith}
use Rattle.sheet_rules.proofs.Acceptance.{accepted-facts}
use Rattle.cells.proofs.Layouts.{first-most}
use Rattle.relational.proofs.Places.{square}
use Rattle.clauses_kinds.proofs.LeafMatrices.{relation-from}
use Rattle.clauses_kinds.proofs.Sources.{low-relation}
use Rattle.clauses_kinds.proofs.leaves.relation.Goals as goal

pub row_count-rows-requires : goal.row_count-rows-requires
row_count-rows-requires c = low-relation _ _ c.args.r c.args.source.now.sheet.taken c.requires

pub row_length-columns-requires : goal.row_length-columns-requires
row_length-columns-requires c = low-relation _ _ c.args.r c.args.source.now.sheet.taken c.requires

pub arity-requires : goal.arity-requires
arity-requires c = low-relation _ _ c.args.r c.args.source.now.sheet.taken c.requires

pub copied-requires : goal.copied-requires
copied-requires c =
    let s = c.args.source.now in
    let f = accepted-facts _ _ s.sheet.taken in (
      omega (arith, s.located.first c.args.r c.requires, first-most _ f c.args.r, f.counts.few_relations),
      square c.row_count-rows.ensures.1 c.row_length-columns.ensures.1,
    )

pub returns : goal.returns
returns c env =
    let s = c.args.source.now in
    relation-from (accepted-facts _ _ s.sheet.taken) s.given.now c.args.r env c.copied.result c.requires
    c.arity.ensures c.row_count-rows.ensures c.row_length-columns.ensures
    (s.located.first c.args.r c.requires) c.copied.ensures

pub bounds-source-r : goal.bounds-source-r
bounds-source-r c =
    omega (arith, c.requires, (accepted-facts _ _ c.args.source.now.sheet.taken).counts.few_relations)

pub offset_bounds-source-r : goal.offset_bounds-source-r
offset_bounds-source-r c =
    omega (arith, c.requires, (accepted-facts _ _ c.args.source.now.sheet.taken).counts.few_relations)
