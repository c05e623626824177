-- The relation's first cell, and its rows and columns.
use native.Mathlib.Omega.{arith}
use Rattle.sheet_rules.specs.Blocks.{sheet_of}
use Rattle.instance_evaluation.proofs.Layouts.{facts-of, few, first-few, set_or_relation}
use Rattle.instance_evaluation.proofs.Instance.relation.Goals as goal

pub arity-arity-requires : goal.arity-arity-requires
arity-arity-requires c = omega (arith, few c.args.self.now c.requires)

pub row_count-rows-requires : goal.row_count-rows-requires
row_count-rows-requires c = omega (arith, few c.args.self.now c.requires)

pub row_length-columns-requires : goal.row_length-columns-requires
row_length-columns-requires c = omega (arith, few c.args.self.now c.requires)

pub offset_bounds-self-r : goal.offset_bounds-self-r
offset_bounds-self-r c = omega (arith, few c.args.self.now c.requires)

pub bounds-self-r : goal.bounds-self-r
bounds-self-r c = few c.args.self.now c.requires

pub given-requires-clause-first_le_most_cells : goal.given-requires-clause-first_le_most_cells
given-requires-clause-first_le_most_cells c =
    let i = c.args.self.now in (
      omega (arith, first-few i c.requires),
      (c.row_count-rows.ensures.1, c.row_length-columns.ensures.1),
    )

pub given-requires-clause-set_or_relation : goal.given-requires-clause-set_or_relation
given-requires-clause-set_or_relation c =
    let i = c.args.self.now in
    let r = c.args.r in
    set_or_relation (sheet_of i.sheet.bytes.now) r ((facts-of i).columns_two r c.requires)
    c.arity-arity.ensures c.row_count-rows.ensures.0
