use Rattle.std.proofs.Common.{List, ◌≡◌, ℕ, arith}
use Rattle.sheet_rules.specs.Blocks.{Sheet, field_a, field_b}
use Rattle.sheet_rules.specs.Tables.{shape_step}
use Rattle.sheet.specs.Filling.{Fills}
use Rattle.sheet.proofs.FillingLaws.{fills-none, fills-more}
use Rattle.shapes.specs.declared.Shape.{Shape}
use Rattle.shapes.specs.declared.Shape.TheVariants.{Ill}
use Rattle.sheet.proofs.tables.shapes_of.Goals as goal

-- a step reads the array where the definition reads the table
same_step : (sheet : Sheet) (v : ℕ) (entries array : List Shape) → Fills (λ x. x) Ill entries array
    → shape_step sheet v array ≡ shape_step sheet v entries
unfolding shape_step
same_step sheet v entries array f = rw (f.at (field_a sheet v), f.at (field_b sheet v))

pub loop-v-init : goal.loop-v-init
loop-v-init c = λ sheet e s n. fills-none (λ x. x) Ill (shape_step sheet) 200

pub loop-v-preserved : goal.loop-v-preserved
loop-v-preserved c sheet e s n =
    let l = c.loop-v in
    let f = l.invariant sheet e s n in
    fills-more (λ x. x) Ill (shape_step sheet) l.v l.shapes c.node_shape.result (omega arith) f
    (rw (c.node_shape.ensures sheet e s n) (same_step sheet l.v _ l.shapes f))
