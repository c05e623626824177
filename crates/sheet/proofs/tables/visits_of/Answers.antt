use Rattle.std.proofs.Common.{List, [], ◌≡◌, ◌∙◌, ℕ, arith, get_or, refl}
use Rattle.kinds.specs.Kinds.{row_of}
use Rattle.sheet_rules.specs.Blocks.{Sheet, four_blocks, kind, scope, sort_of, field_a, field_b}
use Rattle.sheet_rules.specs.Tables.{visits_step}
use Rattle.sheet.specs.Filling.{Fills, capped}
use Rattle.sheet.proofs.FillingLaws.{fills-none, fills-more}
use Rattle.sheet.proofs.Visits.{capped_le, capped-visits}
use Rattle.sheet.proofs.tables.visits_of.Goals as goal

-- a step reads the array where the definition reads the table, and what was capped may be capped after
same_step : (sheet : Sheet) (v : ℕ) (entries array : List ℕ) → Fills capped 0 entries array
    → capped (visits_step sheet v array) ≡ capped (visits_step sheet v entries)
unfolding visits_step
same_step sheet v entries array f =
    rw (f.at (field_a sheet v), f.at (field_b sheet v))
    (capped-visits (row_of (kind sheet v)) (scope sheet (sort_of sheet (field_a sheet v)))
    (get_or entries (field_a sheet v) 0) (get_or entries (field_b sheet v) 0))

pub loop-v-init : goal.loop-v-init
loop-v-init c = λ sheet s x n. fills-none capped 0 (visits_step sheet) 200

pub node_visits-requires : goal.node_visits-requires
node_visits-requires c =
    let a = c.args in
    let f = c.loop-v.invariant (four_blocks a.sorts.now a.variables.now [] a.nodes.now) refl refl refl in
    (omega arith, λ i. rw (f.at i) (capped_le _))

pub loop-v-preserved : goal.loop-v-preserved
loop-v-preserved c sheet s x n =
    let l = c.loop-v in
    let f = l.invariant sheet s x n in
    fills-more capped 0 (visits_step sheet) l.v l.visits c.node_visits.result (omega arith) f
    (c.node_visits.ensures sheet s x n ∙ same_step sheet l.v _ l.visits f)
