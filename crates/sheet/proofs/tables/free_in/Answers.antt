use Rattle.std.proofs.Common.{List, ◌≡◌, ℕ, arith, Bool, false}
use Rattle.sheet_rules.specs.Blocks.{Sheet, field_a, field_b}
use Rattle.sheet_rules.specs.Tables.{free_step}
use Rattle.sheet.specs.Filling.{Fills}
use Rattle.sheet.proofs.FillingLaws.{fills-none, fills-more}
use Rattle.sheet.proofs.tables.free_in.Goals as goal

-- a step reads the array where the definition reads the table
same_step : (sheet : Sheet) (x v : ℕ) (entries array : List Bool) → Fills (λ f. f) false entries array
    → free_step sheet x v array ≡ free_step sheet x v entries
unfolding free_step
same_step sheet x v entries array f = rw (f.at (field_a sheet v), f.at (field_b sheet v))

pub loop-v-init : goal.loop-v-init
loop-v-init c = λ sheet n. fills-none (λ f. f) false (free_step sheet c.args.x) 200

pub loop-v-preserved : goal.loop-v-preserved
loop-v-preserved c sheet n =
    let l = c.loop-v in
    let f = l.invariant sheet n in
    fills-more (λ f. f) false (free_step sheet c.args.x) l.v l.free c.node_free.result (omega arith) f
    (rw (c.node_free.ensures sheet n) (same_step sheet c.args.x l.v _ l.free f))
