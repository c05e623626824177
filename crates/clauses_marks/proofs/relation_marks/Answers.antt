use mathlib.Core.Path.{refl}
use Rattle.clauses_kinds.proofs.Sources.{low-relation}
use Rattle.clauses_marks.proofs.Relations.{series-start, series-next}
use Rattle.clauses_marks.proofs.relation_marks.Goals as goal

pub row_count-i-end-requires : goal.row_count-i-end-requires
row_count-i-end-requires c = low-relation _ _ c.args.r c.args.source.now.sheet.taken c.requires.r_bound

pub loop-i-init : goal.loop-i-init
loop-i-init c = series-start 178 _

pub loop-i-preserved : goal.loop-i-preserved
loop-i-preserved c = series-next 178 _ c.loop-i.i c.loop-i.invariant c.row_marks.ensures refl
