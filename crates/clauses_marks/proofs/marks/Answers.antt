use mathlib.Core.Path.{◌≡◌, refl}
use native.Mathlib.Omega.{arith}
use Rattle.sheet_rules.specs.Blocks.{sheet_of, relation_count}
use Rattle.cells.proofs.Parts.{relations-counted, few_relations}
use Rattle.clauses_rules.specs.Whole.{mark_clauses}
use Rattle.clauses_marks.proofs.Adding.{adds-small}
use Rattle.clauses_marks.proofs.Relations.{series-start, series-next, series-end}
use Rattle.clauses_marks.proofs.marks.Goals as goal

pub loop-r-init : goal.loop-r-init
loop-r-init c = series-start 1424 _

pub relation_marks-requires : goal.relation_marks-requires
relation_marks-requires c =
    let s = c.args.source.now.sheet in record {
      small = adds-small c.loop-r.invariant c.requires (omega (arith, c.loop-r-test.true, few_relations _ _ s.taken));
      r_bound = omega (arith, c.loop-r-test.true, relations-counted _ _ s.taken);
    }

pub loop-r-preserved : goal.loop-r-preserved
loop-r-preserved c = series-next 1424 _ c.loop-r.r c.loop-r.invariant c.relation_marks.ensures refl

pub returns : goal.returns
unfolding mark_clauses
returns c =
    let s = c.args.source.now.sheet in
    let e : c.loop-r.r ≡ relation_count (sheet_of s.bytes.now) =
    omega (arith, c.loop-r-test.false, c.loop-r.auto.r-end, relations-counted _ _ s.taken) in
    series-end 1424 _ c.loop-r.invariant e (omega (arith, few_relations _ _ s.taken, relations-counted _ _ s.taken))
