use mathlib.Core.Path.{ap, ◌∙◌}
use mathlib.Core.List.{map}
use Prim.Native.Nat.{◌+◌, ◌-◌}
use native.Mathlib.Omega.{arith}
use lib.IntN.{pos}
use lib.ListN.{length, get_or, take, drop}
use mir.Syntax.{w32}
use mir.Val.{SFits}
use borrow.Author.Rules.{rules}
use Rattle.literal.specs.Words.{literal_of}
use Rattle.literal.proofs.Signs.{back}
use Rattle.clauses_rules.specs.Whole.{pair_clause}
use Rattle.clauses_emission.specs.Emission.{literals_of}
use Rattle.clauses_emission.proofs.Ors.{length-literals}
use Rattle.clauses_marks.specs.Marking.{pairs_with}
use Rattle.clauses_marks.proofs.Adding.{adds-as, adds-small}
use Rattle.clauses_marks.proofs.Rows.{paired_none, paired-more, with_rest, member-inside, members-after}
use Rattle.clauses_marks.proofs.row_pairs.Goals as goal

pub loop-k-init : goal.loop-k-init
loop-k-init c = paired_none (literals_of c.args.row.now) c.args.list.now c.args.tape.now

pub pairs_with-requires : goal.pairs_with-requires
pairs_with-requires c =
    let k = c.loop-k.k in
    let h = c.loop-k-test.true in
    let w = get_or c.args.row.now k (pos 0) in
    let fits : SFits w32 w = search rules in record {
      small = adds-small c.loop-k.invariant.adds c.requires.small (omega (arith, h, c.requires.members.few));
      inside = rw (back w fits) (member-inside c.requires.members k h);
      members = members-after c.requires.members (k + 1) 7 (omega arith);
    }

pub loop-k-preserved : goal.loop-k-preserved
loop-k-preserved c =
    let k = c.loop-k.k in
    let h = c.loop-k-test.true in
    let ws = c.args.row.now in
    let w = get_or ws k (pos 0) in
    let fits : SFits w32 w = search rules in
    let rest = literals_of (take (length ws - (k + 1)) (drop (k + 1) ws)) in
    paired-more (literals_of ws) k c.loop-k.invariant (rw (length-literals ws) h)
    (adds-as c.pairs_with.ensures
    (ap (λ z. map pair_clause (pairs_with (literal_of z) rest)) (back w fits)
    ∙ ap (map pair_clause) (with_rest ws k h)))
