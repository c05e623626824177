use Rattle.std.proofs.Common.{rules}
use Rattle.literal.proofs.Signs.{back}
use Rattle.clauses_rules.specs.Translation.{both}
use Rattle.clauses_emission.proofs.Twos.{emits-told}
use Rattle.clauses_matrix.proofs.truths.meet.Goals as goal

pub returns-in-Some : goal.returns-in-Some
returns-in-Some c =
    let told = rw (back c.args.p c.ranges.p, back c.args.q c.ranges.q) at c.in-Some.ensures in
    rw (back c.in-Some.l (search rules))
    (emits-told both told c.args.list.now c.args.tape.now c.requires.bounded c.requires.inside c.requires.inside_2)
