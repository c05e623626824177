-- OR is told, or it is a gate.
use Rattle.std.proofs.Common.{refl, rules}
use Rattle.literal.specs.Words.{literal_of}
use Rattle.literal.proofs.Signs.{back}
use Rattle.clauses_rules.specs.Translation.{either}
use Rattle.clauses_emission.proofs.Steps.{emits-as, emits-read}
use Rattle.clauses_emission.proofs.Twos.{or-gate, emits-told}
use Rattle.clauses_emission.proofs.gates.either.Goals as goal

pub returns-in-Some : goal.returns-in-Some
returns-in-Some c =
    let told = rw (back c.args.p c.ranges.p, back c.args.q c.ranges.q) at c.in-Some.ensures in
    rw (back c.in-Some.l (search rules))
    (emits-told either told c.args.list.now c.args.tape.now c.requires.bounded c.requires.inside c.requires.inside_2)

pub returns-in-None : goal.returns-in-None
returns-in-None c =
    let p = c.args.p in
    let q = c.args.q in
    let apart = rw (back p c.ranges.p, back q c.ranges.q) at c.in-None.ensures in
    emits-read (search rules)
    (emits-as (or-gate (literal_of p) (literal_of q) c.args.tape.now.next apart) refl
    (rw (back p c.ranges.p, back q c.ranges.q) at c.gate.ensures))
