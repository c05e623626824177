use Rattle.std.proofs.Common.{◌≡◌, ◌<◌, length, get_or, ap, ◌∙◌, pos, add-one, arith, rules}
use mir.Syntax.{w32}
use mir.Val.{SFits}
use Rattle.literal.specs.Literals.{opposite}
use Rattle.literal.specs.Words.{literal_of}
use Rattle.literal.proofs.Signs.{read}
use Rattle.clauses_emission.specs.Emission.{Inside}
use Rattle.clauses_emission.proofs.Ranges.{opposite-read, literal-at}
use Rattle.clauses_emission.proofs.Rests.{rest_at, rest-set}
use Rattle.clauses_emission.proofs.Ors.{opposites-next}
use Rattle.clauses_emission.proofs.inputs.turn.Goals as goal

pub loop-l-preserved : goal.loop-l-preserved
loop-l-preserved c =
    let loop = c.loop-l in
    let ws = c.args.inputs.now in
    let k = loop.l-index in
    let h : k < length ws = omega arith in
    let e = rest_at loop.inputs ws k loop.invariant.rest in
    let w = get_or loop.inputs k (pos 0) in
    let f : SFits w32 w = search rules in
    let i : Inside 16002 (literal_of w) = rw (e, ← literal-at ws k h) (c.requires k) in
    let o : literal_of (read c.opposite.result) ≡ opposite (literal_of (get_or ws k (pos 0))) =
    opposite-read 16002 w c.opposite.result (omega arith) f i c.opposite.ensures
    (record { sfits = c.opposite.type_inv })
    ∙ ap (λ z. opposite (literal_of z)) e
    in
    record {
      turned = rw (add-one k)
          (opposites-next ws loop.inputs k (read c.opposite.result) h (omega arith) loop.invariant.turned o);
      rest = rest-set loop.inputs ws k k (read c.opposite.result) (omega arith) loop.invariant.rest;
    }
