use Rattle.std.proofs.Common.{◌≡◌, List, [], ◌∷◌, get_or, take, length-take, sym, ap, ◌∙◌, pos, add-one, arith, rules}
use mir.Syntax.{w32}
use mir.Val.{SFits}
use Rattle.literal.specs.Literals.{positive, opposite}
use Rattle.literal.specs.Words.{literal_of}
use Rattle.literal.proofs.Signs.{read, back}
use Rattle.clauses_rules.specs.Gates.{Clause, input_clauses}
use Rattle.clauses_emission.specs.Emission.{literals_of, Inside}
use Rattle.clauses_emission.proofs.Writes.{appends-none, appends-then, appends-as}
use Rattle.clauses_emission.proofs.Ranges.{opposite-read, literal-at}
use Rattle.clauses_emission.proofs.Ors.{inputs-next, inputs-room, length-literals}
use Rattle.clauses_emission.proofs.gates.gate_inputs.Goals as goal

pub loop-l-init : goal.loop-l-init
unfolding input_clauses
loop-l-init c = appends-none c.args.list.now c.args.tape.now

pub emit_clause-requires : goal.emit_clause-requires
emit_clause-requires c =
    let k = c.loop-l.l-index in
    let ws = c.args.inputs.now in
    inputs-room c.args.tape.now (literals_of (take k ws)) _ c.requires.bounded
    (omega (arith, length-literals (take k ws), length-take k ws, c.requires.inputs.few)) (omega arith) c.loop-l.invariant

pub loop-l-preserved : goal.loop-l-preserved
loop-l-preserved c =
    let ws = c.args.inputs.now in
    let k = c.loop-l.l-index in
    let n = c.args.tape.now.next in
    let w = get_or ws k (pos 0) in
    let h = c.loop-l-test.true in
    let call = c.opposite in
    let f : SFits w32 w = search rules in
    let i : Inside n (literal_of w) = rw (literal-at ws k h) at (c.requires.inputs.inside k) in
    let o : literal_of (read call.result) ≡ opposite (literal_of w) =
    opposite-read n w call.result c.requires.bounded.last f i call.ensures (record { sfits = call.type_inv })
    in
    let g : literal_of (read c.args.g) ≡ positive n = ap literal_of (back c.args.g c.ranges.g ∙ c.requires.g_value) in
    let e : ◌≡◌ {A = List Clause} ((literal_of (read c.args.g) ∷ literal_of (read call.result) ∷ []) ∷ [])
    ((positive n ∷ opposite (literal_of w) ∷ []) ∷ []) = rw (g, o)
    in
    appends-as (inputs-next n ws k h ∙ ap (λ j. input_clauses n (literals_of (take j ws))) (sym (add-one k)))
    (appends-then c.loop-l.invariant (appends-as e c.emit_clause.ensures))
