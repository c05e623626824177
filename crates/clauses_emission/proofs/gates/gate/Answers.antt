use Rattle.std.proofs.Common.{◌≡◌, List, [], ◌∷◌, suc, refl, sym, ap, ◌∙◌, pos, arith}
use Rattle.literal.specs.Literals.{Literal, positive, negative, opposite}
use Rattle.literal.specs.Words.{literal_of}
use Rattle.literal.proofs.Signs.{read, back}
use Rattle.literal.proofs.Words.{positive-is}
use Rattle.clauses_rules.specs.Gates.{Clause}
use Rattle.clauses_emission.specs.Emission.{literals_of, Inside, Within}
use Rattle.clauses_emission.proofs.Writes.{appends-as}
use Rattle.clauses_emission.proofs.Ranges.{opposite-read}
use Rattle.clauses_emission.proofs.Steps.{emits-literal}
use Rattle.clauses_emission.proofs.Ors.{inputs-room, length-literals, gate-emits}
use Rattle.clauses_emission.proofs.gates.gate.Goals as goal

pub emit_clause-requires : goal.emit_clause-requires
emit_clause-requires c =
    let ws = c.args.inputs.now in
    inputs-room c.args.tape.now (literals_of ws) ws c.requires.bounded
    (omega (arith, length-literals ws, c.requires.inputs.few)) c.requires.inputs.few c.gate_inputs.ensures

pub returns : goal.returns
returns c =
    let tape = c.args.tape.now in
    let ws = c.args.inputs.now in
    let made = c.positive-g in
    let turned = c.opposite in
    let word : read made.result ≡ pos tape.next =
    back made.result (record { sfits = made.type_inv }) ∙ made.ensures
    ∙ positive-is tape.next (omega (arith, c.requires.bounded.last))
    in
    let within : Within tape.next = c.if-tape-gt-LIMIT.false in
    let l : literal_of made.result ≡ positive tape.next = ap literal_of
    (sym (back made.result (record { sfits = made.type_inv })) ∙ word) in
    let i : Inside (suc tape.next) (literal_of made.result) =
    rw l (record { low = omega (arith, c.requires.bounded.first); high = omega arith })
    in
    let o : literal_of (read turned.result) ≡ opposite (literal_of made.result) =
    opposite-read (suc tape.next) made.result turned.result (omega (arith, within))
    (record { sfits = made.type_inv }) i turned.ensures (record { sfits = turned.type_inv })
    in
    let e : ◌≡◌ {A = List Clause} ((literal_of (read turned.result) ∷ literals_of ws) ∷ [])
    ((negative tape.next ∷ literals_of ws) ∷ []) =
    ap (λ (k : Literal). (k ∷ literals_of ws) ∷ []) (o ∙ ap opposite l)
    in
    emits-literal (sym (ap literal_of word))
    (gate-emits tape (literals_of ws) c.requires.bounded within
    (omega (arith, length-literals ws, c.requires.inputs.few))
    c.gate_inputs.ensures
    (appends-as e c.emit_clause.ensures)
    refl refl refl)
