-- By the number of the inputs that remain.
use Rattle.std.proofs.Common.{◌≡◌, length, get_or, take, refl, sym, ap, ◌∙◌, pos, arith, rules}
use lib.Seq.{length-take-le, get_or-take}
use Rattle.literal.specs.Literals.{negative}
use Rattle.literal.specs.Words.{literal_of}
use Rattle.literal.proofs.Signs.{back}
use Rattle.clauses_emission.specs.Emission.{Inside, Inputs}
use Rattle.clauses_emission.proofs.Ranges.{inside-absent, literal-at}
use Rattle.clauses_emission.proofs.Steps.{emits-return, emits-as, emits-literal, emits-read}
use Rattle.clauses_emission.proofs.Ors.{or-none, or-one, or-many}
use Rattle.clauses_emission.proofs.InPlace.{settled-or, settled-inputs}
use Rattle.clauses_emission.proofs.gates.or.Goals as goal

pub returns-in-0 : goal.returns-in-0
returns-in-0 c =
    let g = c.args.tape.now.next in
    let out = c.settle.new.inputs in
    let n = c.settle.result in
    emits-as
    (or-none (take n out) g (length-take-le n out (search rules) ∙ c.in-0.is)
    ∙ settled-or c.args.inputs.now out n c.settle.ensures g)
    refl
    (emits-return (negative 1) c.args.list.now c.args.tape.now c.requires.bounded (inside-absent g c.requires.bounded.first))

pub returns-in-1 : goal.returns-in-1
returns-in-1 c =
    let a = c.args in
    let out = c.settle.new.inputs in
    let n = c.settle.result in
    let left = take n out in
    let one : length left ≡ 1 = length-take-le n out (search rules) ∙ c.in-1.is in
    let ins : Inputs a.tape.now.next left =
    settled-inputs a.inputs.now out n c.settle.ensures c.requires.bounded.first c.requires.inputs in
    let w = get_or left 0 (pos 0) in
    let i : Inside a.tape.now.next (literal_of w) = rw (literal-at left 0 (omega (arith, one))) at (ins.inside 0) in
    let e = get_or-take n out 0 (pos 0) (omega (arith, c.in-1.is)) in
    emits-literal (ap literal_of (e ∙ sym (back (get_or out 0 (pos 0)) (search rules))))
    (emits-as (or-one left a.tape.now.next one ∙ settled-or a.inputs.now out n c.settle.ensures a.tape.now.next) refl
    (emits-return (literal_of w) a.list.now a.tape.now c.requires.bounded i))

pub gate-requires-clause-inputs : goal.gate-requires-clause-inputs
gate-requires-clause-inputs c =
    settled-inputs c.args.inputs.now c.settle.new.inputs c.settle.result c.settle.ensures c.requires.bounded.first
    c.requires.inputs

pub returns-in_default : goal.returns-in_default
returns-in_default c =
    let g = c.args.tape.now.next in
    let out = c.settle.new.inputs in
    let n = c.settle.result in
    let e = length-take-le n out (search rules) in
    emits-read (search rules)
    (emits-as
    (or-many (take n out) g (λ z. omega (arith, e, z)) (λ z. omega (arith, e, z))
    ∙ settled-or c.args.inputs.now out n c.settle.ensures g)
    refl c.gate.ensures)
