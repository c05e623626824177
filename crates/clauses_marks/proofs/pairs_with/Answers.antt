use mathlib.Core.Path.{◌≡◌, sym, ap, ◌∙◌}
use mathlib.Core.List.{List, [], ◌∷◌}
use native.Mathlib.Omega.{arith}
use lib.IntN.{pos}
use lib.ListN.{get_or}
use mir.Syntax.{w32}
use mir.Val.{SFits}
use borrow.Author.Rules.{rules}
use Rattle.literal.specs.Literals.{opposite}
use Rattle.literal.specs.Words.{literal_of}
use Rattle.literal.proofs.Signs.{read, back}
use Rattle.clauses_rules.specs.Gates.{Clause}
use Rattle.clauses_emission.proofs.Ranges.{opposite-read}
use Rattle.clauses_marks.proofs.Adding.{adds_none, adds-as, adds-most, adds_then, adds_one}
use Rattle.clauses_marks.proofs.Rows.{with-next, member-inside}
use Rattle.clauses_marks.proofs.pairs_with.Goals as goal

pub loop-q-init : goal.loop-q-init
loop-q-init c = adds_none c.args.list.now c.args.tape.now

pub loop-q-preserved : goal.loop-q-preserved
loop-q-preserved c =
    let first = c.opposite-first in
    let second = c.opposite in
    let ws = c.args.others.now in
    let k = c.loop-q.q-index in
    let w = get_or ws k (pos 0) in
    let h = c.loop-q-test.true in
    let p = c.args.p in
    let fits : SFits w32 w = search rules in
    let e : literal_of (read first.result) ≡ opposite (literal_of (read p)) =
    opposite-read 16002 p first.result (omega arith) c.ranges.p c.requires.inside first.ensures (record { sfits = first.type_inv })
    ∙ ap (λ z. opposite (literal_of z)) (sym (back p c.ranges.p))
    in
    let f : literal_of (read second.result) ≡ opposite (literal_of w) =
    opposite-read 16002 w second.result (omega arith) fits (member-inside c.requires.members k h) second.ensures
    (record { sfits = second.type_inv })
    in
    let g : ◌≡◌ {A = List Clause} ((literal_of (read first.result) ∷ literal_of (read second.result) ∷ []) ∷ [])
    ((opposite (literal_of (read p)) ∷ opposite (literal_of w) ∷ []) ∷ []) = rw (e, f)
    in
    adds-most
    (adds-as (adds_then c.loop-q.invariant
    (adds-as (adds_one (read first.result) (read second.result ∷ []) c.emit_clause.ensures) g))
    (with-next (literal_of (read p)) ws k h))
    (omega arith)
