-- The five steps one after the other.
use borrow.Author.Rules.{rules}
use mathlib.Core.Path.{◌≡◌, refl, ap}
use mathlib.Core.List.{[]}
use Prim.Native.Nat.{◌+◌, ◌-◌}
use native.Mathlib.Omega.{arith}
use Rattle.literal.specs.Words.{literal_of}
use Rattle.literal.proofs.Signs.{read, back}
use Rattle.sheet_rules.proofs.Acceptance.{accepted-facts}
use Rattle.cells.proofs.Parts.{nodes-counted}
use Rattle.clauses_emission.proofs.Writes.{appends-as}
use Rattle.clauses.proofs.Translation.{translatable, all-inside, root_is, first_small, inner-small, root-ready}
use Rattle.clauses.proofs.Translation.{walk-room, translates}
use Rattle.clauses.proofs.whole.translate.Goals as goal

pub invariant_of-source : goal.invariant_of-source
invariant_of-source c =
    let r = translatable c.args.sheet.now.taken c.cells-count.ensures c.cell_words-words.ensures in
    record { located = c.cells-count.ensures.1.1; size = r.size; inside = all-inside r }

pub members-requires : goal.members-requires
members-requires c =
    let r = translatable c.args.sheet.now.taken c.cells-count.ensures c.cell_words-words.ensures in
    first_small r (ap (λ n. 2 + n) c.cells-count.ensures.0) refl refl c.emit_clause.ensures

pub marks-requires : goal.marks-requires
marks-requires c =
    let r = translatable c.args.sheet.now.taken c.cells-count.ensures c.cell_words-words.ensures in
    let n = ap (λ n. 2 + n) c.cells-count.ensures.0 in
    inner-small r n refl refl c.emit_clause.ensures c.members.ensures

pub overflow_sub-root : goal.overflow_sub-root
overflow_sub-root c =
    let taken = c.args.sheet.now.taken in
    omega (arith, nodes-counted _ _ taken, (accepted-facts _ _ taken).counts.some_nodes)

pub formula-truth-requires : goal.formula-truth-requires
formula-truth-requires c =
    let taken = c.args.sheet.now.taken in
    let r = translatable taken c.cells-count.ensures c.cell_words-words.ensures in
    let n = ap (λ n. 2 + n) c.cells-count.ensures.0 in record {
      ready = root-ready r n refl refl c.emit_clause.ensures c.members.ensures c.marks.ensures;
      formula = rw (ap (λ n. n - 1) (nodes-counted _ _ taken)) (root_is r);
    }

pub emit_clause-requires-2 : goal.emit_clause-requires-2
emit_clause-requires-2 c =
    let taken = c.args.sheet.now.taken in
    let r = translatable taken c.cells-count.ensures c.cell_words-words.ensures in
    let n = ap (λ n. 2 + n) c.cells-count.ensures.0 in
    walk-room r n refl refl c.emit_clause.ensures c.members.ensures c.marks.ensures
    (ap (λ n. n - 1) (nodes-counted _ _ taken)) c.formula-truth.ensures [] refl

pub returns : goal.returns
returns c =
    let taken = c.args.sheet.now.taken in
    let r = translatable taken c.cells-count.ensures c.cell_words-words.ensures in
    let n = ap (λ n. 2 + n) c.cells-count.ensures.0 in
    let l = c.formula-truth.result in
    let e : literal_of (read l) ≡ literal_of l = ap literal_of (back l (search rules)) in
    translates r n refl refl c.emit_clause.ensures c.members.ensures c.marks.ensures
    (ap (λ n. n - 1) (nodes-counted _ _ taken)) c.formula-truth.ensures (appends-as (rw e) c.emit_clause-2.ensures)
