-- Guarded, or the row alone.
use mathlib.Core.Path.{◌≡◌, refl, sym, ap, ◌∙◌}
use mathlib.Core.List.{List, [], ◌∷◌}
use Prim.Native.Nat.{ℕ, ◌-◌}
use native.Mathlib.Omega.{arith}
use lib.IntN.{pos}
use lib.ListN.{length, get_or, take, drop, length-drop}
use mir.Syntax.{w32}
use mir.Val.{SFits}
use borrow.Author.Rules.{rules}
use Rattle.literal.specs.Literals.{Literal, opposite}
use Rattle.literal.specs.Words.{literal_of}
use Rattle.literal.proofs.Signs.{read, back}
use Rattle.sheet_rules.specs.Blocks.{sheet_of, first_sort}
use Rattle.relational.specs.Cells.{member_cell}
use Rattle.cells.proofs.Layouts.{sort-low}
use Rattle.clauses_rules.specs.Gates.{Clause}
use Rattle.clauses_rules.specs.Translation.{literal_at}
use Rattle.clauses_emission.specs.Emission.{literals_of}
use Rattle.clauses_emission.proofs.Ranges.{opposite-read}
use Rattle.clauses_marks.proofs.Adding.{adds-as, adds-most, adds_one}
use Rattle.clauses_marks.proofs.Guards.{guarded-row, plain_row, guarded-bounded}
use Rattle.clauses_marks.proofs.Rows.{whole_row, part-is}
use Rattle.clauses_marks.proofs.row_clause.Goals as goal

pub member-requires : goal.member-requires
member-requires c =
    let s = c.args.source.now.sheet in
    let bounded = guarded-bounded (sheet_of s.bytes.now) c.args.r (sym c.is_guarded.ensures ∙ c.if-is_guarded.true)
    c.first_sort.ensures in
    (sort-low s.bytes.now s.taken c.first_sort.result bounded refl, c.requires.row_of.atom)

pub returns-then-is_guarded : goal.returns-then-is_guarded
returns-then-is_guarded c =
    let a = c.args in
    let sheet = sheet_of a.source.now.sheet.bytes.now in
    let cells = literals_of a.source.now.given.now in
    let row = a.row.now in
    let opp = c.opposite-guard in
    let mem = c.member in
    let m : literal_of mem.result ≡ literal_at sheet cells (member_cell sheet (first_sort sheet a.r) a.i) =
    mem.ensures ∙ ap (λ (k : ℕ). literal_at sheet cells (member_cell sheet k a.i)) c.first_sort.ensures
    in
    let e : literal_of (read opp.result) ≡ opposite (literal_of mem.result) =
    opposite-read 16002 mem.result opp.result (omega arith) (record { sfits = mem.type_inv })
    (rw m (a.source.now.inside _)) opp.ensures (record { sfits = opp.type_inv })
    in
    let g = ap (λ (l : Literal). (l ∷ literals_of row) ∷ []) (e ∙ ap opposite m) in
    adds-most
    (adds-as (adds_one (read opp.result) row c.emit_clause.ensures)
    (g ∙ guarded-row sheet cells a.r a.i (literals_of row) (sym c.is_guarded.ensures ∙ c.if-is_guarded.true)))
    (omega (arith, c.requires.row_of.members.few))

pub returns-else-is_guarded : goal.returns-else-is_guarded
returns-else-is_guarded c =
    let a = c.args in
    let ws = a.row.now in
    let w = get_or ws 0 (pos 0) in
    let fits : SFits w32 w = search rules in
    let others = take (length ws - 1) (drop 1 ws) in
    let e : ◌≡◌ {A = List Clause} ((literal_of (read w) ∷ literals_of others) ∷ []) (literals_of ws ∷ []) =
    ap (λ l. l ∷ [])
    (ap (λ z. literal_of z ∷ literals_of others) (back w fits) ∙ whole_row ws c.requires.row_of.some.some)
    in
    adds-most
    (adds-as (adds_one (read w) others c.emit_clause-else-is_guarded.ensures)
    (e ∙ plain_row (sheet_of a.source.now.sheet.bytes.now) (literals_of a.source.now.given.now) a.r a.i (literals_of ws)
    (sym c.is_guarded.ensures ∙ c.if-is_guarded.false)))
    (omega (arith, c.requires.row_of.members.few, ap length (part-is 1 ws), length-drop 1 ws))
