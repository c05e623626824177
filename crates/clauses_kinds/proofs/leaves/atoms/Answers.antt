use mathlib.Core.Path.{sym, ◌∙◌}
use native.Mathlib.Omega.{arith}
use Rattle.sheet_rules.specs.Blocks.{sheet_of}
use Rattle.cells.proofs.Layouts.{sort-low}
use Rattle.cells.proofs.Members.{full-atoms}
use Rattle.clauses_rules.specs.Translation.{constant, literal_at}
use Rattle.clauses_emission.specs.Emission.{literals_of}
use Rattle.clauses_kinds.proofs.LeafMatrices.{members-from, constant-leaf}
use Rattle.clauses_kinds.proofs.leaves.atoms.Goals as goal

pub first_member-requires : goal.first_member-requires
first_member-requires c =
    let s = c.args.sheet.now in
    omega (arith, sort-low s.bytes.now s.taken c.args.sort c.is_bounded.ensures c.if-is_bounded.true)

pub copied-requires : goal.copied-requires
copied-requires c =
    let s = c.args.sheet.now in
    let low = sort-low s.bytes.now s.taken c.args.sort c.is_bounded.ensures c.if-is_bounded.true in
    (omega (arith, low, c.first_member.ensures.1), omega (arith, c.scope-n.ensures.1))

pub returns-then-is_bounded : goal.returns-then-is_bounded
returns-then-is_bounded c env =
    let a = c.args in
    rw c.set.ensures
    (members-from a.given.now a.sort env _ c.scope-n.ensures c.first_member.ensures.0
    (sym c.is_bounded.ensures ∙ c.if-is_bounded.true) c.copied.ensures)

pub returns-else-is_bounded : goal.returns-else-is_bounded
returns-else-is_bounded c env =
    let a = c.args in
    let sheet = sheet_of a.sheet.now.bytes.now in
    constant-leaf c.full.ensures
    (full-atoms sheet (literal_at sheet (literals_of a.given.now)) constant a.sort env c.scope-n.ensures.0
    (sym c.is_bounded.ensures ∙ c.if-is_bounded.false))
