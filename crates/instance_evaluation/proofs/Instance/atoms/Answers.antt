-- Of a bounded sort its cells.
use mathlib.Core.Path.{◌≡◌, sym, ap, ◌∙◌}
use Prim.Native.Nat.{ℕ, ◌*◌}
use native.Mathlib.Omega.{arith}
use Rattle.sheet_rules.specs.Blocks.{sheet_of}
use Rattle.relational.specs.Matrices.{set_of}
use Rattle.relational.specs.Evaluation.{flag_at}
use Rattle.cells.proofs.Layouts.{sort-low}
use Rattle.cells.proofs.Members.{bounded-atoms}
use Rattle.instance_matrix.specs.Values.{flags_from}
use Rattle.instance_matrix.proofs.Results.{gives_as}
use Rattle.instance_evaluation.proofs.Instance.atoms.Goals as goal

pub first_member-requires : goal.first_member-requires
first_member-requires c =
    omega (arith, sort-low _ c.args.self.now.sheet.taken c.args.sort c.is_bounded.ensures c.if-is_bounded.true)

pub given-requires-clause-first_le_most_cells : goal.given-requires-clause-first_le_most_cells
given-requires-clause-first_le_most_cells c =
    let low = sort-low _ c.args.self.now.sheet.taken c.args.sort c.is_bounded.ensures c.if-is_bounded.true in
    (omega (arith, low, c.first_member.ensures.1), (omega arith, c.scope-n.ensures.1))

pub returns-then-is_bounded : goal.returns-then-is_bounded
returns-then-is_bounded c env =
    let sheet = sheet_of c.args.self.now.sheet.bytes.now in
    let instance = c.args.self.now.cells.now in
    let n = c.scope-n in
    let first = c.first_member in
    let one : 1 * n.result ≡ n.result = omega arith in
    gives_as _ _ _
    (ap (λ (m : ℕ). set_of n.result (flags_from instance first.result m)) one
    ∙ bounded-atoms sheet (flag_at sheet instance) (λ b. b) c.args.sort env n.ensures.0 first.ensures.0
    (sym c.is_bounded.ensures ∙ c.if-is_bounded.true))
    c.given.ensures
