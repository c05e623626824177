-- Leaf by leaf as the definition.
use Rattle.nodes.specs.Environments.{environment}
use Rattle.clauses_kinds.proofs.LeafMatrices.{constant-leaf, identity-leaf}
use mathlib.Core.Path.{ap}
use native.Mathlib.Omega.{arith}
use Rattle.literal.specs.Literals.{Literal}
use Rattle.sheet_rules.proofs.Acceptance.{accepted-facts}
use Rattle.relational.specs.Matrices.{Matrix}
use Rattle.clauses_kinds.proofs.leaves.apply_leaf.Goals as goal

pub identity-requires : goal.identity-requires
identity-requires c =
    let h = c.atoms-in-Identity.ensures (λ x. 0) in
    let wide = ap (λ (m : Matrix Literal). m.columns) h.matrix in
    (omega (arith, wide, (accepted-facts _ _ c.args.source.now.sheet.taken).scope_few c.args.a), h.room)

pub returns-in-Relation : goal.returns-in-Relation
returns-in-Relation c = rw c.in-Relation.is (c.relation.ensures (environment c.args.env))

pub returns-in-Variable : goal.returns-in-Variable
returns-in-Variable c =
    rw c.in-Variable.is (constant-leaf c.single.ensures (rw (c.scope_of_variable.ensures.0, c.atom_at.ensures)))

pub returns-in-Atoms : goal.returns-in-Atoms
returns-in-Atoms c = rw c.in-Atoms.is (c.atoms.ensures (environment c.args.env))

pub returns-in-Identity : goal.returns-in-Identity
returns-in-Identity c =
    rw c.in-Identity.is (identity-leaf (c.atoms-in-Identity.ensures (environment c.args.env)) c.identity.ensures)
