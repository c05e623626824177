-- Leaf by leaf as the definition.
use Rattle.nodes.specs.Environments.{environment}
use Rattle.instance_evaluation.proofs.Instance.leaf.Goals as goal

pub identity-requires : goal.identity-requires
identity-requires c = (c.atoms-in-Identity.ensures (λ x. 0)).fine

pub returns-in-Relation : goal.returns-in-Relation
returns-in-Relation c = rw c.in-Relation.is (c.relation.ensures (environment c.args.env))

pub returns-in-Variable : goal.returns-in-Variable
returns-in-Variable c =
    rw (c.in-Variable.is, ← c.atom_at.ensures, ← c.scope_of_variable.ensures.0) c.single.ensures

pub returns-in-Atoms : goal.returns-in-Atoms
returns-in-Atoms c = rw c.in-Atoms.is (c.atoms.ensures (environment c.args.env))

pub returns-in-Identity : goal.returns-in-Identity
returns-in-Identity c =
    rw c.in-Identity.is (c.identity.ensures _ _ (c.atoms-in-Identity.ensures (environment c.args.env)).is)
