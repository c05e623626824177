use native.Mathlib.Omega.{arith}
use Rattle.relational.proofs.Scopes.{bounded-there}
use Rattle.sheet_rules.specs.Blocks.{sheet_of}
use Rattle.sheet_rules.proofs.Acceptance.{accepted-facts}
use Rattle.clauses_kinds.proofs.Sources.{members-end}
use Rattle.clauses_kinds.proofs.source.Source.members.Goals as goal

pub first_member-requires : goal.first_member-requires
first_member-requires c =
    let s = c.args.self.now.sheet in
    omega (arith, bounded-there (sheet_of s.bytes.now) c.args.sort c.requires, (accepted-facts _ _ s.taken).counts.few_sorts)

pub cells-requires : goal.cells-requires
cells-requires c = omega (
  arith,
  c.first_member.ensures.0,
  c.scope.ensures.0,
  members-end (sheet_of c.args.self.now.sheet.bytes.now) c.args.sort c.requires,
)

pub returns : goal.returns
returns c = rw (← c.first_member.ensures.0, ← c.scope.ensures.0) c.cells.ensures
