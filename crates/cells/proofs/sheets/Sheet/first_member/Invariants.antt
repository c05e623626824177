-- The loop adds up the membership cells of the sorts before.
use mathlib.Core.Path.{◌≡◌}
use Prim.Native.Nat.{◌≤◌, ◌*◌}
use Rattle.sheet_rules.specs.Blocks.{sheet_of}
use Rattle.relational.specs.Cells.{first_member}
use Rattle.cells.proofs.sheets.Sheet.first_member.Given as goal

abbrev pub invariant-loop-k : goal.invariant-loop-k
invariant-loop-k l = (l.count ≡ first_member (sheet_of l.self.bytes.now) l.k) × (l.count ≤ 8 * l.k)
