-- `find_sized` meets its contract: each length is looked at before anything is written.
use Prim.Native.Nat.{◌≤◌}
use native.Mathlib.Omega.{arith}
use Rattle.sheet_rules.specs.Blocks.{sheet_of}
use Rattle.relational.specs.Cells.{cell_count}
use Rattle.search.specs.Answers.{refused}
use Rattle.solve_rules.specs.Finding.{Slices}
use Rattle.solve.specs.Private.{Left}
use Rattle.solve_rules.proofs.Findings.{Room}
use Rattle.solve.proofs.FindLaws.{too-many-words, too_short, fitting}
use Rattle.solve.proofs.find_sized.Goals as goal
use mathlib.Core.List.{List}
use Prim.Native.Nat.{ℕ, ◌≤◌}
use mathlib.Core.Path.{◌≡◌}
use Rattle.clauses.specs.declared.answer.Size.{Size}
use Rattle.clauses.specs.Answers.{fits, count_answer}

-- some slice has no room
module _ {s : List ℕ} {lent : Slices} {budget : ℕ} {z : Size} (e : count_answer s ≡ fits z.variables z.clauses z.words)
    (h : z.words ≤ 2147483647) where
  declines : (Room z.words z.variables (cell_count (sheet_of s)) lent → ⊥) → Left s lent budget (refused 13) lent
  declines short = too_short s lent budget z.variables z.clauses z.words e h short

pub returns-then-words-gt2147483647 : goal.returns-then-words-gt2147483647
returns-then-words-gt2147483647 c =
    let z = c.args.size in
    too-many-words c.args.sheet.now _ c.args.budget z.variables z.clauses z.words c.requires.sheet_value
    c.if-words-gt2147483647.true

pub returns-then-list-words : goal.returns-then-list-words
returns-then-list-words c =
    declines c.requires.sheet_value c.if-words-gt2147483647.false λ r. omega (arith, r.list, c.if-list-words.true)

pub returns-then-values-variables : goal.returns-then-values-variables
returns-then-values-variables c =
    declines c.requires.sheet_value c.if-words-gt2147483647.false λ r. omega
    (arith, r.values, c.if-values-variables.true)

pub returns-then-trail-variables : goal.returns-then-trail-variables
returns-then-trail-variables c =
    declines c.requires.sheet_value c.if-words-gt2147483647.false λ r. omega (arith, r.trail, c.if-trail-variables.true)

pub returns-then-instance-cells : goal.returns-then-instance-cells
returns-then-instance-cells c =
    declines c.requires.sheet_value c.if-words-gt2147483647.false λ r.
    omega (arith, r.instance, c.if-instance-cells.true, c.requires.cells_value)

pub find_in-requires : goal.find_in-requires
find_in-requires c =
    fitting c.args.sheet.now _ c.args.size c.args.cells c.requires.sheet_value c.requires.cells_value
    c.if-words-gt2147483647.false
    (record {
      list = c.if-list-words.false;
      values = c.if-values-variables.false;
      trail = c.if-trail-variables.false;
      instance = c.if-instance-cells.false;
    })
