-- `search_scan::scan` meets its contract. Assumes nothing.
use mathlib.Core.Path.{◌≡◌, refl, ap, ◌∙◌}
use native.Mathlib.Omega.{arith}
use lib.ListN.{get_or}
use lib.IntN.{pos}
use mir.Syntax.{w32}
use mir.Val.{to_z}
use borrow.Author.Rules.{sfits_of}
use Rattle.literal.specs.Words.{count_of}
use Rattle.literal.proofs.Signs.{back}
use Rattle.search_rules.specs.Rules.{literal}
use Rattle.search_scan.specs.Seen.{truth_code}
use Rattle.search_scan.proofs.ScanLoops.{Head, start, head_at, head-counts, enter, literal-in, is_true_lem, is_false}
use Rattle.search_scan.proofs.ScanLoops.{is_open, meets-first, meets-other, meets-same, done, on-held, on-skip, on-open}
use Rattle.search_scan.proofs.ScanLoops.{is-several}
use Rattle.search_scan.proofs.ScanLoops.{not-conflict, was-none, over-conflict, over-new, end_none, ends-neither}
use Rattle.search_scan.proofs.ScanLoops.{ends-unit}
use Rattle.search_scan.proofs.ScanLoops.{code-true, code-false, code-open, word-zero, word-some, word-same, word-other}
use Rattle.search_scan.proofs.scan.Goals as goal
use Rattle.search_scan.proofs.scan.Lts as lts
use Rattle.search_scan.proofs.scan.Tie as tie
use Rattle.search_scan.proofs.scan.Reads as reads
use Rattle.search_scan.proofs.scan.Goals.{then-t-eq2+else-unit-ne0+then-open-eq0}
use Rattle.search_scan.proofs.scan.Goals.{then-t-eq2+else-unit-ne0+else-open-eq0+else-open-l, else-t-eq2}

pub clauses-init : goal.clauses-init
clauses-init c = start _ _ c.requires.fine

pub known_count-count-requires : goal.known_count-count-requires
known_count-count-requires c =
    rw (back _ (sfits_of c.head-1.given)) (head-counts _ _ _ _ c.clauses.invariant c.clauses-test.true)

abbrev At-After-known_count : Type 0
At-After-known_count =
    lts.After-known_count tie.the-claims reads.Pre reads.Post goal.the-invariant-loop-i goal.the-decreases-loop-i
    goal.the-invariant-clauses goal.the-decreases-clauses tie.handed_clauses

abbrev At-After-truth : Type 0
At-After-truth =
    lts.After-truth tie.the-claims reads.Pre reads.Post goal.the-invariant-loop-i goal.the-decreases-loop-i
    goal.the-invariant-clauses goal.the-decreases-clauses tie.handed_clauses

head : (c : At-After-known_count)
    → Head c.args.list.now c.args.values.now c.clauses.at (to_z w32 c.clauses.unit-bits) c.known_count-count.result
head c = head_at _ _ _ _ c.clauses.invariant c.clauses-test.true _
    (c.known_count-count.ensures
    ∙ ap count_of (back (get_or c.args.list.now c.clauses.at (pos 0)) (sfits_of c.head-1.given)))

says : (c : At-After-truth) → c.truth-t.result
    ≡ truth_code (literal c.args.values.now (get_or c.args.list.now c.loop-i.i (pos 0)))
says c = rw (back _ (sfits_of c.l-1.given)) at c.truth-t.ensures

pub loop-i-init : goal.loop-i-init
loop-i-init c = enter _ _ _ _ _ (head c.before)

pub bounds-list-i : goal.bounds-list-i
bounds-list-i c = omega (arith, (head c.before.before.before).within)

pub truth-t-requires-clause-in_range : goal.truth-t-requires-clause-in_range
truth-t-requires-clause-in_range c =
    rw (back _ (sfits_of c.l-1.given))
    (literal-in _ _ _ _ _ (head c.before.before.before.before).within c.loop-i-test.true _ _ c.loop-i.invariant)

pub clauses-preserved-then-t-eq1 : goal.clauses-preserved-then-t-eq1
clauses-preserved-then-t-eq1 c =
    let hd = head c.before.before.before.before.before.before in
    on-held _ _ _ _ _ hd
    (is_true_lem _ _ _ _ _ hd.within c.loop-i-test.true _ _ c.loop-i.invariant
    (code-true _ _ (says c.before.before) c.if-t-eq1.true))

pub clauses-preserved-then-unit-ne0 : goal.clauses-preserved-then-unit-ne0
clauses-preserved-then-unit-ne0 c =
    let hd = head c.before.before.before.before.before.before.before.before in
    on-open _ _ _ _ _ hd _ refl
    (not-conflict _ _ _ _ _ hd.within c.loop-i-test.true _ _ c.loop-i.invariant
    (code-open _ _ (says c.before.before.before.before) c.if-t-eq2.true))
    (word-some _ c.clauses.known-fits-unit c.if-unit-ne0.true)

pub clauses-preserved-then-open-l : goal.clauses-preserved-then-open-l
clauses-preserved-then-open-l c =
    let hd = head c.before.before.before.before.before.before.before.before.before.before in
    let less = c.loop-i-test.true in
    let inv = c.loop-i.invariant in
    on-skip _ _ _ _ _ hd
    (is-several _ _ _ _ _ hd.within less _ _ inv
    (code-open _ _ (says c.before.before.before.before.before.before) c.if-t-eq2.true)
    (meets-other _ _ (literal-in _ _ _ _ _ hd.within less _ _ inv) _ _ inv.seen
    (word-some _ c.loop-i.known-fits-open c.if-open-eq0.false)
    (word-other _ _ c.loop-i.known-fits-open c.if-open-l.true)))

pub loop-i-preserved : goal.loop-i-preserved
loop-i-preserved c =
    let hd = head c.before.before.before.before.before.before.before in
    let less = c.loop-i-test.true in
    let inv = c.loop-i.invariant in
    let range = literal-in _ _ _ _ _ hd.within less _ _ inv in
    elim c.if-t-eq2.branch [
      | then-t-eq2+else-unit-ne0+then-open-eq0 w ↦
          is_open _ _ _ _ _ hd.within less _ _ inv _ (word-zero _ w.if-unit-ne0.false)
          (code-open _ _ (says c.before.before.before) w.if-t-eq2.true)
          (rw (w.open-is, back (get_or c.args.list.now c.loop-i.i (pos 0)) (sfits_of c.l-1.given))
          (meets-first _ _ range _ _ inv.seen (word-zero _ w.if-open-eq0.true)))
      | then-t-eq2+else-unit-ne0+else-open-eq0+else-open-l w ↦
          is_open _ _ _ _ _ hd.within less _ _ inv _ (word-zero _ w.if-unit-ne0.false)
          (code-open _ _ (says c.before.before.before) w.if-t-eq2.true)
          (rw w.open-is
          (meets-same _ _ range _ _ inv.seen (word-some _ c.loop-i.known-fits-open w.if-open-eq0.false)
          (word-same _ _ (sfits_of c.l-1.given) w.if-open-l.false)))
      | else-t-eq2 w ↦
          rw w.open-is
          (is_false _ _ _ _ _ hd.within less _ _ inv
          (code-false _ _ (says c.before.before.before) c.if-t-eq1.false w.if-t-eq2.false))
    ]

pub returns-then-open-eq0-2 : goal.returns-then-open-eq0-2
returns-then-open-eq0-2 c = over-conflict _ _ _ _ _ (head c.before.before.before.before) _
    (done _ _ _ _ _ _ _ c.loop-i-test.false c.loop-i.invariant) (word-zero _ c.if-open-eq0-2.true)

pub clauses-preserved : goal.clauses-preserved
clauses-preserved c =
    let some = word-some _ c.loop-i.known-fits-open c.if-open-eq0-2.false in
    over-new _ _ _ _ _ (head c.before.before.before.before) _
    (done _ _ _ _ _ _ _ c.loop-i-test.false c.loop-i.invariant) some (was-none _ _ c.loop-i.invariant.once some)

pub returns-then-unit-eq0 : goal.returns-then-unit-eq0
returns-then-unit-eq0 c = ends-neither c.args.values.now _ _
    (end_none _ _ _ _ c.clauses.invariant c.clauses-test.false) (word-zero _ c.if-unit-eq0.true)

pub returns : goal.returns
returns c = ends-unit c.args.values.now _ _
    (end_none _ _ _ _ c.clauses.invariant c.clauses-test.false)
    (word-some _ c.clauses.known-fits-unit c.if-unit-eq0.false)
