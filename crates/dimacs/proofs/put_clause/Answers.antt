-- `put_clause` meets its contract: literal by literal, and the closing 0.
use Rattle.std.proofs.Common.{◌≡◌, ◌∷◌, ◌++◌, sym, ap, suc, length, drop, get_or, pos, arith, rules, add-one, List, ℕ, ◌<◌}
use lib.IntN.{ℤ}
use Rattle.text.specs.Puts.{Put}
use Rattle.text.proofs.Puts.{put_byte, put_as, room-first, Left, left_as, left-room, left-put, left-last}
use Rattle.literal.proofs.Signs.{read}
use Rattle.dimacs.specs.Text.{literal_text, clause_line}
use Rattle.dimacs.proofs.Lines.{line-from, line-end}
use Rattle.dimacs.proofs.put_clause.Goals as goal

module _ {old whole text : List ℕ} {at end i : ℕ} (clause : List ℤ) (h : i < length clause)
    (l : Left old at whole text end (clause_line (drop i clause))) where
  -- a literal of the line is next
  literal-next : Left old at whole text end (literal_text (get_or clause i (pos 0)) ++ (32 ∷ clause_line (drop (suc i) clause)))
  literal-next = left_as (line-from clause i h) l

  -- the literal was put
  literal-put : {w : ℤ} {new : List ℕ} {e : ℕ} → w ≡ get_or clause i (pos 0) → Put text end (literal_text w) new e
      → Left old at whole new e (32 ∷ clause_line (drop (suc i) clause))
  literal-put r p = left-put literal-next (put_as (ap literal_text r) p)

pub put_literal-end-requires-clause-room : goal.put_literal-end-requires-clause-room
put_literal-end-requires-clause-room c =
    let w = get_or c.args.clause.now c.loop-l.l-index (pos 0) in
    let e : read w ≡ w = search rules in
    rw e (room-first _ _ (literal_text w) _ (left-room c.requires.room (literal-next c.args.clause.now c.loop-l-test.true c.loop-l.invariant)))

pub bounds-text-end : goal.bounds-text-end
bounds-text-end c =
    let w = get_or c.args.clause.now c.loop-l.l-index (pos 0) in
    let e : read w ≡ w = search rules in
    let l = literal-put c.args.clause.now c.loop-l-test.true c.loop-l.invariant e c.put_literal-end.ensures in
    omega (arith, left-room c.requires.room l)

pub overflow_add-end : goal.overflow_add-end
overflow_add-end c =
    let w = get_or c.args.clause.now c.loop-l.l-index (pos 0) in
    let e : read w ≡ w = search rules in
    let l = literal-put c.args.clause.now c.loop-l-test.true c.loop-l.invariant e c.put_literal-end.ensures in
    omega (arith, left-room c.requires.room l, l.same, c.well_formed)

pub loop-l-preserved : goal.loop-l-preserved
loop-l-preserved c =
    let w = get_or c.args.clause.now c.loop-l.l-index (pos 0) in
    let e : read w ≡ w = search rules in
    let p = c.put_literal-end in
    let l = literal-put c.args.clause.now c.loop-l-test.true c.loop-l.invariant e p.ensures in
    left_as (ap (λ (n : ℕ). clause_line (drop n c.args.clause.now)) (sym (add-one c.loop-l.l-index)))
    (left-put l (put_byte p.new.text p.result 32))

pub put_bytes-requires : goal.put_bytes-requires
put_bytes-requires c =
    left-room c.requires.room (left_as (line-end c.args.clause.now c.loop-l.l-index (omega arith)) c.loop-l.invariant)

pub returns : goal.returns
returns c = left-last (left_as (line-end c.args.clause.now c.loop-l.l-index (omega arith)) c.loop-l.invariant) c.put_bytes.ensures
