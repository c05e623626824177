-- The text of the literal, by its sign.
use Rattle.std.proofs.Common.{◌≡◌, sym, ap, length, arith, rules}
use lib.ListN.{length-set}
use Rattle.text.proofs.Puts.{put_byte, put_both, put_as}
use Rattle.literal.proofs.Signs.{read}
use Rattle.dimacs.proofs.Lines.{positive-word, negative-word}
use Rattle.dimacs.proofs.put_literal.Goals as goal

pub put_decimal-requires : goal.put_decimal-requires
put_decimal-requires c =
    let e : read c.args.l ≡ c.args.l = search rules in
    let t = positive-word e c.variable-n.ensures c.is_positive.ensures c.if-is_positive.true in
    rw (← t) c.requires.room

pub returns-then-is_positive : goal.returns-then-is_positive
returns-then-is_positive c =
    let e : read c.args.l ≡ c.args.l = search rules in
    put_as (sym (positive-word e c.variable-n.ensures c.is_positive.ensures c.if-is_positive.true)) c.put_decimal.ensures

pub bounds-text-at : goal.bounds-text-at
bounds-text-at c =
    let e : read c.args.l ≡ c.args.l = search rules in
    let t = negative-word e c.variable-n.ensures c.is_positive.ensures c.if-is_positive.false c.requires.bound in
    omega (arith, c.requires.room, ap length t)

pub put_decimal-requires-else-is_positive : goal.put_decimal-requires-else-is_positive
put_decimal-requires-else-is_positive c =
    let e : read c.args.l ≡ c.args.l = search rules in
    let t = negative-word e c.variable-n.ensures c.is_positive.ensures c.if-is_positive.false c.requires.bound in
    simp length-set (omega (arith, c.requires.room, ap length t))

pub returns-else-is_positive : goal.returns-else-is_positive
returns-else-is_positive c =
    let e : read c.args.l ≡ c.args.l = search rules in
    put_as (sym (negative-word e c.variable-n.ensures c.is_positive.ensures c.if-is_positive.false c.requires.bound))
    (put_both (put_byte c.args.text.now c.args.at 45) c.put_decimal-else-is_positive.ensures)
