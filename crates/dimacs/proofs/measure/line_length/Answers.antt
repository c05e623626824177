use Rattle.std.proofs.Common.{◌≡◌, ◌+◌, ap, length, drop, arith, rules, get_or, pos}
use Rattle.literal.proofs.Signs.{read}
use Rattle.dimacs.specs.Text.{literal_text, clause_line}
use Rattle.dimacs.proofs.Lines.{line-length, line-end, line-some}
use Rattle.dimacs.proofs.measure.line_length.Goals as goal

-- the bytes counted with those of a literal and its space, and those of the line after it, are all
turn : (c : goal.After-literal_length)
    → c.loop-l.bytes + (c.literal_length.result + 1) + length (clause_line (drop (c.loop-l.l-index + 1) c.args.clause.now))
    ≡ length (clause_line c.args.clause.now) + 2
turn c =
    let w = get_or c.args.clause.now c.loop-l.l-index (pos 0) in
    let e : read w ≡ w = search rules in
    omega (
      arith,
      c.loop-l.invariant,
      line-length c.args.clause.now c.loop-l.l-index c.loop-l-test.true,
      c.literal_length.ensures,
      ap (λ l. length (literal_text l)) e,
    )

pub overflow_add-bytes : goal.overflow_add-bytes
overflow_add-bytes c = omega (arith, turn c, c.requires.clause_len_bound, line-some (drop (c.loop-l.l-index + 1) c.args.clause.now))

pub overflow_add-bytes-in-loop-l : goal.overflow_add-bytes-in-loop-l
overflow_add-bytes-in-loop-l c =
    omega (arith, turn c, c.requires.clause_len_bound, line-some (drop (c.loop-l.l-index + 1) c.args.clause.now))

pub loop-l-preserved : goal.loop-l-preserved
loop-l-preserved c = turn c

pub returns : goal.returns
returns c = omega (arith, c.loop-l.invariant, ap length (line-end c.args.clause.now c.loop-l.l-index (omega arith)))
