-- The digits, and a minus; a number of 32 bits has at most 10 digits.
use Rattle.std.proofs.Common.{◌≡◌, ◌∙◌, length, sym, ap, rules, arith}
use Rattle.text.proofs.Decimals.{decimal-short}
use Rattle.literal.proofs.Signs.{read}
use Rattle.dimacs.proofs.Lines.{positive-word, negative-word}
use Rattle.dimacs.proofs.measure.literal_length.Goals as goal

pub overflow_add-result : goal.overflow_add-result
overflow_add-result c = omega (arith, c.decimal_length-digits.ensures, decimal-short 9 c.variable.result (omega arith))

pub returns-then-is_positive : goal.returns-then-is_positive
returns-then-is_positive c =
    let e : read c.args.l ≡ c.args.l = search rules in
    c.decimal_length-digits.ensures
    ∙ ap length (sym (positive-word e c.variable.ensures c.is_positive.ensures c.if-is_positive.true))

pub returns-else-is_positive : goal.returns-else-is_positive
returns-else-is_positive c =
    let e : read c.args.l ≡ c.args.l = search rules in
    omega (
      arith,
      c.decimal_length-digits.ensures,
      ap length (negative-word e c.variable.ensures c.is_positive.ensures c.if-is_positive.false c.requires),
    )
