-- `measure` meets its contract; the lines are a part of the text, whose length fits.
use Rattle.std.proofs.Common.{◌≡◌, ◌<◌, ◌^◌, ap, length, refl, arith, ℕ, List, true}
use lib.IntN.{ℤ}
use Rattle.clause_list.specs.ClauseList.{clauses_of, is_list}
use Rattle.clause_list.proofs.Laws.{clauses-few}
use Rattle.dimacs.specs.Text.{clause_lines, header}
use Rattle.dimacs.proofs.Lines.{text-length, text-length-fits}
use Rattle.dimacs.proofs.Walks.{cut_listed, counted_none, counted_next, counted-all}
use Rattle.dimacs.proofs.measure.measure.Goals as goal

fitting : (v : ℕ) (ws : List ℤ) → is_list v ws ≡ true → length (clause_lines (clauses_of ws)) < 2 ^ 34
fitting v ws e = omega (arith, text-length v ws, text-length-fits v ws e)

pub loop-clause-init : goal.loop-clause-init
loop-clause-init c = counted_none c.args.list.now (cut_listed (record { variables = c.args.v; passes = c.requires }))

pub line_length-lines-requires-clause-clause_len_bound : goal.line_length-lines-requires-clause-clause_len_bound
line_length-lines-requires-clause-clause_len_bound c =
    let n = counted_next c.loop-clause.invariant c.in-Some.ensures refl in
    omega (arith, n.lines_left, fitting c.args.v c.args.list.now c.requires)

pub overflow_add-lines : goal.overflow_add-lines
overflow_add-lines c =
    let n = counted_next c.loop-clause.invariant c.in-Some.ensures c.line_length-lines.ensures in
    omega (arith, n.lines_left, fitting c.args.v c.args.list.now c.requires)

pub overflow_add-clauses : goal.overflow_add-clauses
overflow_add-clauses c =
    let n = counted_next c.loop-clause.invariant c.in-Some.ensures c.line_length-lines.ensures in
    omega (arith, n.clauses_left, clauses-few c.args.list.now, c.well_formed)

pub loop-clause-preserved : goal.loop-clause-preserved
loop-clause-preserved c = counted_next c.loop-clause.invariant c.in-Some.ensures c.line_length-lines.ensures

pub overflow_add-bytes : goal.overflow_add-bytes
overflow_add-bytes c =
    let n = counted-all c.loop-clause.invariant c.in_default.ensures in
    omega (
      arith,
      c.header_length.ensures,
      ap (λ k. length (header c.args.v k)) n.0,
      n.1,
      text-length c.args.v c.args.list.now,
      text-length-fits c.args.v c.args.list.now c.requires,
    )

pub returns-clause-clauses_value : goal.returns-clause-clauses_value
returns-clause-clauses_value c = (counted-all c.loop-clause.invariant c.in_default.ensures).0

pub returns-clause-bytes_value : goal.returns-clause-bytes_value
returns-clause-bytes_value c =
    let n = counted-all c.loop-clause.invariant c.in_default.ensures in
    omega (
      arith,
      c.header_length.ensures,
      ap (λ k. length (header c.args.v k)) n.0,
      n.1,
      text-length c.args.v c.args.list.now,
    )
