-- What `find_on` ensures, as text.
use Rattle.std.proofs.Common.{arith}
use Rattle.solve_rules.specs.Finding.{slices}
use Rattle.report.proofs.Printing.{reportable, long-input, short-input}
use Rattle.onward.specs.Limits.{most_steps}
use Rattle.onward.proofs.find_on_text.Goals as goal

pub returns-then-input-gt4096-clause-prints : goal.returns-then-input-gt4096-clause-prints
returns-then-input-gt4096-clause-prints c =
    let lent = slices c.args.list.now c.args.values.now c.args.trail.now c.args.instance.now in
    let e = c.put_end.ensures in
    (long-input most_steps c.args.input.now lent c.if-input-gt4096.true e.put (omega (arith, e.upper_bound))).1.0

pub returns-then-input-gt4096-clause-instance_after : goal.returns-then-input-gt4096-clause-instance_after
returns-then-input-gt4096-clause-instance_after c =
    let lent = slices c.args.list.now c.args.values.now c.args.trail.now c.args.instance.now in
    let e = c.put_end.ensures in
    (long-input most_steps c.args.input.now lent c.if-input-gt4096.true e.put (omega (arith, e.upper_bound))).1.1.0

pub returns-then-input-gt4096-clause-tells : goal.returns-then-input-gt4096-clause-tells
returns-then-input-gt4096-clause-tells c =
    let lent = slices c.args.list.now c.args.values.now c.args.trail.now c.args.instance.now in
    let e = c.put_end.ensures in
    (long-input most_steps c.args.input.now lent c.if-input-gt4096.true e.put (omega (arith, e.upper_bound))).1.1.1

pub put_report-requires-clause-fits_limits : goal.put_report-requires-clause-fits_limits
put_report-requires-clause-fits_limits c =
    let lent = slices c.args.list.now c.args.values.now c.args.trail.now c.args.instance.now in
    (reportable most_steps c.args.input.now lent _ (omega arith) c.find_on-ended.ensures.result_value).0

pub put_report-requires-clause-steps_bound : goal.put_report-requires-clause-steps_bound
put_report-requires-clause-steps_bound c =
    let lent = slices c.args.list.now c.args.values.now c.args.trail.now c.args.instance.now in
    (reportable most_steps c.args.input.now lent _ (omega arith) c.find_on-ended.ensures.result_value).1

pub returns-clause-prints : goal.returns-clause-prints
returns-clause-prints c =
    let lent = slices c.args.list.now c.args.values.now c.args.trail.now c.args.instance.now in
    let f = c.find_on-ended.ensures in
    let e = c.put_report.ensures in
    (short-input most_steps c.args.input.now lent (omega (arith, c.if-input-gt4096.false)) f.result_value f.instance_after e.put
    (omega (arith, e.upper_bound))).1.0

pub returns-clause-instance_after : goal.returns-clause-instance_after
returns-clause-instance_after c =
    let lent = slices c.args.list.now c.args.values.now c.args.trail.now c.args.instance.now in
    let f = c.find_on-ended.ensures in
    let e = c.put_report.ensures in
    (short-input most_steps c.args.input.now lent (omega (arith, c.if-input-gt4096.false)) f.result_value f.instance_after e.put
    (omega (arith, e.upper_bound))).1.1.0

pub returns-clause-tells : goal.returns-clause-tells
returns-clause-tells c =
    let lent = slices c.args.list.now c.args.values.now c.args.trail.now c.args.instance.now in
    let f = c.find_on-ended.ensures in
    let e = c.put_report.ensures in
    (short-input most_steps c.args.input.now lent (omega (arith, c.if-input-gt4096.false)) f.result_value f.instance_after e.put
    (omega (arith, e.upper_bound))).1.1.1
