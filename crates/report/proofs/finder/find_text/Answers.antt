-- `find_text` meets its contract: what `find` ensures, as text.
use native.Mathlib.Omega.{arith}
use Rattle.solve_rules.specs.Finding.{slices}
use Rattle.report.specs.Printed.{finder_budget}
use Rattle.report.proofs.Printing.{reportable, long-input, short-input}
use Rattle.report.proofs.finder.find_text.Goals as goal

pub returns-then-input-gt4096 : goal.returns-then-input-gt4096
returns-then-input-gt4096 c =
    let a = c.args in
    let e = c.put_end.ensures in
    let h = long-input finder_budget a.input.now (slices a.list.now a.values.now a.trail.now a.instance.now)
    c.if-input-gt4096.true e.put (omega (arith, e.upper_bound)) in
    record { upper_bound = h.0; prints = h.1.0; instance_after = h.1.1.0; tells = h.1.1.1 }

pub put_report-requires : goal.put_report-requires
put_report-requires c =
    let a = c.args in
    let h = reportable finder_budget a.input.now (slices a.list.now a.values.now a.trail.now a.instance.now) _
    (omega arith) c.find-ended.ensures.result_value in
    record { in_bounds = omega arith; fits_limits = h.0; steps_bound = h.1 }

pub returns : goal.returns
returns c =
    let a = c.args in
    let f = c.find-ended.ensures in
    let e = c.put_report.ensures in
    let h = short-input finder_budget a.input.now (slices a.list.now a.values.now a.trail.now a.instance.now)
    c.if-input-gt4096.false f.result_value f.instance_after e.put (omega (arith, e.upper_bound)) in
    record { upper_bound = h.0; prints = h.1.0; instance_after = h.1.1.0; tells = h.1.1.1 }
