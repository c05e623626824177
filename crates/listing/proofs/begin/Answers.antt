-- `begin` meets its contract: what writing answers, and a refusal as text.
use mathlib.Core.Path.{sym, ap, ◌∙◌}
use native.Mathlib.Omega.{arith}
use Rattle.text.specs.Texts.{bytes_of, end_line}
use Rattle.text.proofs.Puts.{put_as}
use Rattle.clauses.specs.Answers.{answer_of, count_answer}
use Rattle.listing.specs.Printed.{as_finder}
use Rattle.listing.proofs.Beginning.{long-refused, long-list, short-writes, short-list, begins-refused, begins_cases}
use Rattle.listing.proofs.begin.Goals as goal

pub returns-then-input-gt4096 : goal.returns-then-input-gt4096
returns-then-input-gt4096 c =
    let h = c.if-input-gt4096.true in
    let e = c.put_end.ensures in
    let b = begins-refused _ 2 (long-refused c.args.input.now c.args.list.now h) e.put (omega (arith, e.upper_bound)) in record {
      value = b.0;
      list_after = sym (long-list c.args.input.now c.args.list.now h);
      result_in_bounds = b.1.0;
      prints = b.1.1;
    }

pub returns-in-Err : goal.returns-in-Err
returns-in-Err c =
    let h = c.if-input-gt4096.false in
    let w = sym c.write-written.ensures.result_value ∙ ap answer_of c.in-Err.is in
    let a = short-writes c.args.input.now c.args.list.now h ∙ ap (as_finder (count_answer c.args.input.now)) w in
    let e = c.put_end-bytes.ensures in
    let n = c.number.ensures ∙ c.finder_refusal-told.ensures in
    let b = begins-refused _ _ a (put_as (ap (end_line (bytes_of "refused ")) n) e.put) (omega (arith, e.upper_bound)) in record {
      value = b.0;
      list_after = c.write-written.ensures.list_after ∙ sym (short-list c.args.input.now c.args.list.now h);
      result_in_bounds = b.1.0;
      prints = b.1.1;
    }

pub returns-in-Ok : goal.returns-in-Ok
returns-in-Ok c =
    let h = c.if-input-gt4096.false in
    let a = short-writes c.args.input.now c.args.list.now h
    ∙ ap (as_finder (count_answer c.args.input.now)) (sym c.write-written.ensures.result_value ∙ ap answer_of c.in-Ok.is) in
    let b = begins_cases _ c.in-Ok.size a c.args.text.now in record {
      value = b.0;
      list_after = c.write-written.ensures.list_after ∙ sym (short-list c.args.input.now c.args.list.now h);
      result_in_bounds = b.1.0;
      prints = b.1.1;
    }
