-- `next_text` meets its contract: what the call and read-back ensure, as text.
use native.Mathlib.Omega.{arith}
use Rattle.listing.proofs.NextCall.{steps-fit, ensured}
use Rattle.listing.proofs.next_text.Goals as goal

pub put_answer-bytes-requires : goal.put_answer-bytes-requires
put_answer-bytes-requires c =
    let a = c.args in record {
      in_bounds = omega arith;
      steps_bound = steps-fit a.list.now a.v a.values.now a.trail.now a.position a.budget _ _ _ _ c.find_next-call.ensures.position_after;
    }

pub returns : goal.returns
returns c =
    let a = c.args in
    let e = c.put_answer-bytes.ensures in
    let h = ensured a.list.now a.v a.values.now a.trail.now a.position a.budget _ _ _ _ c.find_next-call.ensures.position_after
    a.input.now a.instance.now _ c.find_next-call.ensures.instance_after e.put (omega (arith, e.upper_bound)) c.is_found.ensures in
    record {
      bytes_in_bounds = h.0;
      prints = h.1.0;
      more_value = h.1.1.0;
      position_after = h.1.1.1.0;
      instance_after = h.1.1.1.1;
    }
