use Rattle.std.proofs.Common.{◌≡◌, [], length, replicate, pos, arith, rules}
use Rattle.search_core.proofs.Slices as slices
use Rattle.search.proofs.Resuming.{none_done}
use Rattle.search.proofs.runs.fresh.Goals as goal

pub go_on-ended-requires : goal.go_on-ended-requires
go_on-ended-requires c =
    let v = length c.args.values.now in
    let all-open : c.fill.new.self ≡ replicate v 2 = search rules in
    let all-clear : c.fill-2.new.self ≡ replicate v (pos 0) = search rules in
    let held = slices.fresh v c.fill.new.self c.fill-2.new.self all-open all-clear in record {
      fine = rw c.fill.ensures.len c.requires.fine;
      values_len_bound = rw c.fill.ensures.len c.requires.values_len_bound;
      some_stored = record { state = []; stored = rw c.fill.ensures.len held };
      budget_bound = none_done c.args.budget (omega (arith, c.ranges.budget));
    }

pub returns : goal.returns
returns c =
    let v = length c.args.values.now in
    let all-open : c.fill.new.self ≡ replicate v 2 = search rules in
    let all-clear : c.fill-2.new.self ≡ replicate v (pos 0) = search rules in
    let held = slices.fresh v c.fill.new.self c.fill-2.new.self all-open all-clear in
    let f = (rw c.fill.ensures.len at c.go_on-ended.ensures) [] held in record {
      result_value = f.answer_is;
      values_after = f.values_are;
      trail_after = f.trail_is;
    }
