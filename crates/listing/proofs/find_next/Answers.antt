-- `find_next` meets its contract: a call that found something had room for the values, and read-back takes them.
use Rattle.std.proofs.Common.{◌∙◌, sym, arith, length-take-le}
use Rattle.listing.proofs.NextCall.{found-wide}
use Rattle.listing.proofs.find_next.Goals as goal

pub slice_bounds-read_back-end : goal.slice_bounds-read_back-end
slice_bounds-read_back-end c =
    let a = c.args in
    let w = found-wide a.list.now a.v a.values.now a.trail.now a.position a.budget _ _ _ _ c.followed-call.ensures
    (sym c.is_found.ensures ∙ c.if-is_found.true) in
    omega (arith, w)

pub slice_bounds-read_back-end-then-is_found : goal.slice_bounds-read_back-end-then-is_found
slice_bounds-read_back-end-then-is_found c = sym (length-take-le _ c.followed-call.new.values (slice_bounds-read_back-end c))
