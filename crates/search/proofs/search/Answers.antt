-- `search::search` meets its contract: 12, then 13, and then the run.
use Rattle.std.proofs.Common.{◌≡◌, ◌∙◌, sym, length, take, length-take-le, arith}
use Rattle.clause_list.proofs.Laws.{list-most-variables}
use Rattle.search_rules.proofs.Ranges.{fine-list}
use Rattle.search.proofs.Outcomes.{no-list, short-values, short-trail, runs, declines, finishes}
use Rattle.search.proofs.search.Goals as goal

pub returns-then-not-is_list : goal.returns-then-not-is_list
returns-then-not-is_list c =
    let a = c.args in
    let d = declines 12 a.values.now a.trail.now _
    (no-list a.list.now a.v a.values.now a.trail.now a.budget (sym c.is_list.ensures ∙ c.if-not-is_list.true)) in
    record { result_value = d.0; values_after = d.1.0; trail_after = d.1.1 }

pub returns-then-values-n : goal.returns-then-values-n
returns-then-values-n c =
    let a = c.args in
    let d = declines 13 a.values.now a.trail.now _
    (short-values a.list.now a.v a.values.now a.trail.now a.budget (sym c.is_list.ensures ∙ c.if-not-is_list.false)
    c.if-values-n.true) in
    record { result_value = d.0; values_after = d.1.0; trail_after = d.1.1 }

pub returns-then-trail-n : goal.returns-then-trail-n
returns-then-trail-n c =
    let a = c.args in
    let d = declines 13 a.values.now a.trail.now _
    (short-trail a.list.now a.v a.values.now a.trail.now a.budget (sym c.is_list.ensures ∙ c.if-not-is_list.false)
    c.if-trail-n.true) in
    record { result_value = d.0; values_after = d.1.0; trail_after = d.1.1 }

pub fresh-requires : goal.fresh-requires
fresh-requires c =
    let l = sym c.is_list.ensures ∙ c.if-not-is_list.false in
    let w = length-take-le c.args.v c.args.values.now c.if-values-n.false in record {
      fine = rw w (fine-list _ _ l);
      values_len_bound = rw w (omega (arith, list-most-variables _ _ l));
      trail_len = length-take-le c.args.v c.args.trail.now c.if-trail-n.false ∙ sym w;
    }

pub returns : goal.returns
returns c =
    let a = c.args in
    let e = rw (length-take-le a.v a.values.now c.if-values-n.false) at c.fresh.ensures in
    let d = finishes a.v _ a.values.now _ a.trail.now _ _ _
    (runs a.list.now a.v a.values.now a.trail.now a.budget (sym c.is_list.ensures ∙ c.if-not-is_list.false) c.if-values-n.false
    c.if-trail-n.false)
    e.result_value e.values_after e.trail_after in
    record { result_value = d.0; values_after = d.1.0; trail_after = d.1.1 }
