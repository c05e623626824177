-- `search_core::steps::step` meets its contract. Assumes nothing.
use mathlib.Core.Path.{◌≡◌, ◌∙◌, ap, sym}
use mathlib.Core.List.{List}
use Prim.Native.Nat.{ℕ, ◌≤◌}
use native.Mathlib.Omega.{arith}
use lib.IntN.{ℤ}
use lib.ListN.{length, get_or, set}
use mir.Facts.{to_z-of_z}
use Rattle.literal.specs.Words.{last_variable}
use Rattle.literal.proofs.Signs.{read}
use Rattle.clause_list.specs.ClauseList.{clauses_of}
use Rattle.search_rules.specs.Rules.{propagated, byte_of, place_of}
use Rattle.search_rules.specs.Inner.{Fine}
use Rattle.search_rules.proofs.Invariant.{OpenIn, first-unit-open}
use Rattle.search_rules.proofs.Ranges.{ranged}
use Rattle.search_rules.proofs.Found.{place-below}
use Rattle.search_scan.specs.Seen.{unit, seen}
use Rattle.search_scan.proofs.Words.{place-of}
use Rattle.search_core.proofs.Touches.{set-open}
use Rattle.search_core.proofs.StepCode.{saw-unit, low-open, range-fits, has_room, open-room, step-none, step-turn}
use Rattle.search_core.proofs.StepCode.{step-unit}
use Rattle.search_core.proofs.StepCode.{step-full, step-decide}
use Rattle.search_core.proofs.steps.step.Goals as goal

-- the literal of a unit clause
module _ (list : List ℤ) (values : List ℕ) (f : Fine (length values) list) (k : length values ≤ last_variable) (l : ℤ)
    (e : unit l ≡ seen values (clauses_of list)) where
  is-open : OpenIn (length values) values l
  is-open = first-unit-open _ _ _ _ (ranged _ _ f) (saw-unit _ _ _ e).1

  word-is : read l ≡ l
  word-is = to_z-of_z (range-fits _ _ is-open.0 k)

pub returns-then-n-eq0 : goal.returns-then-n-eq0
returns-then-n-eq0 c = record {
  stepped =
      λ state i.
      step-none _ _ _ _ _ i _ _ _ _ c.in-Conflict.ensures.result_value (c.back-n.ensures.turned state i)
      c.if-n-eq0.true;
  watched_2 = c.back-n.ensures.watched_2;
}

pub propagate-requires : goal.propagate-requires
propagate-requires c =
    let p = c.requires in
    let o = is-open _ _ p.fine p.values_len_bound _ c.in-UnitClause.ensures.result_value in record {
      values_len_bound = p.values_len_bound;
      in_range = rw (word-is _ _ p.fine p.values_len_bound _ c.in-UnitClause.ensures.result_value) o.0;
      used_in_bounds = open-room _ _ _ _ _ p.some_stored.stored _ o;
    }

pub place-requires : goal.place-requires
place-requires c =
    let p = c.requires in
    let o = is-open _ _ p.fine p.values_len_bound _ c.in-UnitClause.ensures.result_value in
    rw (word-is _ _ p.fine p.values_len_bound _ c.in-UnitClause.ensures.result_value)
    (o.0.0, (let h = o.0.1 in omega (arith, h, p.values_len_bound)))

pub touch-requires : goal.touch-requires
touch-requires c =
    let p = c.requires in
    let l = c.in-UnitClause.l in
    let values = c.args.values.now in
    let o = is-open _ _ p.fine p.values_len_bound _ c.in-UnitClause.ensures.result_value in
    let w : read l ≡ l = word-is _ _ p.fine p.values_len_bound _ c.in-UnitClause.ensures.result_value in
    let at : c.place.result ≡ place_of l = c.place.ensures ∙ place-of _ ∙ ap place_of w in
    let t = set-open _ values _ c.place.result (byte_of (propagated l)) _ _
    (rw w at c.propagate.ensures.values_after ∙ ap (λ n. set values n (byte_of (propagated l))) (sym at))
    (rw at (place-below (length values) l o.0)) (ap (λ n. get_or values n 2) at ∙ o.1) p.fine p.values_len_bound
    c.look-seen.ensures.watched_2
    in
    record { fine = t.0; values_len_bound = t.1.0; p_in_bounds = t.1.1.0; watched = t.1.1.1 }

pub overflow_add-result : goal.overflow_add-result
overflow_add-result c =
    let p = c.requires in
    omega (
      arith,
      open-room _ _ _ _ _ p.some_stored.stored _
          (is-open _ _ p.fine p.values_len_bound _ c.in-UnitClause.ensures.result_value),
      c.well_formed.1.1.0.0,
    )

pub returns-then-i-values : goal.returns-then-i-values
returns-then-i-values c = record {
  stepped = λ state i.
      step-full _ _ _ _ _ i _ _ c.in-Neither.ensures.result_value c.lowest_open-i.ensures c.if-i-values.true;
  watched_2 = c.look-seen.ensures.watched_2;
}

pub decide-requires : goal.decide-requires
decide-requires c =
    let p = c.requires in
    let w = (low-open _ _ c.lowest_open-i.ensures c.if-i-values.false).0 in
    let l = w.within in record {
      i_in_bounds = (l, omega (arith, l, p.values_len_bound));
      used_in_bounds = has_room _ _ _ _ _ p.some_stored.stored _ l w.is_open;
    }

pub touch-requires-in-Neither : goal.touch-requires-in-Neither
touch-requires-in-Neither c =
    let p = c.requires in
    let w = (low-open _ _ c.lowest_open-i.ensures c.if-i-values.false).0 in
    let t = set-open _ c.args.values.now _ _ 3 _ _ c.decide.ensures.values_after w.within w.is_open p.fine
    p.values_len_bound
    c.look-seen.ensures.watched_2
    in
    record { fine = t.0; values_len_bound = t.1.0; p_in_bounds = t.1.1.0; watched = t.1.1.1 }

pub overflow_add-result-in-Neither : goal.overflow_add-result-in-Neither
overflow_add-result-in-Neither c =
    let w = (low-open _ _ c.lowest_open-i.ensures c.if-i-values.false).0 in
    omega (arith, has_room _ _ _ _ _ c.requires.some_stored.stored _ w.within w.is_open, c.well_formed.1.1.0.0)

pub returns-else-n-eq0 : goal.returns-else-n-eq0
returns-else-n-eq0 c = record {
  stepped = λ state i.
      step-turn _ _ _ _ _ i _ _ _ _ c.in-Conflict.ensures.result_value (c.back-n.ensures.turned state i)
      c.if-n-eq0.false;
  watched_2 = c.back-n.ensures.watched_2;
}

pub returns-in-UnitClause : goal.returns-in-UnitClause
returns-in-UnitClause c =
    let p = c.requires in
    let e = c.in-UnitClause.ensures.result_value in
    let w : read c.in-UnitClause.l ≡ c.in-UnitClause.l = word-is _ _ p.fine p.values_len_bound _ e in record {
      stepped = λ state i.
          step-unit _ _ _ _ _ i _ _ _ _ e (is-open _ _ p.fine p.values_len_bound _ e)
          (rw w at c.propagate.ensures.values_after) (rw w at c.propagate.ensures.trail_after);
      watched_2 = c.touch.ensures;
    }

pub returns-else-i-values : goal.returns-else-i-values
returns-else-i-values c = record {
  stepped = λ state i.
      step-decide _ _ _ _ _ i _ _ _ _ c.in-Neither.ensures.result_value c.lowest_open-i.ensures c.if-i-values.false
      c.decide.ensures.values_after c.decide.ensures.trail_after;
  watched_2 = c.touch-in-Neither.ensures;
}
