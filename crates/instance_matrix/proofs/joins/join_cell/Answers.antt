use Rattle.std.proofs.Common.{◌≡◌, ℕ, ◌+◌, ◌*◌, Bool, false, get_or, ◌∙◌, refl, rules, tests, arith}
use Rattle.std.specs.List.{list_any, range_with_len}
use Rattle.std.proofs.lemmas.Iterator.{YieldsList-from_range}
use Rattle.std.proofs.lemmas.Iterator.Search.{any_from_yields_List}
use Rattle.relational.specs.Evaluation.{both}
use Rattle.instance_matrix.proofs.Counting.{any-from}
use Rattle.instance_matrix.proofs.Results.{middle-cells}
use Rattle.instance_matrix.proofs.joins.join_cell.Goals as goal

pub returns : goal.returns
returns c =
    let a = c.args in
    let pair : ℕ → Bool × Bool
    = λ k. (get_or a.p.cells (a.i * a.p.columns + k) false, get_or a.q.cells (k * a.columns + a.j) false) in
    let e : c.any.result ≡ list_any (λ k. both (pair k)) (range_with_len 0 a.p.columns)
    = any_from_yields_List (λ k. both (pair k)) _ _ _ c.any.ensures.ran (YieldsList-from_range 0 a.p.columns a.p.columns refl (omega arith)) (λ x b q k. search (rules, tests)) in
    rw (middle-cells a.p a.q c.requires.fine c.requires.fine_2 a.i a.j, ← c.requires.columns_value.0) (e ∙ any-from both pair 0 _)
