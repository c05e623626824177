use Rattle.std.proofs.Common.{◌≡◌, ℕ, Bool, false, get_or, refl, ap, sym, ◌∙◌, rules, arith}
use Rattle.std.specs.List.{list_all, range_with_len}
use Rattle.std.proofs.lemmas.Iterator.{YieldsList-from_range}
use Rattle.std.proofs.lemmas.Iterator.Search.{all_from_yields_List}
use Rattle.prelude.specs.Tests.{all}
use Rattle.instance_matrix.proofs.Counting.{all-from}
use Rattle.instance_matrix.proofs.Results.{matched-cells}
use Rattle.instance_matrix.proofs.truths.all_matched.Goals as goal

pub returns : goal.returns
returns g c paired h =
    let p = c.args.p in
    let q = c.args.q in
    let n = c.size.result in
    let pair : ℕ → Bool × Bool = λ k. (get_or p.cells k false, get_or q.cells k false) in
    let e : c.all.result ≡ list_all (λ k. paired (pair k)) (range_with_len 0 n)
    = all_from_yields_List (λ k. paired (pair k)) _ _ _ c.all.ensures.ran (YieldsList-from_range 0 n n refl (omega arith))
    (λ x b q k. (search rules, h _ _ _ (search rules))) in
    e ∙ all-from paired pair 0 n ∙ rw c.size.ensures.0 (ap (all paired) (sym (matched-cells p q c.requires.fine c.requires.fine_2)))
