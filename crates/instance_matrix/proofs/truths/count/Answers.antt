use Rattle.std.proofs.Common.{◌≡◌, ◌*◌, take, count_by, sym, ◌∙◌, rules}
use Rattle.instance_matrix.proofs.Counting.{count-is}
use Rattle.instance_matrix.proofs.truths.count.Goals as goal

pub returns : goal.returns
returns c =
    let p = c.args.p in
    let e : c.count.result ≡ count_by (λ b. b) (take (p.rows * p.columns) p.cells) = search rules in
    e ∙ sym (count-is (take (p.rows * p.columns) p.cells))
