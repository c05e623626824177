use Rattle.std.proofs.Common.{◌≡◌, ◌+◌, suc, length, get_or, set, drop, ap, ◌∙◌, pos, arith, rules}
use Rattle.prelude.specs.Stores.{put_all}
use Rattle.literal.proofs.Signs.{read, back}
use Rattle.literal.proofs.Words.{positive-is}
use Rattle.clauses_emission.proofs.Writes.{put-others, put-done}
use Rattle.clauses_emission.proofs.list.write_clause.Goals as goal

pub loop-k-preserved : goal.loop-k-preserved
loop-k-preserved c =
    let others = c.args.others.now in
    let rest = c.loop-k.rest in
    let k = c.loop-k.k in
    ap (λ t. put_all t (2 + (k + 1)) (drop (k + 1) others))
    (c.put-in-loop-k.ensures ∙ ap (set rest (2 + k)) (back (get_or others k (pos 0)) (search rules)))
    ∙ put-others rest k others c.loop-k-test.true ∙ c.loop-k.invariant

pub returns : goal.returns
returns c =
    let others = c.args.others.now in
    let call = c.positive in
    let more : 1 + length others ≡ suc (length others) = omega arith in
    let count : read call.result ≡ pos (suc (length others)) =
    back call.result (record { sfits = call.type_inv }) ∙ call.ensures
    ∙ positive-is (1 + length others) (omega (arith, c.requires)) ∙ ap pos more
    in
    put-done c.args.rest.now _ _ c.loop-k.rest _ _ _ _ c.loop-k.k others c.put.ensures c.put-2.ensures count
    (back c.args.first c.ranges.first) c.loop-k-test.false c.loop-k.invariant
