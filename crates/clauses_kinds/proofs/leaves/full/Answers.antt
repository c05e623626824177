use mathlib.Core.Path.{◌≡◌, ap, ◌∙◌}
use mathlib.Core.Bool.{true}
use Prim.Native.Nat.{ℕ}
use native.Mathlib.Omega.{arith}
use lib.IntN.{pos, negsuc}
use lib.ListN.{replicate, length-replicate, get_or-replicate}
use lib.Seq.{length-take-le}
use Rattle.literal.specs.Words.{literal_of}
use Rattle.clauses_rules.specs.Translation.{constant}
use Rattle.clauses_kinds.proofs.LeafMatrices.{set-from}
use Rattle.clauses_kinds.proofs.Lists.{filled-front}
use Rattle.clauses_kinds.proofs.leaves.full.Goals as goal

pub returns : goal.returns
returns c =
    let n = c.args.n in
    let all = replicate 64 (negsuc 0) in
    let e : c.fill.new.self ≡ replicate n (pos 1) =
    c.fill.ensures.after (λ y e. e)
    ∙ ap (λ (k : ℕ). replicate k (pos 1)) (length-take-le n all (omega (arith, c.requires, length-replicate 64 (negsuc 0)))) in
    rw (c.set.ensures, e)
    (set-from n (λ i. true) _ c.requires
    (filled-front (λ i. constant true) _ (length-replicate n (pos 1)) (omega (arith, c.requires))
    (λ i h. ap literal_of (get_or-replicate n i (pos 1) (pos 0) h))))
