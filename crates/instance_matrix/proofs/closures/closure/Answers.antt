use Rattle.std.proofs.Common.{◌≡◌, ℕ, refl, sym, ap, ◌∙◌, add-one, arith}
use Rattle.relational.specs.Evaluation.{round_of, after_rounds}
use Rattle.instance_matrix.specs.Values.{matrix_of}
use Rattle.instance_matrix.proofs.Results.{gives_as}
use Rattle.instance_matrix.proofs.closures.closure.Goals as goal

pub loop-init : goal.loop-init
loop-init c = record { fine = c.requires; is = refl }

pub round-closed-requires : goal.round-closed-requires
round-closed-requires c = c.loop.invariant.fine

pub loop-preserved : goal.loop-preserved
loop-preserved c =
    let p = matrix_of c.args.p in
    gives_as _ _ _ (ap round_of c.loop.invariant.is ∙ ap (λ (n : ℕ). after_rounds n p) (sym (add-one c.loop.counter)))
    c.round-closed.ensures

pub returns : goal.returns
returns c =
    let k : c.loop.counter ≡ c.rounds-end.result = omega arith in
    gives_as _ _ _ (ap (λ (n : ℕ). after_rounds n (matrix_of c.args.p)) (k ∙ c.rounds-end.ensures)) c.loop.invariant
