use mathlib.Core.Path.{◌≡◌, ap, ◌∙◌}
use Prim.Native.Nat.{ℕ, ◌+◌, ◌-◌}
use native.Mathlib.Omega.{arith}
use lib.ListN.{take, drop}
use Rattle.clauses_emission.specs.Emission.{literals_of}
use Rattle.clauses_kinds.proofs.Sources.{part-cells}
use Rattle.clauses_kinds.proofs.source.Source.cells.Goals as goal

pub returns : goal.returns
returns c =
    let a = c.args in
    let e : a.first + a.n - a.first ≡ a.n = omega arith in
    let given = a.self.now.given.now in
    ap (λ (k : ℕ). literals_of (take k (drop a.first given))) e
    ∙ part-cells given a.first a.n (omega (arith, a.self.now.size))
