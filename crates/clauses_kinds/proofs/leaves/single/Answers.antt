use mathlib.Core.Path.{◌≡◌, refl, sym, ap}
use Prim.Native.Nat.{ℕ}
use native.Mathlib.Omega.{arith}
use lib.Dec.{eqb}
use lib.IntN.{pos}
use borrow.Author.Tests.{eq-eqb, ne_eqb}
use Rattle.literal.specs.Literals.{Literal}
use Rattle.clauses_rules.specs.Translation.{constant, absent}
use Rattle.clauses_kinds.specs.Leaves.{Filled}
use Rattle.clauses_kinds.proofs.LeafMatrices.{set-from}
use Rattle.clauses_kinds.proofs.Lists.{filled_none, filled_more, filled-wider}
use Rattle.clauses_kinds.proofs.leaves.single.Goals.{then-atom-n, else-atom-n}
use Rattle.clauses_kinds.proofs.leaves.single.Goals as goal

pub returns : goal.returns
returns c =
    let n = c.args.n in
    let a = c.args.atom in
    let f : ℕ → Literal = λ i. constant (eqb i a) in
    let off : (i : ℕ) → (i ≡ a → ⊥) → f i ≡ absent = λ i z. ap constant (ne_eqb i a z) in
    let h : Filled f n c.if-atom-n.cells =
    elim c.if-atom-n.branch [
      | then-atom-n w ↦
          let before = filled-wider f {n = a} (filled_none f) (omega arith) (omega (arith, c.requires, w.if-atom-n.true))
          λ i l p. off i (λ z. omega (arith, z)) in
          let one = filled_more f (pos 1) before (omega (arith, c.requires, w.if-atom-n.true)) (sym (ap constant (eq-eqb a a refl))) in
          rw w.cells-is
          (filled-wider f one (omega (arith, w.if-atom-n.true)) (omega (arith, c.requires)) λ i l p. off i (λ z. omega (arith, z)))
      | else-atom-n w ↦
          rw w.cells-is
          (filled-wider f (filled_none f) (omega arith) (omega (arith, c.requires))
          λ i l p. off i (λ z. omega (arith, z, w.if-atom-n.false)))
    ] in
    rw c.set.ensures (set-from n (λ i. eqb i a) _ c.requires h)
