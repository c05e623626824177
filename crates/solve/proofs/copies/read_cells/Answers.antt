-- `read_cells` meets its contract: numbers 11 and 13 in their order, and then the copy.
use mathlib.Core.Path.{◌≡◌, sym, ap, ◌∙◌}
use mathlib.Core.Bool.{Bool}
use mathlib.Core.List.{map}
use Prim.Native.Nat.{ℕ}
use lib.Dec.{leb}
use lib.ListN.{take, drop}
use Rattle.prelude.specs.Tests.{all}
use Rattle.search_rules.specs.Rules.{settle}
use Rattle.solve.proofs.ReadBacks.{cells-part, wrong-bits, too_short, copies}
use Rattle.solve.proofs.copies.read_cells.Goals as goal
use Prim.Native.Nat.{ℕ, ◌+◌, ◌-◌}
use mathlib.Core.List.{List}

-- what was asked of the cells' values
asked : (cells : ℕ) (values : List ℕ) {r b : Bool} → r ≡ all (λ (b : ℕ). leb b 1)
    (map settle (take (cells + 1 - 1) (drop 1 values)))
    → r ≡ b → all (λ (b : ℕ). leb b 1) (take cells (drop 1 (map settle values))) ≡ b
asked cells values e f = sym (e ∙ ap (all (λ (b : ℕ). leb b 1)) (cells-part cells values)) ∙ f

pub returns-then-not-give_bits : goal.returns-then-not-give_bits
returns-then-not-give_bits c =
    let a = c.args in
    let g = wrong-bits a.v a.cells a.values.now a.instance.now
    (asked a.cells a.values.now c.give_bits.ensures c.if-not-give_bits.true) in
    record { result_value = g.0; instance_after = g.1 }

pub returns-then-instance-cells : goal.returns-then-instance-cells
returns-then-instance-cells c =
    let a = c.args in
    let g = too_short a.v a.cells a.values.now a.instance.now c.if-values-v.false
    (asked a.cells a.values.now c.give_bits.ensures c.if-not-give_bits.false) c.if-instance-cells.true in
    record { result_value = g.0; instance_after = g.1 }

pub returns : goal.returns
returns c =
    let a = c.args in
    let g = copies a.v a.cells a.values.now a.instance.now c.if-values-v.false
    (asked a.cells a.values.now c.give_bits.ensures c.if-not-give_bits.false) c.if-instance-cells.false in
    record { result_value = g.0; instance_after = c.copy_cells.ensures ∙ g.1 }
