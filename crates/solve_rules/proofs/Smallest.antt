-- The order is a strict total order on the instances of a sheet: they are lists of bits of one length. So the smallest is one.
use mathlib.Core.Path.{◌≡◌, sym, ◌∙◌}
use mathlib.Core.Bool.{true}
use mathlib.Core.Logic.{◌↔◌, ⊎_elim}
use mathlib.Core.List.{List}
use Prim.Native.Nat.{ℕ}
use Rattle.prelude.proofs.Order.{StrictTotalOrder, before-irreflexive, before-transitive, before-total}
use Rattle.sheet_rules.specs.Blocks.{Sheet}
use Rattle.relational.specs.Cells.{has_cells}
use Rattle.relational.specs.Meaning.{Solution}
use Rattle.relational.proofs.Scopes.{within-size, within-bits}
use Rattle.solve_rules.specs.Smallest.{Smallest}

-- that order is a strict total order on the instances of a sheet
abbrev pub InstancesOrdered : Type 0
InstancesOrdered = (sheet : Sheet) → StrictTotalOrder (λ (instance : List ℕ). has_cells sheet instance ≡ true)

-- to "compare printed cases between releases": two sheets that the same instances satisfy have the same smallest
abbrev pub SameSmallest : Type 0
SameSmallest = (sheet other : Sheet) → ((instance : List ℕ) → Solution sheet instance ↔ Solution other instance)
    → (i j : List ℕ) → Solution sheet i → Smallest sheet i → Solution other j → Smallest other j → i ≡ j

pub instances-ordered : InstancesOrdered
instances-ordered sheet =
    record {
      irreflexive = λ i h. before-irreflexive i;
      transitive = λ i j k f g h. before-transitive i j k;
      total = λ i j f g.
          before-total i j (within-size sheet i f ∙ sym (within-size sheet j g)) (within-bits sheet i f) (within-bits sheet j g);
    }

pub same-smallest : SameSmallest
same-smallest sheet other alike i j p none_before q none-before' =
    let k = (alike j).1 q in
    ⊎_elim (λ b. absurd (none-before' i ((alike i).0 p) b)) (⊎_elim (λ e. e) (λ b. absurd (none_before j k b)))
    ((instances-ordered sheet).total i j p.within.bytes k.within.bytes)
