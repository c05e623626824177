-- The order of assignments and that of the instances read back from them: variable 1 is the constant true, and the cells come next.
use mathlib.Core.Path.{◌≡◌, refl, sym, ◌∙◌, ap}
use mathlib.Core.Bool.{false}
use mathlib.Core.List.{List, [], ◌∷◌}
use mathlib.Core.Logic.{inr, ⊎_elim}
use Prim.Native.Nat.{ℕ}
use native.Mathlib.Omega.{arith}
use lib.IntN.{pos}
use lib.ListN.{get_or}
use borrow.Author.Tests.{eqb-true}
use Rattle.prelude.specs.Tests.{all, any}
use Rattle.prelude.specs.Order.{Before}
use Rattle.prelude.proofs.Laws.{and_left, or_cases, clash}
use Rattle.prelude.proofs.Order.{before-front}
use Rattle.clause_list.specs.ClauseList.{is_true}
use Rattle.sheet_rules.specs.Blocks.{Sheet}
use Rattle.relational.specs.Cells.{cell_count}
use Rattle.clauses_rules.specs.Whole.{clauses, read_back}
use Rattle.clauses_rules.specs.Matching.{Assignment}
use Rattle.clauses_rules.proofs.Match.{clauses-of-words}

module _ (sheet : Sheet) where
  -- the clause (1) comes first
  constant-true : (a : List ℕ) → Assignment sheet a → get_or a 0 2 ≡ 1
  unfolding clauses all any
  constant-true a h =
      let e = sym (ap (all (any (is_true a))) (clauses-of-words sheet)) ∙ h.holds in
      ⊎_elim (eqb-true (get_or a 0 2) 1) (λ f. absurd (clash false f refl)) (or_cases (is_true a (pos 1)) false (and_left _ _ e))

  -- where an instance comes before another, so does its assignment
  pub read-back-before : (a b : List ℕ) → Assignment sheet a → Assignment sheet b → Before (read_back sheet a) (read_back sheet b) → Before a b
  read-back-before a b h k = by a b (constant-true a h) (constant-true b k)
    where
      by : (a b : List ℕ) → get_or a 0 2 ≡ 1 → get_or b 0 2 ≡ 1 → Before (read_back sheet a) (read_back sheet b) → Before a b
      by [] b p q l = absurd (omega arith)
      by (x ∷ a) [] p q l = absurd (omega arith)
      by (x ∷ a) (y ∷ b) p q l = unfold Before in inr (p ∙ sym q, before-front (cell_count sheet) a b l)
