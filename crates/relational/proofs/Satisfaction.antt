-- The check of an instance agrees with the meaning of an accepted sheet.
use mathlib.Core.Path.{◌≡◌, sym, ap, ◌∙◌}
use mathlib.Core.Logic.{◌↔◌}
use mathlib.Core.Bool.{true, false, ◌&&◌}
use mathlib.Core.List.{List}
use Prim.Native.Nat.{ℕ, ◌<◌}
use lib.ListN.{get_or}
use Rattle.prelude.proofs.Laws.{clash}
use Rattle.sheet_rules.specs.Blocks.{Sheet, relation_count, variable_count, sort_of, root}
use Rattle.shapes.specs.Shapes.{is_formula}
use Rattle.sheet_rules.specs.Tables.{free}
use Rattle.sheet_rules.specs.Facts.{Facts}
use Rattle.relational.specs.Trees.{Formula, formula, root_tree}
use Rattle.relational.specs.Meaning.{Environment, Holds, OfAtoms, IsTrue, Satisfies}
use Rattle.relational.specs.Evaluation.{truth_of, marks_hold, cells_inside, truth_of_tree, holds}
use Rattle.relational.proofs.Flags.{Is, recast, is-and, is-and-then}
use Rattle.relational.proofs.Typing.{Formed}
use Rattle.relational.proofs.Evaluates.{InRange, evaluates}
use Rattle.relational.proofs.Multiplicities.{evaluates-marks, evaluates-inside}
use Rattle.relational.proofs.WellShaped.{root-formed}
use Rattle.relational.proofs.Free.{free_in_formula, same_truth, declared-formula, free-in-table}

module _ (sheet : Sheet) (s : Facts sheet) where
  -- the root is a well-formed formula
  pub root_is : (f : Formula) × (root_tree sheet ≡ formula f) × Formed sheet f
  root_is = root-formed sheet s.columns_two s.fine_a (ap is_formula s.root_formula)

  -- in which no variable is free
  root_closed : (f : Formula) → root_tree sheet ≡ formula f → Formed sheet f → (x : ℕ) → free_in_formula x f ≡ true → ⊥
  root_closed f e formed x h =
      let l : x < variable_count sheet = declared-formula sheet x formed h in
      clash (get_or (free sheet x) (root sheet) false) (free-in-table sheet x (root sheet) (rw e h)) (s.root_closed x l)

  pub start-in-range : InRange sheet (λ x. 0)
  start-in-range x l = s.scope_some (sort_of sheet x) (s.variable_sort x l)

  module _ (instance : List ℕ) where
    -- the root's environment does not matter
    pub any-environment : (env : Environment) → InRange sheet env
        → Holds sheet instance root_is.0 env ↔ IsTrue sheet instance (root_tree sheet)
    any-environment env g =
        let f : Formula = root_is.0 in
        let e : root_tree sheet ≡ formula f = root_is.1 in
        let here = evaluates sheet instance root_is.2 env g in
        let there = evaluates sheet instance root_is.2 (λ x. 0) start-in-range in
        let same : truth_of sheet instance f env ≡ truth_of sheet instance f (λ x. 0)
        = same_truth sheet instance f env (λ x. 0) (λ x h. absurd (root_closed f e root_is.2 x h)) in
        rw e ((λ h. there.0 (sym same ∙ here.1 h)), λ h. here.0 (same ∙ there.1 h))

    evaluates-root : Is (truth_of_tree sheet instance (root_tree sheet)) (IsTrue sheet instance (root_tree sheet))
    evaluates-root = rw root_is.1 (evaluates sheet instance root_is.2 (λ x. 0) start-in-range)

    pub holds-satisfies : (holds sheet instance ≡ true)
        ↔ (((r : ℕ) → r < relation_count sheet → OfAtoms sheet instance r) × Satisfies sheet instance)
    unfolding holds
    holds-satisfies =
        is-and-then (cells_inside sheet instance) (marks_hold sheet instance && truth_of_tree sheet instance
        (root_tree sheet))
        (evaluates-inside sheet instance s.columns_two)
        λ inside. recast
        (is-and (marks_hold sheet instance) (truth_of_tree sheet instance (root_tree sheet))
        (evaluates-marks sheet instance s.columns_two inside)
        evaluates-root)
        ((λ x. record { marks = x.0; root = x.1 }), λ x. (x.marks, x.root))
