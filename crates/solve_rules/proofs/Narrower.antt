-- Where a sheet has no instance, a narrower one has none: its instances, widened, are instances of the wide one.
use mathlib.Core.Path.{◌≡◌, refl, subst}
use mathlib.Core.Bool.{true, false, true≢false}
use mathlib.Core.List.{List, [], ◌∷◌}
use Prim.Native.Nat.{ℕ, zero, suc, ◌≤◌}
use native.Mathlib.Omega.{arith}
use Rattle.sheet_rules.specs.Blocks.{Sheet, sheet_of, byte, four_blocks, scope, is_bounded}
use Rattle.sheet_rules.specs.Tables.{table}
use Rattle.relational.specs.Trees.{symbol_of, tree_step}
use Rattle.relational.specs.Meaning.{one}
use Rattle.relational.specs.Meaning.{Solution}
use Rattle.clauses_rules.proofs.Widened.{widened, widened-solves}
use Rattle.search_rules.specs.declared.Steps.{Steps}
use Rattle.search.specs.Answers.{none}
use Rattle.solve_rules.specs.Finding.{Slices, finding}
use Rattle.solve_rules.specs.Narrower.{Narrowed, NoneNarrower}
use Rattle.solve_rules.proofs.Finds.{finds}

pub none-narrower : NoneNarrower
none-narrower wide narrow n none-wide instance solves =
    let blocks : narrow ≡ four_blocks narrow.sorts wide.variables wide.relations wide.nodes
    = λ i. four_blocks narrow.sorts (n.variables i) (n.relations i) (n.nodes i) in
    none-wide (widened wide.variables wide.relations wide.nodes narrow.sorts wide.sorts instance)
    (widened-solves wide.variables wide.relations wide.nodes narrow.sorts wide.sorts instance
    n.full n.limited (subst (λ (sheet : Sheet). Solution sheet instance) blocks solves))

-- and so says the answer "none" of a call of `find`
pub found_none : (s : List ℕ) (lent : Slices) (budget : ℕ) (steps : Steps) → (finding s lent budget).answer ≡ none steps
    → (narrow : Sheet) → Narrowed (sheet_of s) narrow → (instance : List ℕ) → Solution narrow instance → ⊥
found_none s lent budget steps e narrow n = none-narrower (sheet_of s) narrow n ((finds s lent budget).none_only steps e)

-- ---- K3 of document 01 (a set with exactly one element, and not some) over its scope byte
abbrev k3 : ℕ → Sheet
k3 scope = four_blocks (scope ∷ []) [] (1 ∷ 2 ∷ 0 ∷ 0 ∷ []) (1 ∷ 0 ∷ 0 ∷ 22 ∷ 0 ∷ 0 ∷ 30 ∷ 1 ∷ 0 ∷ [])

k3-wide : (instance : List ℕ) → Solution (k3 130) instance → ⊥
unfolding table tree_step symbol_of
k3-wide instance s = let x = ((s.satisfies.marks 0 (omega arith)).set refl).1 in s.satisfies.root (one x.0, x.1)

k3-narrowed : (b : ℕ) → scope (k3 b) 0 ≤ 2 → Narrowed (k3 130) (k3 b)
k3-narrowed b h =
    record { variables = refl; relations = refl; nodes = refl; full = full; limited = limited }
  where
    full : (k : ℕ) → is_bounded (k3 130) k ≡ false → byte (b ∷ []) k ≡ byte (130 ∷ []) k
    full zero f = absurd (true≢false f)
    full (suc k) f = refl

    limited : (k : ℕ) → is_bounded (k3 130) k ≡ true → scope (k3 b) k ≤ scope (k3 130) k
    limited zero e = h
    limited (suc k) e = omega arith

-- scope bytes 130 and 129, and 2, 1, 0
pub k3-none : (b : ℕ) → scope (k3 b) 0 ≤ 2 → (instance : List ℕ) → Solution (k3 b) instance → ⊥
k3-none b h = none-narrower (k3 130) (k3 b) (k3-narrowed b h) k3-wide
