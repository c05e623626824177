-- What a changed value asks of the index: it is right for the values as they were.
use mathlib.Core.Path.{◌≡◌, refl, sym, ◌∙◌, ap, subst}
use mathlib.Core.List.{List, [], ◌∷◌}
use Prim.Native.Nat.{ℕ, zero, suc, ◌<◌, ◌≤◌}
use native.Mathlib.Omega.{arith}
use lib.IntN.{ℤ}
use lib.ListN.{length, get_or, set, length-set}
use Rattle.clause_list.specs.ClauseList.{clauses_of}
use Rattle.literal.specs.Words.{last_variable}
use Rattle.search_rules.specs.Inner.{Fine}
use Rattle.search_scan.proofs.Words.{default}
use Rattle.search_index.specs.Index.{Watched}

-- a value that is set and set back
restored : (values : List ℕ) (p b : ℕ) → set (set values p b) p (get_or values p 0) ≡ values
restored [] p b = refl
restored (x ∷ values) zero b = refl
restored (x ∷ values) (suc p) b = ap (λ vs. x ∷ vs) (restored values p b)

pub touches : (list : List ℤ) (values values' : List ℕ) (p b was : ℕ) (chains weights : List ℕ) → values' ≡ set values p b → p < length values
    → was ≡ get_or values p 0 → Fine (length values) list → length values ≤ last_variable → Watched (clauses_of list) values chains weights
    → Fine (length values') list
    × ((length values' ≤ last_variable) × ((p < length values') × Watched (clauses_of list) (set values' p was) chains weights))
touches list values values' p b was chains weights e h z f l w =
    let n : length values' ≡ length values = ap length e ∙ length-set values p b in
    let r : set values' p was ≡ values = ap (λ vs. set vs p was) e ∙ ap (set (set values p b) p) z ∙ restored values p b in (
      subst (λ m. Fine m list) (sym n) f,
      (omega (arith, n, l), (omega (arith, n, h), subst (λ vs. Watched (clauses_of list) vs chains weights) (sym r) w)),
    )

-- the same where the value was open
pub set-open : (list : List ℤ) (values values' : List ℕ) (p b : ℕ) (chains weights : List ℕ) → values' ≡ set values p b
    → p < length values → get_or values p 2 ≡ 2 → Fine (length values) list → length values ≤ last_variable
    → Watched (clauses_of list) values chains weights
    → Fine (length values') list
    × ((length values' ≤ last_variable) × ((p < length values') × Watched (clauses_of list) (set values' p 2) chains weights))
set-open list values values' p b chains weights e h o =
    touches list values values' p b 2 chains weights e h (sym o ∙ default values p 2 0 h)
