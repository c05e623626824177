-- The literals of a clause list that number 12 lets through.
use mathlib.Core.Path.{◌≡◌, refl}
use mathlib.Core.Bool.{true}
use mathlib.Core.List.{List, [], ◌∷◌}
use Prim.Native.Nat.{ℕ, zero, suc, ◌≤◌}
use native.Mathlib.Omega.{arith}
use lib.IntN.{ℤ, nat_abs}
use lib.ListN.{length, drop, length-drop}
use Rattle.prelude.specs.Tests.{all}
use Rattle.literal.specs.Literals.{is_literal}
use Rattle.literal.proofs.Words.{literal-low, literal-high}
use Rattle.clause_list.specs.ClauseList.{cut, clauses_of, well_cut, is_list}
use Rattle.clause_list.proofs.Laws.{count_word, count-high, list-well-cut}
use Rattle.search_rules.specs.Inner.{AllIn, FineIn, Fine}
use Rattle.search_rules.proofs.Booleans.{and-true}

-- each literal of each clause
unfoldable pub Ranged : ℕ → List (List ℤ) → Type 0
Ranged v [] = Unit {0}
Ranged v (clause ∷ clauses) = AllIn v clause × Ranged v clauses

all_in : (v : ℕ) (ls : List ℤ) → all (is_literal v) ls ≡ true → AllIn v ls
unfolding all AllIn
all_in v [] e = tt
all_in v (l ∷ ls) e = let b = and-true _ _ e in ((literal-low v l b.0, literal-high v l b.0), all_in v ls b.1)

fine_of : (v rounds : ℕ) (ws : List ℤ) → length ws ≤ rounds → well_cut v rounds ws ≡ true → FineIn v rounds ws
unfolding well_cut FineIn
fine_of v zero [] h e = refl
fine_of v zero (w ∷ ws) h e = absurd (omega arith)
fine_of v (suc rounds) [] h e = tt
fine_of v (suc rounds) (w ∷ ws) h e =
    let b = and-true _ _ e in
    let c = and-true _ _ b.1 in (
      count_word (length ws) w b.0,
      count-high (length ws) w b.0,
      all_in v _ c.0,
      fine_of v rounds (drop (nat_abs w) ws) (omega (arith, length-drop (nat_abs w) ws)) c.1,
    )

pub fine-list : (v : ℕ) (list : List ℤ) → is_list v list ≡ true → Fine v list
unfolding Fine
fine-list v list e = fine_of v (length list) list (omega arith) (list-well-cut v list e)

ranged-cut : (v rounds : ℕ) (ws : List ℤ) → FineIn v rounds ws → Ranged v (cut rounds ws)
unfolding FineIn Ranged cut
ranged-cut v zero ws h = tt
ranged-cut v (suc rounds) [] h = tt
ranged-cut v (suc rounds) (w ∷ ws) h = (h.2, ranged-cut v rounds (drop (nat_abs w) ws) h.3)

pub ranged : (v : ℕ) (list : List ℤ) → Fine v list → Ranged v (clauses_of list)
unfolding Fine
ranged v list h = ranged-cut v (length list) list h
