-- A clause taken out of the list.
use mathlib.Core.Path.{◌≡◌, refl, sym, ◌∙◌, ap, subst}
use mathlib.Core.List.{List, [], ◌∷◌}
use Prim.Native.Nat.{ℕ, zero, suc, ◌+◌, ◌≤◌}
use native.Mathlib.Omega.{arith}
use lib.IntN.{ℤ, pos}
use lib.ListN.{length, get_or, take, drop, drop_of_length-le}
use lib.Seq.{take_all}
use Rattle.clause_list.specs.ClauseList.{clauses_of, words_of}
use Rattle.search_rules.specs.Inner.{AllIn, FineIn, Fine}
use Rattle.search_rules.proofs.Ranges.{ranged}
use Rattle.search_index.specs.Index.{clause_at, IsHead}
use Rattle.search_index.proofs.Words.{words_are, count_at, head-high, clause-ranged, part-is, part-clauses, one-words}

none-fine : (v n : ℕ) → FineIn v n []
unfolding FineIn
none-fine v zero = refl
none-fine v (suc n) = tt

one-fine : (v : ℕ) (clause : List ℤ) → AllIn v clause → Fine v (pos (length clause) ∷ clause)
unfolding Fine FineIn
one-fine v clause h = (
  refl,
  omega arith,
  rw (take_all (length clause) clause (omega arith)) h,
  rw (drop_of_length-le clause {i = length clause} (omega arith)) (none-fine v (length clause)),
)

module _ (v : ℕ) (list : List ℤ) (fine : Fine v list) (head : ℕ) (h : IsHead (clauses_of list) head) where
  abbrev pub clause : List ℤ
  clause = clause_at (clauses_of list) h.c

  pub count-is : get_or list head (pos 0) ≡ pos (length clause)
  count-is =
      ap (λ (ws : List ℤ). get_or ws head (pos 0)) (words_are v list fine)
      ∙ ap (λ (i : ℕ). get_or (words_of (clauses_of list)) i (pos 0)) h.at ∙ count_at (clauses_of list) h.c h.within

  pub high : head + suc (length clause) ≤ length list
  high = omega (arith, ap length (words_are v list fine), h.at, head-high (clauses_of list) h.c h.within)

  pub part : take (suc (length clause)) (drop head list) ≡ words_of (clause ∷ [])
  part =
      ap (λ (ws : List ℤ). take (suc (length clause)) (drop head ws)) (words_are v list fine)
      ∙ ap (λ (i : ℕ). take (suc (length clause)) (drop i (words_of (clauses_of list)))) h.at
      ∙ part-is (clauses_of list) h.c h.within

  pub part-fine : Fine v (words_of (clause ∷ []))
  part-fine = subst (Fine v) (sym (one-words clause)) (one-fine v clause (clause-ranged v _ h.c (ranged v list fine) h.within))

  pub part-is-one : clauses_of (words_of (clause ∷ [])) ≡ clause ∷ []
  part-is-one = part-clauses clause
