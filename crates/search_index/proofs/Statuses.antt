-- What the weights show of all clauses is what a pass over them shows.
use mathlib.Core.Path.{◌≡◌, refl, sym, ◌∙◌, ap}
use mathlib.Core.Bool.{Bool, true, false, ◌||◌}
use mathlib.Core.List.{List, [], ◌∷◌}
use mathlib.Core.Option.{Option, none, some}
use Prim.Native.Nat.{ℕ, zero, suc, ◌<◌, ◌≤◌}
use native.Mathlib.Omega.{arith}
use lib.IntN.{ℤ}
use lib.ListN.{length, get_or}
use Rattle.prelude.specs.Tests.{all, any}
use Rattle.search_rules.specs.Rules.{conflict, first_unit, unit_of, literal, is_falsified}
use Rattle.search_scan.specs.Seen.{Sight, conflicting, unit, neither, seen}
use Rattle.search_index.specs.Index.{clause_at, status_code, status_of, told, falses_at, Tallied, Stopped}
use Rattle.search_index.proofs.Tallies.{falses-where, falses-none}

-- a pass over a clause, then over the rest
join : Sight → Sight → Sight
join conflicting y = conflicting
join (unit l) conflicting = conflicting
join (unit l) (unit k) = unit l
join (unit l) neither = unit l
join neither y = y

abbrev shown : Bool → Option ℤ → Sight
shown b u = elim b as (λ _. Sight) [ true ↦ conflicting | false ↦ elim u as (λ _. Sight) [ some l ↦ unit l | none ↦ neither ] ]

module _ (values : List ℕ) where
  seen-cons : (clause : List ℤ) (clauses : List (List ℤ)) → seen values (clause ∷ clauses) ≡ join (seen values (clause ∷ [])) (seen values clauses)
  unfolding seen conflict first_unit any join
  seen-cons clause clauses =
      by (all (λ l. is_falsified (literal values l)) clause) (unit_of values clause) (conflict values clauses) (first_unit values clauses)
    where
      by : (a : Bool) (u : Option ℤ) (b : Bool) (w : Option ℤ)
          → shown (a || b) (elim u as (λ _. Option ℤ) [ none ↦ w | some l ↦ some l ])
          ≡ join (shown (a || false) (elim u as (λ _. Option ℤ) [ none ↦ none | some l ↦ some l ])) (shown b w)
      by true u b w = refl
      by false none b w = refl
      by false (some l) true w = refl
      by false (some l) false none = refl
      by false (some l) false (some k) = refl

  join-false : (x y : Sight) → status_code x ≡ 1 → join x y ≡ conflicting
  unfolding join status_code
  join-false conflicting y e = refl
  join-false (unit l) y e = absurd (omega (arith, e))
  join-false neither y e = absurd (omega (arith, e))

  join-rest : (x : Sight) → join x conflicting ≡ conflicting
  unfolding join
  join-rest conflicting = refl
  join-rest (unit l) = refl
  join-rest neither = refl

  join-neither : (x y : Sight) → (status_code x ≡ 1 → ⊥) → (status_code x ≡ 2 → ⊥) → join x y ≡ y
  unfolding join status_code
  join-neither conflicting y n m = absurd (n refl)
  join-neither (unit l) y n m = absurd (m refl)
  join-neither neither y n m = refl

  join-unit : (x y : Sight) → status_code x ≡ 2 → (y ≡ conflicting → ⊥) → join x y ≡ x
  unfolding join status_code
  join-unit conflicting y e n = absurd (omega (arith, e))
  join-unit (unit l) conflicting e n = absurd (n refl)
  join-unit (unit l) (unit k) e n = refl
  join-unit (unit l) neither e n = refl
  join-unit neither y e n = absurd (omega (arith, e))

  seen_false : (clauses : List (List ℤ)) (c : ℕ) → c < length clauses → status_of values (clause_at clauses c) ≡ 1
      → seen values clauses ≡ conflicting
  unfolding status_of
  seen_false [] c l e = absurd (omega arith)
  seen_false (clause ∷ clauses) zero l e = seen-cons clause clauses ∙ join-false _ _ e
  seen_false (clause ∷ clauses) (suc c) l e =
      seen-cons clause clauses ∙ ap (join _) (seen_false clauses c (omega arith) e) ∙ join-rest _

  abbrev NoneFalse : List (List ℤ) → Type 0
  NoneFalse clauses = (c : ℕ) → c < length clauses → status_of values (clause_at clauses c) ≡ 1 → ⊥

  code_one : (x : Sight) → x ≡ conflicting → status_code x ≡ 1
  unfolding status_code
  code_one x e = rw e refl

  not-false : (clauses : List (List ℤ)) → NoneFalse clauses → seen values clauses ≡ conflicting → ⊥
  unfolding status_of join status_code
  not-false [] n e = absurd (unfold seen conflict first_unit any in omega (arith, code_one _ e))
  not-false (clause ∷ clauses) n e = by (seen values (clause ∷ [])) (seen values clauses) (n 0 (omega arith))
      (not-false clauses (λ c l. n (suc c) (omega arith))) (sym (seen-cons clause clauses) ∙ e)
    where
      by : (x y : Sight) → (status_code x ≡ 1 → ⊥) → (y ≡ conflicting → ⊥) → join x y ≡ conflicting → ⊥
      by conflicting y n m e = n refl
      by (unit l) conflicting n m e = m refl
      by (unit l) (unit k) n m e = absurd (omega (arith, code_one _ e))
      by (unit l) neither n m e = absurd (omega (arith, code_one _ e))
      by neither y n m e = m e

  seen-unit : (clauses : List (List ℤ)) (c : ℕ) → c < length clauses → NoneFalse clauses
      → ((d : ℕ) → d < c → status_of values (clause_at clauses d) ≡ 2 → ⊥) → status_of values (clause_at clauses c) ≡ 2
      → seen values clauses ≡ seen values (clause_at clauses c ∷ [])
  unfolding status_of
  seen-unit [] c l n m e = absurd (omega arith)
  seen-unit (clause ∷ clauses) zero l n m e =
      seen-cons clause clauses ∙ join-unit _ _ e (not-false clauses (λ c l. n (suc c) (omega arith)))
  seen-unit (clause ∷ clauses) (suc c) l n m e =
      seen-cons clause clauses ∙ join-neither _ _ (n 0 (omega arith)) (m 0 (omega arith))
      ∙ seen-unit clauses c (omega arith) (λ d l. n (suc d) (omega arith)) (λ d l. m (suc d) (omega arith)) e

  seen-neither : (clauses : List (List ℤ)) → NoneFalse clauses
      → ((d : ℕ) → d < length clauses → status_of values (clause_at clauses d) ≡ 2 → ⊥) → seen values clauses ≡ neither
  unfolding status_of
  seen-neither [] n m = unfold seen conflict first_unit any in refl
  seen-neither (clause ∷ clauses) n m =
      seen-cons clause clauses ∙ join-neither _ _ (n 0 (omega arith)) (m 0 (omega arith))
      ∙ seen-neither clauses (λ d l. n (suc d) (omega arith)) (λ d l. m (suc d) (omega arith))

module _ (clauses : List (List ℤ)) (values weights : List ℕ)
    (tells : (c : ℕ) → c < length clauses → told (get_or weights c 0) ≡ status_of values (clause_at clauses c))
    (tallied : Tallied weights (length clauses)) where
  abbrev weight_at : ℕ → ℕ
  weight_at c = get_or weights c 0

  pub shows-false : 0 < falses_at weights → conflicting ≡ seen values clauses
  shows-false h =
      let w = falses-where (length clauses) weight_at (omega (arith, h, tallied.counted)) in
      sym (seen_false values clauses w.c w.within (sym (tells w.c w.within) ∙ w.is))

  none-false : falses_at weights ≤ 0 → (c : ℕ) → c < length clauses → status_of values (clause_at clauses c) ≡ 1 → ⊥
  none-false h c l e = falses-none (length clauses) c weight_at (omega (arith, h, tallied.counted)) l (tells c l ∙ e)

  pub shows-unit : (r : ℕ) → Stopped weights 0 (length clauses) r → falses_at weights ≤ 0 → r < length clauses
      → seen values (clause_at clauses r ∷ []) ≡ seen values clauses
  shows-unit r stop z l =
      sym (seen-unit values clauses r l (none-false z)
      (λ d b e. stop.passed d (omega arith) b (tells d (omega (arith, b, l)) ∙ e)) (sym (tells r l) ∙ stop.found l))

  pub shows-neither : (r : ℕ) → Stopped weights 0 (length clauses) r → falses_at weights ≤ 0 → length clauses ≤ r → neither ≡ seen values clauses
  shows-neither r stop z l =
      sym (seen-neither values clauses (none-false z) (λ d b e. stop.passed d (omega arith) (omega (arith, b, l)) (tells d b ∙ e)))
