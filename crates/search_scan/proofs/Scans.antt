-- One pass over the clauses with what it keeps, and that it shows what the two rules ask for.
use mathlib.Core.Path.{◌≡◌, refl, ◌∙◌, ap}
use mathlib.Core.Bool.{Bool, true, false, cond, ◌&&◌, ◌||◌}
use mathlib.Core.List.{List, [], ◌∷◌}
use mathlib.Core.Option.{Option, none, some}
use Prim.Native.Nat.{ℕ}
use lib.IntN.{ℤ}
use Rattle.prelude.specs.Tests.{all, any}
use Rattle.search_scan.specs.Seen.{Sight, conflicting, unit, neither, seen}
use Rattle.search_rules.specs.Rules.{Truth, falsified, satisfied, unassigned, literal, is_falsified, is_satisfied, conflict, open_of}
use Rattle.search_rules.specs.Rules.{same_literal, only, unit_of, first_unit}

-- what is seen of a clause so far: only false literals; open ones, all this one; different open ones; a true one
pub data Clause : Type 0 where
  all_false : Clause
  sole : ℤ → Clause
  several : Clause
  is_held : Clause

-- one open literal more
unfoldable pub meet : Clause → ℤ → Clause
meet all_false l = sole l
meet (sole k) l = cond (same_literal k l) (sole k) several
meet several l = several
meet is_held l = is_held

unfoldable pub look : List ℕ → Clause → List ℤ → Clause
look vs s [] = s
look vs s (l ∷ ls) = elim (literal vs l) [ falsified ↦ look vs s ls | satisfied ↦ is_held | unassigned ↦ look vs (meet s l) ls ]

-- the first unit clause is kept
unfoldable pub keep : Sight → ℤ → Sight
keep conflicting l = conflicting
keep (unit k) l = unit k
keep neither l = unit l

unfoldable pub pass : List ℕ → Sight → List (List ℤ) → Sight
pass vs s [] = s
pass vs s (c ∷ cs) =
    elim (look vs all_false c)
    [ all_false ↦ conflicting | sole l ↦ pass vs (keep s l) cs | several ↦ pass vs s cs | is_held ↦ pass vs s cs ]

module _ (vs : List ℕ) where
  abbrev any_true : List ℤ → Bool
  any_true c = any (λ l. is_satisfied (literal vs l)) c

  abbrev all_falsified : List ℤ → Bool
  all_falsified c = all (λ l. is_falsified (literal vs l)) c

  unfoldable meets : Clause → List ℤ → Clause
  meets s [] = s
  meets s (l ∷ ls) = meets (meet s l) ls

  meets-several : (ls : List ℤ) → meets several ls ≡ several
  unfolding meets meet
  meets-several [] = refl
  meets-several (l ∷ ls) = meets-several ls

  meets-sole : (k : ℤ) (ls : List ℤ) → meets (sole k) ls ≡ cond (all (same_literal k) ls) (sole k) several
  unfolding meets meet all
  meets-sole k [] = refl
  meets-sole k (l ∷ ls) = by (same_literal k l) (meets-sole k ls)
    where
      by : (b : Bool) → meets (sole k) ls ≡ cond (all (same_literal k) ls) (sole k) several
          → meets (cond b (sole k) several) ls ≡ cond (b && all (same_literal k) ls) (sole k) several
      by true p = p
      by false p = meets-several ls

  -- a clause in one pass: a true literal, else what its open literals come to
  look_is : (s : Clause) (c : List ℤ) → look vs s c ≡ cond (any_true c) is_held (meets s (open_of vs c))
  unfolding look any open_of meets is_satisfied
  look_is s [] = refl
  look_is s (l ∷ c) = by (literal vs l) (look_is s c) (look_is (meet s l) c)
    where
      by : (t : Truth) → look vs s c ≡ cond (any_true c) is_held (meets s (open_of vs c))
          → look vs (meet s l) c ≡ cond (any_true c) is_held (meets (meet s l) (open_of vs c))
          → elim t as (λ _. Clause) [ falsified ↦ look vs s c | satisfied ↦ is_held | unassigned ↦ look vs (meet s l) c ]
          ≡ cond (is_satisfied t || any_true c) is_held
          (meets s (elim t as (λ _. List ℤ) [ falsified ↦ open_of vs c | satisfied ↦ open_of vs c | unassigned ↦ l ∷ open_of vs c ]))
      by falsified p q = p
      by satisfied p q = refl
      by unassigned p q = q

  abbrev is_empty : List ℤ → Bool
  is_empty [] = true
  is_empty (l ∷ ls) = false

  never : (b : Bool) → false ≡ cond b false false
  never true = refl
  never false = refl

  all-falsified : (c : List ℤ) → all_falsified c ≡ cond (any_true c) false (is_empty (open_of vs c))
  unfolding all any open_of is_falsified is_satisfied
  all-falsified [] = refl
  all-falsified (l ∷ c) = by (literal vs l) (all-falsified c)
    where
      by : (t : Truth) → all_falsified c ≡ cond (any_true c) false (is_empty (open_of vs c))
          → is_falsified t && all_falsified c
          ≡ cond (is_satisfied t || any_true c) false
          (is_empty (elim t as (λ _. List ℤ) [ falsified ↦ open_of vs c | satisfied ↦ open_of vs c | unassigned ↦ l ∷ open_of vs c ]))
      by falsified p = p
      by satisfied p = refl
      by unassigned p = never (any_true c)

  abbrev is_all_false : Clause → Bool
  is_all_false all_false = true
  is_all_false (sole l) = false
  is_all_false several = false
  is_all_false is_held = false

  abbrev sole_of : Clause → Option ℤ
  sole_of all_false = none
  sole_of (sole l) = some l
  sole_of several = none
  sole_of is_held = none

  -- what one pass over a clause shows is what the rules ask of it
  record Shows (c : List ℤ) (x : Clause) : Type 0 where
    conflicts : all_falsified c ≡ is_all_false x
    units : unit_of vs c ≡ sole_of x

  shows : (c : List ℤ) → Shows c (look vs all_false c)
  unfolding unit_of only meets meet
  shows c = rw (look_is all_false c) (by (any_true c) (open_of vs c) (all-falsified c) refl refl)
    where
      alike : (l : ℤ) (b : Bool)
          → (false ≡ is_all_false (cond b (sole l) several)) × (cond b (some l) none ≡ sole_of (cond b (sole l) several))
      alike l true = (refl, refl)
      alike l false = (refl, refl)

      by : (b : Bool) (ls : List ℤ) → all_falsified c ≡ cond b false (is_empty ls) → any_true c ≡ b → open_of vs c ≡ ls
          → Shows c (cond b is_held (meets all_false ls))
      by true ls e p q = record { conflicts = e; units = rw p refl }
      by false [] e p q = record { conflicts = e; units = rw (p, q) refl }
      by false (l ∷ ls) e p q =
          let a = alike l (all (same_literal l) ls) in
          rw (meets-sole l ls) (record { conflicts = e ∙ a.0; units = rw (p, q) a.1 })

  abbrev keep_first : Sight → Option ℤ → Sight
  keep_first s none = s
  keep_first s (some l) = keep s l

  keep-first : (s : Sight) (l : ℤ) (u : Option ℤ) → keep_first (keep s l) u ≡ keep s l
  unfolding keep
  keep-first conflicting l none = refl
  keep-first conflicting l (some k) = refl
  keep-first (unit j) l none = refl
  keep-first (unit j) l (some k) = refl
  keep-first neither l none = refl
  keep-first neither l (some k) = refl

  pass_step : (s : Sight) (c : List ℤ) (cs : List (List ℤ)) → ((s : Sight) → pass vs s cs
      ≡ cond (conflict vs cs) conflicting (keep_first s (first_unit vs cs)))
      → (x : Clause) → Shows c x
      → elim x as (λ _. Sight) [ all_false ↦ conflicting | sole l ↦ pass vs (keep s l) cs | several ↦ pass vs s cs | is_held ↦ pass vs s cs ]
      ≡ cond (all_falsified c || conflict vs cs) conflicting
      (keep_first s (elim (unit_of vs c) as (λ _. Option ℤ) [ none ↦ first_unit vs cs | some l ↦ some l ]))
  pass_step s c cs p all_false h = rw h.conflicts refl
  pass_step s c cs p (sole l) h =
      rw (h.conflicts, h.units) (p (keep s l) ∙ ap (cond (conflict vs cs) conflicting) (keep-first s l (first_unit vs cs)))
  pass_step s c cs p several h = rw (h.conflicts, h.units) (p s)
  pass_step s c cs p is_held h = rw (h.conflicts, h.units) (p s)

  pass-is : (cs : List (List ℤ)) (s : Sight) → pass vs s cs ≡ cond (conflict vs cs) conflicting (keep_first s (first_unit vs cs))
  unfolding pass conflict any first_unit
  pass-is [] s = refl
  pass-is (c ∷ cs) s = pass_step s c cs (pass-is cs) (look vs all_false c) (shows c)

  -- the pass shows a conflict anywhere, else the first unit clause
  pub pass-seen : (cs : List (List ℤ)) → pass vs neither cs ≡ seen vs cs
  unfolding seen keep
  pass-seen cs = pass-is cs neither ∙ by (conflict vs cs) (first_unit vs cs)
    where
      by : (b : Bool) (u : Option ℤ)
          → cond b conflicting (keep_first neither u)
          ≡ elim b as (λ _. Sight) [ true ↦ conflicting | false ↦ elim u as (λ _. Sight) [ some l ↦ unit l | none ↦ neither ] ]
      by true u = refl
      by false none = refl
      by false (some l) = refl
