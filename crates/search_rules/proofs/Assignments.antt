-- Total assignments: which literals and clauses hold, and what the values of a state have to do with them.
use mathlib.Core.Path.{◌≡◌, refl, sym, ◌∙◌, ap}
use mathlib.Core.Bool.{Bool, true, false, not, cond, ◌&&◌, ◌||◌}
use mathlib.Core.Logic.{◌⊎◌, inl, inr, ⊎_elim}
use mathlib.Core.List.{List, [], ◌∷◌}
use mathlib.Core.Option.{Option, none, some}
use Prim.Native.Nat.{ℕ, zero, suc, pred}
use native.Mathlib.Omega.{arith}
use lib.Dec.{eqb}
use lib.IntN.{ℤ, pos, negsuc}
use lib.ListN.{get_or, set, replicate}
use borrow.Author.Tests.{not-true, eqb-true, eq-eqb, ne_eqb}
use Rattle.prelude.specs.Tests.{all, any}
use Rattle.clause_list.specs.ClauseList.{is_true}
use Rattle.search_rules.specs.Rules.{Truth, falsified, satisfied, unassigned, truth_of, negated, literal, is_falsified, is_satisfied}
use Rattle.search_rules.specs.Rules.{conflict, open_of, same_literal, only, unit_of, first_unit, Entry, propagated, decided, State}
use Rattle.search_rules.specs.Rules.{word_of, byte_of, place_of, values_of}
use Rattle.prelude.proofs.Laws.{clash, or_cases}
use Rattle.search_rules.proofs.Booleans.{and-true}

abbrev pub Assignment : Type 0
Assignment = ℕ → Bool

unfoldable pub holds : Assignment → ℤ → Bool
holds a (pos n) = a (pred n)
holds a (negsuc n) = not (a n)

-- some literal of the clause holds
unfoldable pub Holds : Assignment → List ℤ → Type 0
Holds a [] = ⊥
Holds a (l ∷ clause) = (holds a l ≡ true) ⊎ Holds a clause

-- every clause holds
unfoldable pub Model : Assignment → List (List ℤ) → Type 0
Model a [] = Unit {0}
Model a (clause ∷ clauses) = Holds a clause × Model a clauses

-- the variable is what the values say, or they say nothing
unfoldable pub Agrees : Truth → Bool → Type 0
Agrees falsified b = b ≡ false
Agrees satisfied b = b ≡ true
Agrees unassigned b = Unit {0}

pub agrees-negated : (t : Truth) (b : Bool) → Agrees t b → Agrees (negated t) (not b)
unfolding Agrees negated
agrees-negated falsified b e = ap not e
agrees-negated satisfied b e = ap not e
agrees-negated unassigned b e = tt

pub same_true : (k l : ℤ) → same_literal k l ≡ true → k ≡ l
unfolding same_literal
same_true (pos k) (pos l) e = ap pos (eqb-true k l e)
same_true (pos k) (negsuc l) e = cc
same_true (negsuc k) (pos l) e = cc
same_true (negsuc k) (negsuc l) e = ap negsuc (eqb-true k l e)

pub same_refl : (k l : ℤ) → k ≡ l → same_literal k l ≡ true
unfolding same_literal
same_refl (pos k) l e = rw (← e) (eq-eqb k k refl)
same_refl (negsuc k) l e = rw (← e) (eq-eqb k k refl)

-- the open literals are all the one that they set
pub only-some : (k : ℤ) (ls : List ℤ) → only ls ≡ some k → all (same_literal k) ls ≡ true
unfolding only all
only-some k [] e = cc
only-some k (l ∷ ls) e = by (all (same_literal l) ls) refl e
  where
    by : (b : Bool) → all (same_literal l) ls ≡ b → cond b (some l) none ≡ some k → same_literal k l && all (same_literal k) ls ≡ true
    by true d e = let q : l ≡ k = cc in rw (same_refl k l (sym q)) (rw (← q) d)
    by false d e = cc

-- an assignment that agrees with the values
module _ (values : List ℕ) (a : Assignment) (agrees : (i : ℕ) → Agrees (truth_of (get_or values i 2)) (a i)) where
  literal-agrees : (l : ℤ) → Agrees (literal values l) (holds a l)
  unfolding literal holds
  literal-agrees (pos n) = agrees (pred n)
  literal-agrees (negsuc n) = agrees-negated _ _ (agrees n)

  pub falsified-false : (l : ℤ) → literal values l ≡ falsified → holds a l ≡ false
  unfolding Agrees
  falsified-false l e = rw e at (literal-agrees l)

  only-false : (l : ℤ) → is_falsified (literal values l) ≡ true → holds a l ≡ false
  only-false l e = by (literal values l) refl e
    where
      by : (t : Truth) → literal values l ≡ t → is_falsified t ≡ true → holds a l ≡ false
      by falsified d e = falsified-false l d
      by satisfied d e = unfold is_falsified in absurd (clash false e refl)
      by unassigned d e = unfold is_falsified in absurd (clash false e refl)

  false-clause : (clause : List ℤ) → all (λ l. is_falsified (literal values l)) clause ≡ true → Holds a clause → ⊥
  unfolding Holds all
  false-clause [] e h = h
  false-clause (l ∷ clause) e h =
      let b = and-true _ _ e in ⊎_elim (λ q. clash _ q (only-false l b.0)) (false-clause clause b.1) h

  -- no conflict where a model agrees
  pub conflict-not : (clauses : List (List ℤ)) → Model a clauses → conflict values clauses ≡ true → ⊥
  unfolding Model conflict any
  conflict-not [] h e = clash false e refl
  conflict-not (clause ∷ clauses) h e =
      ⊎_elim (λ q. false-clause clause q h.0) (λ q. conflict-not clauses h.1 (unfold conflict in q)) (or_cases _ _ e)

  -- where no literal is satisfied, one that holds is open
  open_step : (k l : ℤ) (clause : List ℤ) (t : Truth) → literal values l ≡ t
      → is_satisfied t || any (λ l. is_satisfied (literal values l)) clause ≡ false
      → all (same_literal k)
      (elim t as (λ _. List ℤ)
      [ falsified ↦ open_of values clause | satisfied ↦ open_of values clause | unassigned ↦ l ∷ open_of values clause ]) ≡ true
      → (any (λ l. is_satisfied (literal values l)) clause ≡ false → all (same_literal k) (open_of values clause) ≡ true
      → Holds a clause → holds a k ≡ true)
      → (holds a l ≡ true) ⊎ Holds a clause → holds a k ≡ true
  unfolding is_satisfied all
  open_step k l clause falsified d s e p h = ⊎_elim (λ q. absurd (clash _ q (falsified-false l d))) (p s e) h
  open_step k l clause satisfied d s e p h = absurd (clash true refl s)
  open_step k l clause unassigned d s e p h =
      let b = and-true _ _ e in ⊎_elim (λ q. rw (same_true k l b.0) q) (p s b.1) h

  open-holds : (k : ℤ) (clause : List ℤ) → any (λ l. is_satisfied (literal values l)) clause ≡ false
      → all (same_literal k) (open_of values clause) ≡ true → Holds a clause → holds a k ≡ true
  unfolding Holds any open_of
  open-holds k [] s e h = absurd h
  open-holds k (l ∷ clause) s e h = open_step k l clause (literal values l) refl s e (open-holds k clause) h

  unit-holds : (k : ℤ) (clause : List ℤ) → unit_of values clause ≡ some k → Holds a clause → holds a k ≡ true
  unfolding unit_of
  unit-holds k clause e h = by (any (λ l. is_satisfied (literal values l)) clause) refl e
    where
      by : (b : Bool) → any (λ l. is_satisfied (literal values l)) clause ≡ b → cond b none (only (open_of values clause)) ≡ some k
          → holds a k ≡ true
      by true s e = cc
      by false s e = open-holds k clause s (only-some k (open_of values clause) e) h

  -- a unit clause's literal holds in each model that agrees
  pub first-unit-holds : (k : ℤ) (clauses : List (List ℤ)) → Model a clauses → first_unit values clauses ≡ some k → holds a k ≡ true
  unfolding Model first_unit
  first-unit-holds k [] h e = cc
  first-unit-holds k (clause ∷ clauses) h e = by (unit_of values clause) refl (first-unit-holds k clauses h.1) e
    where
      by : (u : Option ℤ) → unit_of values clause ≡ u → (first_unit values clauses ≡ some k → holds a k ≡ true)
          → elim u as (λ _. Option ℤ) [ none ↦ first_unit values clauses | some l ↦ some l ] ≡ some k → holds a k ≡ true
      by none d p e = p e
      by (some l) d p e = unit-holds k clause (d ∙ e) h.0

-- the assignment has every literal of the trail
unfoldable pub Has : Assignment → State → Type 0
Has a [] = Unit {0}
Has a (e ∷ state) = (holds a (word_of e) ≡ true) × Has a state

pub get_or-set-cases : (xs : List ℕ) (j i b d : ℕ) → ((i ≡ j) × (get_or (set xs j b) i d ≡ b)) ⊎ (get_or (set xs j b) i d ≡ get_or xs i d)
get_or-set-cases [] j i b d = inr refl
get_or-set-cases (x ∷ xs) zero zero b d = inl (refl, refl)
get_or-set-cases (x ∷ xs) zero (suc i) b d = inr refl
get_or-set-cases (x ∷ xs) (suc j) zero b d = inr refl
get_or-set-cases (x ∷ xs) (suc j) (suc i) b d = ⊎_elim (λ h. inl (ap suc h.0, h.1)) inr (get_or-set-cases xs j i b d)

get_or-fill : (v i x : ℕ) → get_or (replicate v x) i x ≡ x
get_or-fill zero i x = refl
get_or-fill (suc v) zero x = refl
get_or-fill (suc v) (suc i) x = get_or-fill v i x

entry-agrees : (a : Assignment) (e : Entry) → holds a (word_of e) ≡ true → Agrees (truth_of (byte_of e)) (a (place_of (word_of e)))
unfolding holds word_of byte_of truth_of place_of Agrees
entry-agrees a (propagated (pos n)) h = h
entry-agrees a (propagated (negsuc n)) h = not-true _ h
entry-agrees a (decided i) h = not-true _ h

pub values_agree : (a : Assignment) (v : ℕ) (state : State) → Has a state → (i : ℕ) → Agrees (truth_of (get_or (values_of v state) i 2)) (a i)
unfolding values_of Has
values_agree a v [] h i = rw (get_or-fill v i 2) (unfold truth_of Agrees in tt)
values_agree a v (e ∷ state) h i =
    ⊎_elim (λ q. rw (q.1, q.0) (entry-agrees a e h.0)) (λ q. rw q (values_agree a v state h.1 i))
    (get_or-set-cases (values_of v state) (place_of (word_of e)) i (byte_of e) 2)

-- each literal that is no decision holds in the assignment where those before it do
unfoldable pub Follows : Assignment → State → Type 0
Follows a [] = Unit {0}
Follows a (propagated l ∷ state) = (Has a state → holds a l ≡ true) × Follows a state
Follows a (decided i ∷ state) = Follows a state

-- the total assignment of a list of bits
unfoldable pub assignment : List ℕ → Assignment
assignment a i = eqb (get_or a i 2) 1

true-holds : (a : List ℕ) (l : ℤ) → is_true a l ≡ true → holds (assignment a) l ≡ true
unfolding holds assignment
true-holds a (pos n) e = e
true-holds a (negsuc n) e = ap not (ne_eqb (get_or a n 2) 1 (λ d. let z = eqb-true (get_or a n 2) 0 e in omega arith))

clause-true : (a : List ℕ) (clause : List ℤ) → any (is_true a) clause ≡ true → Holds (assignment a) clause
unfolding any Holds
clause-true a [] e = clash false e refl
clause-true a (l ∷ clause) e = ⊎_elim (λ q. inl (true-holds a l q)) (λ q. inr (clause-true a clause q)) (or_cases _ _ e)

pub model_of : (a : List ℕ) (clauses : List (List ℤ)) → all (any (is_true a)) clauses ≡ true → Model (assignment a) clauses
unfolding all Model
model_of a [] e = tt
model_of a (clause ∷ clauses) e = let b = and-true _ _ e in (clause-true a clause b.0, model_of a clauses b.1)
