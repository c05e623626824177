-- Where words stand: a word is of one clause, and names one variable.
use mathlib.Core.Path.{◌≡◌, refl, sym, ◌∙◌, ap}
use mathlib.Core.Logic.{◌⊎◌, inl, inr, ⊎_elim}
use mathlib.Core.List.{List, [], ◌∷◌}
use Prim.Native.Nat.{ℕ, zero, suc, ◌+◌, ◌<◌, ◌≤◌}
use native.Mathlib.Omega.{arith}
use native.Mathlib.Nat.{eq-or-lt_of_le}
use lib.IntN.{ℤ, pos}
use lib.ListN.{length, get_or}
use Rattle.search_rules.specs.Rules.{place_of}
use Rattle.search_index.specs.Index.{clause_at, head_of, Spot}

pub same_or_not : (i j : ℕ) → (i ≡ j) ⊎ (i ≡ j → ⊥)
same_or_not zero zero = inl refl
same_or_not zero (suc j) = inr (λ e. absurd (omega (arith, e)))
same_or_not (suc i) zero = inr (λ e. absurd (omega (arith, e)))
same_or_not (suc i) (suc j) = ⊎_elim (λ e. inl (ap suc e)) (λ n. inr (λ e. n (omega (arith, e)))) (same_or_not i j)

pub below_or : (a b : ℕ) → (a < b) ⊎ (b ≤ a)
below_or zero zero = inr (omega arith)
below_or zero (suc b) = inl (omega arith)
below_or (suc a) zero = inr (omega arith)
below_or (suc a) (suc b) = ⊎_elim (λ l. inl (omega (arith, l))) (λ l. inr (omega (arith, l))) (below_or a b)

-- a clause ends before the next begins
head-next : (clauses : List (List ℤ)) (c d : ℕ) → c < d → d < length clauses
    → head_of clauses c + suc (length (clause_at clauses c)) ≤ head_of clauses d
unfolding head_of
head-next [] c d h l = absurd (omega arith)
head-next (clause ∷ clauses) c zero h l = absurd (omega arith)
head-next (clause ∷ clauses) zero (suc d) h l = omega arith
head-next (clause ∷ clauses) (suc c) (suc d) h l = omega (arith, head-next clauses c d (omega arith) (omega arith))

-- a word is of one clause
pub same-clause : (clauses : List (List ℤ)) (p q i j : ℕ) (s : Spot clauses p i) (t : Spot clauses q j) → i ≡ j → s.c ≡ t.c
same-clause clauses p q i j s t z = ⊎_elim (λ e. e) apart (same_or_not s.c t.c)
  where
    before : s.c < t.c → s.c ≡ t.c
    before l = absurd (omega (arith, head-next clauses s.c t.c l t.within, z, s.word, t.word, s.inside))

    after : t.c < s.c → s.c ≡ t.c
    after l = absurd (omega (arith, head-next clauses t.c s.c l s.within, z, s.word, t.word, t.inside))

    either : (a b : ℕ) → (a ≡ b → ⊥) → (a < b) ⊎ (b < a)
    either zero zero n = absurd (n refl)
    either zero (suc b) n = inl (omega arith)
    either (suc a) zero n = inr (omega arith)
    either (suc a) (suc b) n = ⊎_elim (λ l. inl (omega (arith, l))) (λ l. inr (omega (arith, l))) (either a b (λ e. n (ap suc e)))

    apart : (s.c ≡ t.c → ⊥) → s.c ≡ t.c
    apart n = ⊎_elim before after (either s.c t.c n)

-- a word names one variable
same-offset : (clauses : List (List ℤ)) (p q i j : ℕ) (s : Spot clauses p i) (t : Spot clauses q j) → i ≡ j → s.k ≡ t.k
same-offset clauses p q i j s t z =
    let e = ap (head_of clauses) (same-clause clauses p q i j s t z) in omega (arith, e, z, s.word, t.word)

pub same_place : (clauses : List (List ℤ)) (p q i j : ℕ) (s : Spot clauses p i) (t : Spot clauses q j) → i ≡ j → p ≡ q
same_place clauses p q i j s t z =
    sym s.names
    ∙ ap (λ (c : ℕ). place_of (get_or (clause_at clauses c) s.k (pos 0))) (same-clause clauses p q i j s t z)
    ∙ ap (λ (k : ℕ). place_of (get_or (clause_at clauses t.c) k (pos 0))) (same-offset clauses p q i j s t z)
    ∙ t.names

head-mono : (clauses : List (List ℤ)) (c d : ℕ) → c ≤ d → d < length clauses → head_of clauses c ≤ head_of clauses d
head-mono clauses c d l h = ⊎_elim (λ e. rw e (omega arith)) (λ b. omega (arith, head-next clauses c d b h)) (eq-or-lt_of_le l)

-- the word of a count names no variable
pub no-spot : (clauses : List (List ℤ)) (c p : ℕ) → c < length clauses → Spot clauses p (head_of clauses c) → ⊥
no-spot clauses c p l s =
    ⊎_elim (λ b. absurd (omega (arith, head-next clauses s.c c b l, s.word, s.inside)))
    (λ b. absurd (omega (arith, head-mono clauses c s.c b s.within, s.word))) (below_or s.c c)
