-- What the code leaves of the inputs of an OR (specs/Settling) is what the rule leaves: `or-settled`.
use mathlib.Core.Path.{◌≡◌, refl, sym, ap, ◌∙◌, subst}
use mathlib.Core.Bool.{Bool, true, false, ◌||◌, cond, true≢false, false≢true, or-false}
use mathlib.Core.List.{List, [], ◌∷◌, ◌++◌, append_assoc, append-nil}
use mathlib.Core.Logic.{⊎_elim}
use Prim.Native.Nat.{ℕ, suc, ◌≤◌}
use Rattle.prelude.specs.Tests.{any}
use Rattle.prelude.proofs.Laws.{decided, or_left, or_right, or-rest, or_cases, any_append}
use Rattle.literal.specs.Literals.{Literal, positive, opposite, is_same}
use Rattle.literal.proofs.Same.{same-is, same_self, same_not, same-turned, opposite-other, opposite-twice}
use Rattle.clauses_rules.specs.Builder.{return}
use Rattle.clauses_rules.specs.Gates.{contains, struck, remaining, gives_true, or_of, or}
use Rattle.clauses_rules.specs.Translation.{absent}
use Rattle.clauses_rules.proofs.Struck.{contains-any, contained, remaining-any}
use Rattle.clauses_emission.specs.declared.Seen.{Seen}
use Rattle.clauses_emission.specs.declared.Seen.TheVariants.{Nothing, Itself, Opposite}
use Rattle.clauses_emission.specs.Emission.{Inside, AllInside}
use Rattle.clauses_emission.specs.Settling.{seen_in, by_sight, settled_by, settled}
use Rattle.clauses_emission.proofs.Ranges.{inside_one, all_none, all_more}

-- ---- what is seen
abbrev Sight : List Literal → Literal → Seen → Type 0
Sight ks l Nothing = (contains ks l ≡ false) × (contains ks (opposite l) ≡ false)
Sight ks l Itself = contains ks l ≡ true
Sight ks l Opposite = contains ks (opposite l) ≡ true

sight-next : (k : Literal) (ks : List Literal) (l : Literal) (a : Bool) → is_same l k ≡ a → (b : Bool) → is_same (opposite l) k ≡ b
    → (s : Seen) → Sight ks l s → Sight (k ∷ ks) l (cond a Itself (cond b Opposite s))
unfolding any
sight-next k ks l true e b f s h = or_left (is_same l k) (contains ks l) e
sight-next k ks l false e true f s h = or_left (is_same (opposite l) k) (contains ks (opposite l)) f
sight-next k ks l false e false f Nothing h = (
  or-rest (is_same l k) (contains ks l) e ∙ h.0,
  or-rest (is_same (opposite l) k) (contains ks (opposite l)) f ∙ h.1,
)
sight-next k ks l false e false f Itself h = or_right (is_same l k) (contains ks l) h
sight-next k ks l false e false f Opposite h = or_right (is_same (opposite l) k) (contains ks (opposite l)) h

sight : (ks : List Literal) (l : Literal) → Sight ks l (seen_in ks l)
unfolding seen_in any
sight [] l = (refl, refl)
sight (k ∷ ks) l = sight-next k ks l (is_same l k) refl (is_same (opposite l) k) refl (seen_in ks l) (sight ks l)

-- ---- one literal more
remaining-more : (ls before : List Literal) (l : Literal)
    → remaining before (ls ++ (l ∷ [])) ≡ remaining before ls ++ cond (struck (before ++ ls) l) [] (l ∷ [])
unfolding remaining
remaining-more [] before l = ap (λ (b : List Literal). cond (struck b l) [] (l ∷ [])) (sym (append-nil before))
remaining-more (x ∷ ls) before l =
    let next = before ++ (x ∷ []) in
    rw (remaining-more ls next l, append_assoc before (x ∷ []) ls)
    (pushed (struck before x) (remaining next ls) (cond (struck (before ++ (x ∷ ls)) l) [] (l ∷ [])))
  where
    pushed : (b : Bool) (rest last : List Literal) → cond b (rest ++ last) (x ∷ (rest ++ last)) ≡ cond b rest (x ∷ rest) ++ last
    pushed true rest last = refl
    pushed false rest last = refl

-- the same literals remain, -1 aside
same-literals : (ls : List Literal) (m : Literal) → contains (absent ∷ remaining [] ls) m ≡ contains (absent ∷ ls) m
unfolding any
same-literals ls m =
    ⊎_elim (λ t. rw t) (λ f. ap (λ (b : Bool). is_same m absent || b) (remaining-any (is_same m) f ls [])) (decided (is_same m absent))

-- no literal stands beside its opposite, and 1 nowhere: it is the opposite of -1
record Clean (ls : List Literal) : Type 0 where
  apart : (m : Literal) → contains (absent ∷ ls) m ≡ true → contains (absent ∷ ls) (opposite m) ≡ false

clean-none : Clean []
unfolding any
clean-none = record {
  apart = λ m h.
      let e = same-is m absent (⊎_elim (λ t. t) (λ f. absurd (false≢true f)) (or_cases (is_same m absent) false h)) in
      subst (λ (k : Literal). contains (absent ∷ []) (opposite k) ≡ false) (sym e) refl;
}

contains-more : (ls : List Literal) (l m : Literal)
    → contains (absent ∷ (ls ++ (l ∷ []))) m ≡ (contains (absent ∷ ls) m || is_same m l)
unfolding any
contains-more ls l m =
    any_append (is_same m) (absent ∷ ls) (l ∷ []) ∙ ap (λ (b : Bool). contains (absent ∷ ls) m || b) (or-false (is_same m l))

neither : (a b : Bool) → a ≡ false → b ≡ false → (a || b) ≡ false
neither a b e f = or-rest a b e ∙ f

clean-more : (ls : List Literal) (l : Literal) → Clean ls → contains (absent ∷ ls) (opposite l) ≡ false → Clean (ls ++ (l ∷ []))
clean-more ls l clean h = record {
  apart = λ m e.
      contains-more ls l (opposite m)
      ∙ ⊎_elim (earlier m) (last m) (or_cases (contains (absent ∷ ls) m) (is_same m l) (sym (contains-more ls l m) ∙ e));
}
  where
    earlier : (m : Literal) → contains (absent ∷ ls) m ≡ true → (contains (absent ∷ ls) (opposite m) || is_same (opposite m) l) ≡ false
    earlier m t =
        neither (contains (absent ∷ ls) (opposite m)) (is_same (opposite m) l) (clean.apart m t)
        (same-turned m l
        ∙ same_not m (opposite l) (λ e. true≢false (sym t ∙ ap (contains (absent ∷ ls)) e ∙ h)))

    last : (m : Literal) → is_same m l ≡ true → (contains (absent ∷ ls) (opposite m) || is_same (opposite m) l) ≡ false
    last m t =
        subst (λ (k : Literal). (contains (absent ∷ ls) (opposite k) || is_same (opposite k) l) ≡ false) (sym (same-is m l t))
        (neither (contains (absent ∷ ls) (opposite l)) (is_same (opposite l) l) h (opposite-other l))

clean-false : (ls : List Literal) → Clean ls → gives_true ls ≡ false
unfolding any
clean-false ls clean = ⊎_elim (λ t. absurd (no t)) (λ f. f) (decided (gives_true ls))
  where
    beside : (m : Literal) → contains ls m ≡ true → contains ls (opposite m) ≡ true → ⊥
    beside m t o =
        true≢false
        (sym (or_right (is_same (opposite m) absent) (contains ls (opposite m)) o)
        ∙ clean.apart m (or_right (is_same m absent) (contains ls m) t))

    no : gives_true ls ≡ true → ⊥
    no t =
        ⊎_elim
        (λ o. true≢false (clean.apart (positive 1) o))
        (λ o. let c = contained (λ l. contains ls (opposite l)) ls o in beside c.literal c.there c.has)
        (or_cases (contains ls (positive 1)) (any (λ l. contains ls (opposite l)) ls) t)

-- a literal after its opposite
module _ (before ls : List Literal) (l : Literal) where
  abbrev whole : List Literal
  whole = before ++ (l ∷ ls)

  there : contains whole l ≡ true
  unfolding any
  there =
      any_append (is_same l) before (l ∷ ls)
      ∙ or_right (contains before l) (is_same l l || contains ls l) (or_left (is_same l l) (contains ls l) (same_self l))

  after-opposite : contains before (opposite l) ≡ true → contains whole (opposite l) ≡ true
  after-opposite e =
      any_append (is_same (opposite l)) before (l ∷ ls) ∙ or_left (contains before (opposite l)) (contains (l ∷ ls) (opposite l)) e

  one-true : l ≡ positive 1 → gives_true whole ≡ true
  one-true e = or_left (contains whole (positive 1)) _ (subst (λ (k : Literal). contains whole k ≡ true) e there)

  pub gives-true : contains (absent ∷ before) (opposite l) ≡ true → gives_true whole ≡ true
  unfolding any
  gives-true h =
      ⊎_elim
      (λ e. one-true (sym (opposite-twice l) ∙ ap opposite (same-is (opposite l) absent e)))
      (λ e. or_right (contains whole (positive 1)) _ (contains-any (λ k. contains whole (opposite k)) whole l there (after-opposite e)))
      (or_cases (is_same (opposite l) absent) (contains before (opposite l)) h)

-- ---- the inputs, one after the other
abbrev outcome : List Literal → List Literal
outcome ls = cond (gives_true ls) (positive 1 ∷ []) (remaining [] ls)

kept_more : (before : List Literal) (l : Literal) (b : Bool) → contains (absent ∷ remaining [] before) l ≡ b
    → remaining [] (before ++ (l ∷ [])) ≡ remaining [] before ++ cond b [] (l ∷ [])
unfolding any
kept_more before l b h =
    remaining-more before [] l
    ∙ ap (λ (t : Bool). remaining [] before ++ cond t [] (l ∷ [])) (sym (same-literals before l) ∙ h)

module _ (before ls : List Literal) (l : Literal) (clean : Clean before)
    (again : (b : List Literal) → Clean b → settled_by (remaining [] b) ls ≡ outcome (b ++ ls)) where
  on : contains (absent ∷ before) (opposite l) ≡ false → settled_by (remaining [] (before ++ (l ∷ []))) ls ≡ outcome (before ++ (l ∷ ls))
  on h = again (before ++ (l ∷ [])) (clean-more before l clean h) ∙ ap outcome (append_assoc before (l ∷ []) ls)

  settles-step : (s : Seen) → Sight (absent ∷ remaining [] before) l s
      → by_sight s (settled_by (remaining [] before ++ (l ∷ [])) ls) (settled_by (remaining [] before) ls) (positive 1 ∷ [])
      ≡ outcome (before ++ (l ∷ ls))
  settles-step Nothing h =
      ap (λ (ks : List Literal). settled_by ks ls) (sym (kept_more before l false h.0))
      ∙ on (sym (same-literals before (opposite l)) ∙ h.1)
  settles-step Itself h =
      ap (λ (ks : List Literal). settled_by ks ls) (sym (kept_more before l true h ∙ append-nil (remaining [] before)))
      ∙ on (clean.apart l (sym (same-literals before l) ∙ h))
  settles-step Opposite h = rw (gives-true before ls l (sym (same-literals before (opposite l)) ∙ h))

settles : (ls before : List Literal) → Clean before → settled_by (remaining [] before) ls ≡ outcome (before ++ ls)
unfolding settled_by
settles [] before clean = rw (append-nil before, clean-false before clean)
settles (l ∷ ls) before clean =
    settles-step before ls l clean (settles ls) (seen_in (absent ∷ remaining [] before) l) (sight (absent ∷ remaining [] before) l)

-- OR is what is made of the inputs that the code leaves
pub or-settled : (ls : List Literal) (g : ℕ) → or_of (settled ls) g ≡ or ls g
unfolding or remaining
or-settled ls g = ap (λ (ks : List Literal). or_of ks g) (settles ls [] clean-none) ∙ go (gives_true ls)
  where
    go : (t : Bool) → or_of (cond t (positive 1 ∷ []) (remaining [] ls)) g ≡ cond t (return (positive 1)) (or_of (remaining [] ls)) g
    go true = refl
    go false = refl

-- ---- the literals that are left are in range
module _ {n : ℕ} (low : 2 ≤ n) where
  all-last : (ls : List Literal) (l : Literal) → Inside n l → AllInside n ls → AllInside n (ls ++ (l ∷ []))
  all-last [] l i j = all_more l [] i (all_none low)
  all-last (k ∷ ls) l i j = all_more k (ls ++ (l ∷ [])) (j 0) (all-last ls l i (λ m. j (suc m)))

  settled-by-inside : (ls kept : List Literal) → AllInside n kept → AllInside n ls → AllInside n (settled_by kept ls)
  unfolding settled_by
  settled-by-inside [] kept i j = i
  settled-by-inside (l ∷ ls) kept i j =
      go (seen_in (absent ∷ kept) l) _ _
      (settled-by-inside ls (kept ++ (l ∷ [])) (all-last kept l (j 0) i) (λ m. j (suc m)))
      (settled-by-inside ls kept i (λ m. j (suc m)))
    where
      go : (s : Seen) (x y : List Literal) → AllInside n x → AllInside n y → AllInside n (by_sight s x y (positive 1 ∷ []))
      go Nothing x y p q = p
      go Itself x y p q = q
      go Opposite x y p q = all_more (positive 1) [] (inside_one n low) (all_none low)

  pub settled-inside : (ls : List Literal) → AllInside n ls → AllInside n (settled ls)
  settled-inside ls i = settled-by-inside ls [] (all_none low) i
