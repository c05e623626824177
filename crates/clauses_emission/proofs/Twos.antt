-- OR of two literals where it is told without a list, and where it is a gate.
use mathlib.Core.Path.{◌≡◌, refl, sym, ap, ◌∙◌}
use mathlib.Core.Bool.{true, false, ◌||◌, true≢false}
use mathlib.Core.List.{List, [], ◌∷◌}
use mathlib.Core.Logic.{◌⊎◌, inl, inr, ⊎_elim}
use Prim.Native.Nat.{ℕ}
use lib.IntN.{ℤ}
use Rattle.prelude.specs.Tests.{any}
use Rattle.prelude.proofs.Laws.{decided, or_left, or_right}
use Rattle.literal.specs.Literals.{Literal, positive, opposite, is_same}
use Rattle.literal.specs.Words.{literal_of}
use Rattle.literal.proofs.Same.{same-is, same_self, opposite-twice}
use Rattle.clauses_rules.specs.Builder.{Built, Builder, return, ◌<$>◌}
use Rattle.clauses_rules.specs.Gates.{gate_of, gives_true, or_of, or}
use Rattle.clauses_rules.specs.Translation.{Two, absent, either, both}
use Rattle.clauses_emission.specs.declared.Tape.{Tape}
use Rattle.clauses_emission.specs.declared.Seen.TheVariants.{Nothing, Itself}
use Rattle.clauses_emission.specs.Emission.{Inside, Bounded, EmitsTwo}
use Rattle.clauses_emission.specs.Settling.{seen_in, settled_by, settled, Apart, Told}
use Rattle.clauses_emission.proofs.Ranges.{inside-opposite}
use Rattle.clauses_emission.proofs.Steps.{emits-return, emits-as}
use Rattle.clauses_emission.proofs.Settled.{or-settled, gives-true}
use Rattle.clauses_emission.proofs.Looks.{seen-itself, seen-past}

told : (p k : Literal) → (p ≡ k) ⊎ (p ≡ k → ⊥)
told p k =
    ⊎_elim (λ t. inl (same-is p k t)) (λ f. inr (λ e. true≢false (sym (same_self p) ∙ ap (is_same p) e ∙ f))) (decided (is_same p k))

-- a literal that is no constant is not seen where only -1 stands
past : (p : Literal) (ks : List Literal) → (p ≡ absent → ⊥) → (p ≡ positive 1 → ⊥) → seen_in (absent ∷ ks) p ≡ seen_in ks p
past p ks n m = seen-past absent p ks n (λ e. m (sym (opposite-twice p) ∙ ap opposite e))

single : (q : Literal) (g : ℕ) → or_of (settled (q ∷ [])) g ≡ return q g
unfolding settled_by seen_in
single q g =
    ⊎_elim (λ e. rw e)
    (λ n. ⊎_elim (λ e. rw e) (λ m. rw (past q [] n m)) (told q (positive 1)))
    (told q absent)

-- nothing is kept of the second where it is seen after the first
first-only : (p q : Literal) (g : ℕ) → (p ≡ absent → ⊥) → seen_in (absent ∷ p ∷ []) q ≡ Itself → or_of (settled (p ∷ q ∷ [])) g ≡ return p g
unfolding settled_by seen_in
first-only p q g n h = ⊎_elim (λ e. rw e) (λ m. rw (past p [] n m, h)) (told p (positive 1))

module _ (p q : Literal) (g : ℕ) where
  or-true : gives_true (p ∷ q ∷ []) ≡ true → return (positive 1) g ≡ or (p ∷ q ∷ []) g
  unfolding or
  or-true e = rw e

  pub or-one-first : p ≡ positive 1 → return (positive 1) g ≡ or (p ∷ q ∷ []) g
  unfolding any
  or-one-first e = or-true (gives-true [] (q ∷ []) p (rw e))

  pub or-one-second : q ≡ positive 1 → return (positive 1) g ≡ or (p ∷ q ∷ []) g
  unfolding any
  or-one-second e = or-true (gives-true (p ∷ []) [] q (rw e))

  pub or-opposites : p ≡ opposite q → return (positive 1) g ≡ or (p ∷ q ∷ []) g
  unfolding any
  or-opposites e =
      or-true
      (gives-true (p ∷ []) [] q
      (or_right (is_same (opposite q) absent) (is_same (opposite q) p || false)
      (or_left (is_same (opposite q) p) false (ap (is_same (opposite q)) e ∙ same_self (opposite q)))))

  pub or-absent-first : p ≡ absent → return q g ≡ or (p ∷ q ∷ []) g
  unfolding settled_by
  or-absent-first e = sym (single q g) ∙ ap (λ (ks : List Literal). or_of ks g) skipped ∙ or-settled (p ∷ q ∷ []) g
    where
      skipped : settled (q ∷ []) ≡ settled (p ∷ q ∷ [])
      skipped = rw (seen-itself absent p [] e)

  pub or-absent-second : (p ≡ absent → ⊥) → q ≡ absent → return p g ≡ or (p ∷ q ∷ []) g
  or-absent-second n e = sym (first-only p q g n (seen-itself absent q (p ∷ []) e)) ∙ or-settled (p ∷ q ∷ []) g

  pub or-repeat : (p ≡ absent → ⊥) → (q ≡ absent → ⊥) → p ≡ q → return p g ≡ or (p ∷ q ∷ []) g
  or-repeat n m e =
      ⊎_elim
      (λ o. ap (λ (k : Literal). return k g) o ∙ or-one-first o)
      (λ o.
      let seen = past q (p ∷ []) m (λ f. o (e ∙ f)) ∙ seen-itself p q [] (sym e) in
      sym (first-only p q g n seen) ∙ or-settled (p ∷ q ∷ []) g)
      (told p (positive 1))

  pub or-gate : Apart p q → gate_of (p ∷ q ∷ []) g ≡ or (p ∷ q ∷ []) g
  unfolding settled_by seen_in
  or-gate a = ap (λ (ks : List Literal). or_of ks g) (sym both-kept) ∙ or-settled (p ∷ q ∷ []) g
    where
      second : seen_in (absent ∷ p ∷ []) q ≡ Nothing
      second =
          past q (p ∷ []) a.second_absent a.second_one
          ∙ seen-past p q [] (λ e. a.repeat (sym e)) (λ e. a.opposites (sym e))

      both-kept : settled (p ∷ q ∷ []) ≡ p ∷ q ∷ []
      both-kept = rw (past p [] a.first_absent a.first_one, second)

-- ---- words that tell what a step over two gives
pub emits-told : (step : Two → Builder Literal) {p q r : ℤ} → Told step p q r → (list : List ℤ) (tape : Tape) → Bounded tape
    → Inside tape.next (literal_of p) → Inside tape.next (literal_of q) → EmitsTwo step p q list tape r list tape
emits-told step {p} {q} {r} t list tape b i j =
    emits-as (t.value tape.next) refl (emits-return (literal_of r) list tape b (t.inside b.first i j))

-- AND by OR of the opposites
pub told-turned : {p q r u v w : ℤ} → literal_of u ≡ opposite (literal_of p) → literal_of v ≡ opposite (literal_of q)
    → literal_of w ≡ opposite (literal_of r) → Told either u v r → Told both p q w
told-turned {p} {q} {r} {u} {v} {w} e f h t = record {
  value = λ g.
      let x : return (literal_of r) g ≡ or (opposite (literal_of p) ∷ opposite (literal_of q) ∷ []) g = rw (e, f) at (t.value g) in
      rw h (ap (λ (y : Built Literal). (opposite <$> (λ k. y)) g) x);
  inside = λ m i j.
      rw h
      (inside-opposite (literal_of r)
      (t.inside m (rw e (inside-opposite (literal_of p) i)) (rw f (inside-opposite (literal_of q) j))));
}
