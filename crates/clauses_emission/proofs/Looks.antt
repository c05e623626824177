-- What is seen among words, one after the other.
use mathlib.Core.Path.{◌≡◌, sym, ap, ◌∙◌}
use mathlib.Core.List.{List, ◌∷◌}
use Prim.Native.Nat.{ℕ, suc, ◌≤◌, ◌<◌}
use lib.IntN.{ℤ, pos, negsuc}
use lib.ListN.{length, get_or, drop, drop_of_length-le}
use lib.Seq.{drop-cons}
use Rattle.literal.specs.Literals.{Literal, opposite, is_same}
use Rattle.literal.specs.Words.{literal_of}
use Rattle.literal.proofs.Same.{same_self, same_not, opposite-twice, one_word}
use Rattle.clauses_rules.specs.Translation.{absent}
use Rattle.clauses_emission.specs.declared.Seen.TheVariants.{Nothing, Itself, Opposite}
use Rattle.clauses_emission.specs.Emission.{literals_of}
use Rattle.clauses_emission.specs.Settling.{seen_in}

module _ (k l : Literal) (ks : List Literal) where
  pub seen-itself : l ≡ k → seen_in (k ∷ ks) l ≡ Itself
  unfolding seen_in
  seen-itself e = rw (ap (is_same l) (sym e) ∙ same_self l)

  pub seen-opposite : (l ≡ k → ⊥) → opposite l ≡ k → seen_in (k ∷ ks) l ≡ Opposite
  unfolding seen_in
  seen-opposite n e = rw (same_not l k n, ap (is_same (opposite l)) (sym e) ∙ same_self (opposite l))

  pub seen-past : (l ≡ k → ⊥) → (opposite l ≡ k → ⊥) → seen_in (k ∷ ks) l ≡ seen_in ks l
  unfolding seen_in
  seen-past n m = rw (same_not l k n, same_not (opposite l) k m)

-- from place k on
module _ (ws : List ℤ) (k : ℕ) (h : k < length ws) where
  abbrev here : ℤ
  here = get_or ws k (pos 0)

  from-here : literals_of (drop k ws) ≡ literal_of here ∷ literals_of (drop (suc k) ws)
  from-here = ap literals_of (drop-cons ws k (pos 0) h)

  module _ (l : ℤ) where
    pub look-itself : here ≡ l → seen_in (literals_of (drop k ws)) (literal_of l) ≡ Itself
    look-itself e = rw from-here (seen-itself (literal_of here) (literal_of l) _ (ap literal_of (sym e)))

    pub look-opposite : (here ≡ l → ⊥) → literal_of here ≡ opposite (literal_of l) → seen_in (literals_of (drop k ws)) (literal_of l) ≡ Opposite
    look-opposite n e = rw from-here (seen-opposite (literal_of here) (literal_of l) _ (λ f. n (one_word here l (sym f))) (sym e))

    pub look-past : (here ≡ l → ⊥) → (literal_of here ≡ opposite (literal_of l) → ⊥)
        → seen_in (literals_of (drop k ws)) (literal_of l) ≡ seen_in (literals_of (drop (suc k) ws)) (literal_of l)
    look-past n m = rw from-here (seen-past (literal_of here) (literal_of l) _ (λ f. n (one_word here l (sym f))) (λ f. m (sym f)))

-- nothing is left to look at
pub look-end : (ws : List ℤ) (k : ℕ) (l : Literal) → length ws ≤ k → seen_in (literals_of (drop k ws)) l ≡ Nothing
unfolding seen_in
look-end ws k l h = rw (drop_of_length-le ws h)

-- -1 first
module _ (l : ℤ) (ks : List Literal) where
  pub look-absent : l ≡ negsuc 0 → seen_in (absent ∷ ks) (literal_of l) ≡ Itself
  look-absent e = seen-itself absent (literal_of l) ks (ap literal_of e)

  pub look_one : l ≡ pos 1 → seen_in (absent ∷ ks) (literal_of l) ≡ Opposite
  unfolding seen_in
  look_one e = rw e

  pub look-further : (l ≡ negsuc 0 → ⊥) → (l ≡ pos 1 → ⊥) → seen_in (absent ∷ ks) (literal_of l) ≡ seen_in ks (literal_of l)
  look-further n m =
      seen-past absent (literal_of l) ks (λ f. n (one_word l (negsuc 0) f))
      (λ f. m (one_word l (pos 1) (sym (opposite-twice (literal_of l)) ∙ ap opposite f)))
