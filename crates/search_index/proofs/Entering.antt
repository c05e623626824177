-- The words of a clause entered into the chains.
use mathlib.Core.Path.{◌≡◌, refl, sym, ◌∙◌, ap}
use mathlib.Core.Bool.{Bool, true}
use mathlib.Core.Logic.{⊎_elim}
use mathlib.Core.List.{List}
use Prim.Native.Nat.{ℕ, suc, ◌+◌, ◌*◌, ◌-◌, ◌<◌, ◌≤◌}
use native.Mathlib.Omega.{arith}
use native.Mathlib.Nat.{eq-or-lt_of_le}
use lib.IntN.{ℤ, pos}
use lib.ListN.{length, get_or, set, length-set}
use lib.Seq.{get_or-set_same, get_or-set_other}
use Rattle.clause_list.specs.ClauseList.{clauses_of, words_of}
use Rattle.search_rules.specs.Rules.{place_of}
use Rattle.search_rules.specs.Held.{InRange}
use Rattle.search_rules.specs.Inner.{Fine}
use Rattle.search_rules.proofs.Ranges.{ranged}
use Rattle.search_rules.proofs.Found.{place-below}
use Rattle.search_index.specs.Index.{limit, clause_at, head_of, Spot, Linked, Roomy, Apart, first_at, link_at, owner_at, head_at}
use Rattle.search_index.proofs.Spots.{no-spot}
use Rattle.search_index.proofs.Chaining.{chained-skip, chained_same, chained_more}
use Rattle.search_index.proofs.Words.{literal-at, head-high, head_step, clause-ranged, literal-ranged}

-- the variables that a list with room names are below the limit
module _ (list : List ℤ) (h : Roomy list) (q j : ℕ) (s : Spot (clauses_of list) q j) where
  abbrev clause : List ℤ
  clause = clause_at (clauses_of list) s.c

  literal-fits : InRange h.v (get_or clause s.k (pos 0))
  literal-fits =
      literal-ranged h.v clause s.k (clause-ranged h.v (clauses_of list) s.c (ranged h.v list h.fine) s.within) s.inside

  pub spot-low : q < limit
  spot-low = omega (arith, place-below h.v (get_or clause s.k (pos 0)) literal-fits, s.names, h.few)

-- a place of the chains where neither first words nor links nor owners stand
pub linked-set : (clauses : List (List ℤ)) → ((q j : ℕ) → Spot clauses q j → q < limit) → (chains : List ℕ) (bound : ℕ) → bound ≤ limit
    → Linked clauses chains bound → (k x : ℕ) → 49152 ≤ k → Linked clauses (set chains k x) bound
linked-set clauses low chains bound b h k x l = record {
  long = length-set chains k x ∙ h.long;
  chained = chained_same clauses _ _ _ bound h.chained low _ _ _
      (λ j a. get_or-set_other chains k (16384 + 2 * j) x 0 (λ e. absurd (omega (arith, e))))
      (λ j a. get_or-set_other chains k (16385 + 2 * j) x 0 (λ e. absurd (omega (arith, e))))
      (λ q a. get_or-set_other chains k q x 0 (λ e. absurd (omega (arith, e))));
}

-- word i names the variable at place p and is of clause c
abbrev with_word : List ℕ → ℕ → ℕ → ℕ → List ℕ
with_word chains p i c = set (set (set chains (16385 + 2 * i) c) (16384 + 2 * i) (first_at chains p)) p i

module _ (chains : List ℕ) (long : length chains ≡ 65537) (p i c : ℕ) (lp : p < limit) (li : i < limit) where
  abbrev owned : List ℕ
  owned = set chains (16385 + 2 * i) c

  abbrev joined : List ℕ
  joined = set owned (16384 + 2 * i) (first_at chains p)

  owned_long : length owned ≡ 65537
  owned_long = length-set chains (16385 + 2 * i) c ∙ long

  joined-long : length joined ≡ 65537
  joined-long = length-set owned (16384 + 2 * i) _ ∙ owned_long

  word-long : length (with_word chains p i c) ≡ 65537
  word-long = length-set joined p i ∙ joined-long

  -- other places
  word-other : (k : ℕ) → (k ≡ p → ⊥) → (k ≡ 16384 + 2 * i → ⊥) → (k ≡ 16385 + 2 * i → ⊥) → get_or (with_word chains p i c) k 0 ≡ get_or chains k 0
  word-other k a b d =
      get_or-set_other joined p k i 0 a ∙ get_or-set_other owned (16384 + 2 * i) k _ 0 b ∙ get_or-set_other chains (16385 + 2 * i) k c 0 d

  word_first : first_at (with_word chains p i c) p ≡ i
  word_first = get_or-set_same joined p i 0 (omega (arith, joined-long))

  word-link : link_at (with_word chains p i c) i ≡ first_at chains p
  word-link =
      get_or-set_other joined p (16384 + 2 * i) i 0 (λ e. absurd (omega (arith, e)))
      ∙ get_or-set_same owned (16384 + 2 * i) _ 0 (omega (arith, owned_long))

  word-owner : owner_at (with_word chains p i c) i ≡ c
  word-owner =
      get_or-set_other joined p (16385 + 2 * i) i 0 (λ e. absurd (omega (arith, e)))
      ∙ get_or-set_other owned (16384 + 2 * i) (16385 + 2 * i) _ 0 (λ e. absurd (omega (arith, e)))
      ∙ get_or-set_same chains (16385 + 2 * i) c 0 (omega (arith, long))

  word-heads : (k : ℕ) → head_at (with_word chains p i c) k ≡ head_at chains k
  word-heads k =
      word-other (49152 + k) (λ e. absurd (omega (arith, e))) (λ e. absurd (omega (arith, e))) (λ e. absurd (omega (arith, e)))

  linked-word : (clauses : List (List ℤ)) → ((q j : ℕ) → Spot clauses q j → q < limit) → Linked clauses chains i → (s : Spot clauses p i) → c ≡ s.c
      → Linked clauses (with_word chains p i c) (suc i)
  linked-word clauses low h s e = record {
    long = word-long;
    chained = chained_more clauses _ _ _ i h.chained low _ _ _
        (λ j a. word-other (16384 + 2 * j) (λ z. absurd (omega (arith, z))) (λ z. absurd (omega (arith, z))) (λ z. absurd (omega (arith, z))))
        (λ j a. word-other (16385 + 2 * j) (λ z. absurd (omega (arith, z))) (λ z. absurd (omega (arith, z))) (λ z. absurd (omega (arith, z))))
        p s word_first word-link (word-owner ∙ e)
        (λ q a n. word-other q n (λ z. absurd (omega (arith, z))) (λ z. absurd (omega (arith, z))));
  }

-- clause c is being entered, and word i is next; where `apart` is true the words before it name different variables
pub record Entered (clauses : List (List ℤ)) (chains₀ chains : List ℕ) (c i : ℕ) (apart : Bool) : Type 0 where
  pub linked : Linked clauses chains i
  pub low : head_of clauses c + 1 ≤ i
  pub high : i ≤ head_of clauses (suc c)
  pub heads : (k : ℕ) → head_at chains k ≡ head_at chains₀ k
  pub so_far : apart ≡ true → (j k : ℕ) → j < k → suc (head_of clauses c + k) < i
      → place_of (get_or (clause_at clauses c) j (pos 0)) ≡ place_of (get_or (clause_at clauses c) k (pos 0)) → ⊥

module _ (clauses : List (List ℤ)) (c : ℕ) (l : c < length clauses) (chains₀ : List ℕ) where
  pub enter-first : (head : ℕ) → head ≡ head_of clauses c → Linked clauses chains₀ head → Entered clauses chains₀ chains₀ c (head + 1) true
  enter-first head z h = record {
    linked = record {
      long = h.long;
      chained = let e : head + 1 ≡ suc head = omega arith in
          rw e (chained-skip clauses _ _ _ head h.chained (λ p s. no-spot clauses c p l (rw z at s)));
    };
    low = omega (arith, z);
    high = omega (arith, z, head_step clauses c l);
    heads = λ k. refl;
    so_far = λ a j k b d. absurd (omega (arith, z, d));
  }

  -- the literal at word i
  module _ (chains : List ℕ) (i : ℕ) (apart : Bool) (h : Entered clauses chains₀ chains c i apart) (b : i < head_of clauses (suc c)) where
    offset : ℕ
    offset = i - (head_of clauses c + 1)

    inside : offset < length (clause_at clauses c)
    unfolding offset
    inside = omega (arith, b, h.low, head_step clauses c l)

    word-is : i ≡ suc (head_of clauses c + offset)
    unfolding offset
    word-is = omega (arith, h.low)

    pub word-within : i < length (words_of clauses)
    word-within = omega (arith, word-is, inside, head-high clauses c l)

    literal-is : get_or (words_of clauses) i (pos 0) ≡ get_or (clause_at clauses c) offset (pos 0)
    literal-is = ap (λ (n : ℕ). get_or (words_of clauses) n (pos 0)) word-is ∙ literal-at clauses c offset l inside

    the-spot : (p : ℕ) → p ≡ place_of (get_or (words_of clauses) i (pos 0)) → Spot clauses p i
    the-spot p e = record {
      c = c;
      k = offset;
      within = l;
      inside = inside;
      names = ap place_of (sym literal-is) ∙ sym e;
      word = word-is;
    }

    pub literal-range : (v : ℕ) (list : List ℤ) → Fine v list → clauses ≡ clauses_of list → InRange v (get_or (words_of clauses) i (pos 0))
    literal-range v list f e =
        rw literal-is (literal-ranged v (clause_at clauses c) offset (clause-ranged v clauses c (rw e (ranged v list f)) l) inside)

    module _ (p : ℕ) (e : p ≡ place_of (get_or (words_of clauses) i (pos 0))) where
      -- an earlier word of the clause that names the same variable would be the head of its chain, or behind it
      meets : (j : ℕ) → j < offset → place_of (get_or (clause_at clauses c) j (pos 0)) ≡ p → first_at chains p ≤ head_of clauses c → ⊥
      meets j d z f = omega (arith, f, h.linked.chained.last p (suc (head_of clauses c + j)) s (omega (arith, word-is, d)))
        where
          s : Spot clauses p (suc (head_of clauses c + j))
          s = record { c = c; k = j; within = l; inside = omega (arith, d, inside); names = z; word = refl }

      still : (apart' : Bool) → (apart' ≡ true → (apart ≡ true) × (first_at chains p ≤ head_of clauses c)) → apart' ≡ true
          → (j k : ℕ) → j < k → suc (head_of clauses c + k) < i + 1
          → place_of (get_or (clause_at clauses c) j (pos 0)) ≡ place_of (get_or (clause_at clauses c) k (pos 0)) → ⊥
      still apart' t a j k d w z = ⊎_elim now before (eq-or-lt_of_le (omega (arith, w, word-is)))
        where
          now : k ≡ offset → ⊥
          now q =
              let r = ap (λ (n : ℕ). place_of (get_or (clause_at clauses c) n (pos 0))) q in
              meets j (omega (arith, d, q)) (z ∙ r ∙ ap place_of (sym literal-is) ∙ sym e) (t a).1

          before : k < offset → ⊥
          before q = h.so_far (t a).0 j k d (omega (arith, q, word-is)) z

      pub enter-next : ((q j : ℕ) → Spot clauses q j → q < limit) → p < limit → i < limit
          → (apart' : Bool) → (apart' ≡ true → (apart ≡ true) × (first_at chains p ≤ head_of clauses c))
          → Entered clauses chains₀ (with_word chains p i c) c (i + 1) apart'
      unfolding the-spot
      enter-next spots lp li apart' t = record {
        linked = let z : i + 1 ≡ suc i = omega arith in
            rw z (linked-word chains h.linked.long p i c lp li clauses spots h.linked (the-spot p e) refl);
        low = omega (arith, h.low);
        high = omega (arith, b);
        heads = λ k. word-heads chains h.linked.long p i c lp li k ∙ h.heads k;
        so_far = still apart' t;
      }

  pub enter-end : (chains : List ℕ) (i : ℕ) (apart : Bool) → Entered clauses chains₀ chains c i apart → head_of clauses (suc c) ≤ i
      → Linked clauses chains (head_of clauses (suc c))
  enter-end chains i apart h b = let e : i ≡ head_of clauses (suc c) = omega (arith, b, h.high) in rw e at h.linked

  pub enter-apart : (chains : List ℕ) (i : ℕ) (apart : Bool) → Entered clauses chains₀ chains c i apart → head_of clauses (suc c) ≤ i
      → apart ≡ true → Apart (clause_at clauses c)
  enter-apart chains i apart h b t j k d w =
      h.so_far t j k d (omega (arith, b, w, head_step clauses c l))
