-- The chains with one word more. A literal names a variable below the limit: above it the functions say nothing.
use mathlib.Core.Path.{◌≡◌, refl, sym, ◌∙◌, ap}
use mathlib.Core.Logic.{◌⊎◌, ⊎_elim}
use mathlib.Core.List.{List}
use Prim.Native.Nat.{ℕ, zero, suc, ◌<◌, ◌≤◌}
use native.Mathlib.Omega.{arith}
use native.Mathlib.Nat.{eq-or-lt_of_le}
use lib.IntN.{ℤ}
use Rattle.search_index.specs.Index.{limit, Spot, Chained}
use Rattle.search_index.proofs.Spots.{same_or_not, same-clause, same_place}

-- none before the first word
pub chained-none : (clauses : List (List ℤ)) (first link owner : ℕ → ℕ) → ((p : ℕ) → first p ≡ 0) → Chained clauses first link owner 0
chained-none clauses first link owner none = record {
  owner_is = λ p i s l. absurd (omega arith);
  last = λ p i s l. absurd (omega arith);
  first_spot = λ p b h. absurd (omega (arith, none p));
  link_spot = λ p i s l. absurd (omega arith);
  linked = λ p i s l. absurd (omega arith);
  gaps = λ p i j s l. absurd (omega arith);
}

module _ (clauses : List (List ℤ)) (first link owner : ℕ → ℕ) (i : ℕ) (chains : Chained clauses first link owner i) where
  -- a word that is no literal
  pub chained-skip : ((p : ℕ) → Spot clauses p i → ⊥) → Chained clauses first link owner (suc i)
  chained-skip none = record {
    owner_is = λ p j s l. chains.owner_is p j s (before p j s l);
    last = λ p j s l. chains.last p j s (before p j s l);
    first_spot = λ p b h. let f = chains.first_spot p b h in (f.0, omega (arith, f.1));
    link_spot = λ p j s l. chains.link_spot p j s (before p j s l);
    linked = λ p j s l. chains.linked p j s (before p j s l);
    gaps = λ p j h s l. chains.gaps p j h s (before p j s l);
  }
    where
      before : (p j : ℕ) → Spot clauses p j → j < suc i → j < i
      before p j s l = ⊎_elim (λ e. absurd (none p (rw e at s))) (λ h. h) (eq-or-lt_of_le (omega (arith, l)))

  module _ (low : (q j : ℕ) → Spot clauses q j → q < limit) (first' link' owner' : ℕ → ℕ)
      (link-same : (j : ℕ) → j < i → link' j ≡ link j) (owner-same : (j : ℕ) → j < i → owner' j ≡ owner j) where
    -- functions that are the same where they are asked
    pub chained_same : ((q : ℕ) → q < limit → first' q ≡ first q) → Chained clauses first' link' owner' i
    chained_same first-same = record {
      owner_is = λ p j s l. owner-same j l ∙ chains.owner_is p j s l;
      last = λ p j s l. omega (arith, first-same p (low p j s), chains.last p j s l);
      first_spot = λ p b h. rw (first-same p b) (chains.first_spot p b (omega (arith, h, first-same p b)));
      link_spot = λ p j s l h. rw (link-same j l) (chains.link_spot p j s l (omega (arith, h, link-same j l)));
      linked = λ p j s l. omega (arith, link-same j l, chains.linked p j s l);
      gaps = λ p j h s l u b. omega (arith, link-same j l, chains.gaps p j h s l u b);
    }

    -- a literal more
    module _ (p : ℕ) (s : Spot clauses p i) (first-new : first' p ≡ i) (link-new : link' i ≡ first p) (owner-new : owner' i ≡ s.c)
        (first-same : (q : ℕ) → q < limit → (q ≡ p → ⊥) → first' q ≡ first q) where
      at_most : (j : ℕ) → j < suc i → (j ≡ i) ⊎ (j < i)
      at_most j l = eq-or-lt_of_le (omega arith)

      here : p < limit
      here = low p i s

      first-low : first p < i
      first-low = by (first p) refl
        where
          by : (n : ℕ) → first p ≡ n → n < i
          by zero e = omega (arith, s.word)
          by (suc n) e = let f = chains.first_spot p here (omega (arith, e)) in omega (arith, f.1, e)

      owner-more : (q j : ℕ) (t : Spot clauses q j) → j < suc i → owner' j ≡ t.c
      owner-more q j t l = ⊎_elim equal (λ h. owner-same j h ∙ chains.owner_is q j t h) (at_most j l)
        where
          equal : j ≡ i → owner' j ≡ t.c
          equal e = ap owner' e ∙ owner-new ∙ same-clause clauses p q i j s t (sym e)

      last_more : (q j : ℕ) → Spot clauses q j → j < suc i → j ≤ first' q
      last_more q j t l = ⊎_elim same other (same_or_not q p)
        where
          same : q ≡ p → j ≤ first' q
          same e = omega (arith, ap first' e ∙ first-new, l)

          other : (q ≡ p → ⊥) → j ≤ first' q
          other n =
              let b : j < i = ⊎_elim (λ e. absurd (n (sym (same_place clauses p q i j s t (sym e))))) (λ h. h) (at_most j l) in
              omega (arith, first-same q (low q j t) n, chains.last q j t b)

      first_more : (q : ℕ) → q < limit → 1 ≤ first' q → Spot clauses q (first' q) × (first' q < suc i)
      first_more q b h = ⊎_elim same other (same_or_not q p)
        where
          same : q ≡ p → Spot clauses q (first' q) × (first' q < suc i)
          same e = rw (e, first-new) (s, omega arith)

          other : (q ≡ p → ⊥) → Spot clauses q (first' q) × (first' q < suc i)
          other n =
              let e = first-same q b n in
              rw e (let f = chains.first_spot q b (omega (arith, e, h)) in (f.0, omega (arith, f.1)))

      link-more : (q j : ℕ) → Spot clauses q j → j < suc i → 1 ≤ link' j → Spot clauses q (link' j)
      link-more q j t l h = ⊎_elim equal earlier (at_most j l)
        where
          equal : j ≡ i → Spot clauses q (link' j)
          equal e =
              rw (e, link-new, ← same_place clauses p q i j s t (sym e))
              (chains.first_spot p here (omega (arith, h, ap link' e ∙ link-new))).0

          earlier : j < i → Spot clauses q (link' j)
          earlier b = rw (link-same j b) (chains.link_spot q j t b (omega (arith, h, link-same j b)))

      linked-more : (q j : ℕ) → Spot clauses q j → j < suc i → link' j < j
      linked-more q j t l =
          ⊎_elim (λ e. omega (arith, ap link' e ∙ link-new, e, first-low)) (λ b. omega (arith, link-same j b, chains.linked q j t b))
          (at_most j l)

      gaps-more : (q j h : ℕ) → Spot clauses q j → j < suc i → Spot clauses q h → h < j → h ≤ link' j
      gaps-more q j h t l u b = ⊎_elim equal (λ e. omega (arith, link-same j e, chains.gaps q j h t e u b)) (at_most j l)
        where
          equal : j ≡ i → h ≤ link' j
          equal e =
              let r = same_place clauses p q i j s t (sym e) in
              omega (arith, ap link' e ∙ link-new ∙ ap first r, chains.last q h u (omega (arith, e, b)))

      pub chained_more : Chained clauses first' link' owner' (suc i)
      chained_more = record {
        owner_is = owner-more;
        last = last_more;
        first_spot = first_more;
        link_spot = link-more;
        linked = linked-more;
        gaps = gaps-more;
      }
