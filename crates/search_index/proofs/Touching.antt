-- A chain walked to its end puts every clause that names the variable right.
use mathlib.Core.Path.{◌≡◌, refl, sym, ◌∙◌, ap, subst}
use mathlib.Core.Logic.{◌⊎◌, inl, inr, ⊎_elim}
use mathlib.Core.List.{List}
use Prim.Native.Nat.{ℕ, suc, ◌+◌, ◌<◌, ◌≤◌}
use native.Mathlib.Omega.{arith}
use native.Mathlib.Nat.{eq-or-lt_of_le}
use lib.IntN.{ℤ, pos}
use lib.ListN.{length, get_or, set}
use Rattle.clause_list.specs.ClauseList.{words_of}
use Rattle.search_rules.specs.Rules.{place_of}
use Rattle.search_index.specs.Index.{limit, clause_at, head_of, Spot, first_at, link_at, owner_at, Chained, Chains, Apart}
use Rattle.search_index.specs.Index.{mixed, Stands, weighed, looked, Stood, was-weighed, was-looked, one, falses_at, Tallied, Put}
use Rattle.search_index.specs.Index.{Indexed}
use Rattle.search_index.specs.Index.{Gains, Watched, unwatched, watched, Due}
use Rattle.search_index.proofs.Spots.{same_or_not}
use Rattle.search_index.proofs.Words.{clauses-few, head-high}
use Rattle.search_index.proofs.Weighing.{Away, weight-away, status-away}
use Rattle.search_index.proofs.Tallies.{tally-put, put-asks}

-- every word of a literal is among the words
pub word_in : (clauses : List (List ℤ)) (p i : ℕ) → Spot clauses p i → i < length (words_of clauses)
word_in clauses p i s = omega (arith, s.word, s.inside, head-high clauses s.c s.within)

-- a clause with two words that name one variable
twice : (clauses : List (List ℤ)) (p i j : ℕ) (s : Spot clauses p i) (t : Spot clauses p j) → t.c ≡ s.c → j < i
    → Apart (clause_at clauses s.c) → ⊥
twice clauses p i j s t e l a =
    a t.k s.k before s.inside (ap (λ c. place_of (get_or (clause_at clauses c) t.k (pos 0))) (sym e) ∙ t.names ∙ sym s.names)
  where
    before : t.k < s.k
    before = omega (arith, s.word, t.word, ap (head_of clauses) e, l)

-- what stands for a clause stands for it still where a value changes that it does not name
stands-away : (values : List ℕ) (p b : ℕ) (clause : List ℤ) (w : ℕ) → Away p clause
    → Stands (set values p b) clause w → Stands values clause w
stands-away values p b clause w h (weighed a e) = weighed a (e ∙ weight-away values p b clause h)
stands-away values p b clause w h (looked e) = looked (e ∙ ap (λ s. mixed + s) (status-away values p b clause h))

stood : (values : List ℕ) (clause : List ℤ) (w : ℕ) → Stands values clause w → Stood values clause w
stood values clause w (weighed a e) = was-weighed a e
stood values clause w (looked e) = was-looked (omega (arith, e))

-- a clause that names a variable twice is looked at, whatever stood for it
stood-twice : (values values' : List ℕ) (clause : List ℤ) (w : ℕ) → (Apart clause → ⊥) → Stands values clause w → Stood values' clause w
stood-twice values values' clause w n (weighed a e) = absurd (n a)
stood-twice values values' clause w n (looked e) = was-looked (omega (arith, e))

-- the chain of place p is walked down to word i: the clauses that have no word at or below i that names the variable are right, the others
-- have what stood for them
pub record Walk (clauses : List (List ℤ)) (values : List ℕ) (p was : ℕ) (weights : List ℕ) (i : ℕ) : Type 0 where
  pub right : (c : ℕ) → c < length clauses → ((j : ℕ) (s : Spot clauses p j) → s.c ≡ c → j ≤ i → ⊥)
      → Stands values (clause_at clauses c) (get_or weights c 0)
  pub due : (j : ℕ) (s : Spot clauses p j) → j ≤ i → Stood (set values p was) (clause_at clauses s.c) (get_or weights s.c 0)
  pub spot : 1 ≤ i → Spot clauses p i
  pub tallied : Tallied weights (length clauses)

module _ (clauses : List (List ℤ)) (chains values : List ℕ) (p was : ℕ) (static : Chains clauses chains) where
  chained : Chained clauses (first_at chains) (link_at chains) (owner_at chains) (length (words_of clauses))
  chained = static.linked.chained

  few : length clauses ≤ limit
  few = omega (arith, clauses-few clauses, static.short)

  pub walk_first : (weights : List ℕ) → Indexed clauses (set values p was) chains weights → p < limit
      → Walk clauses values p was weights (first_at chains p)
  walk_first weights x l = record {
    right = λ c lc none. stands-away values p was (clause_at clauses c) (get_or weights c 0)
        (λ k lk e.
        let s : Spot clauses p (suc (head_of clauses c + k)) = record { c = c; k = k; within = lc; inside = lk; names = e; word = refl } in
        none _ s refl (chained.last p _ s (word_in clauses p _ s))) (x.right c lc);
    due = λ j s l. stood _ _ _ (x.right s.c s.within);
    spot = λ h. (chained.first_spot p l h).0;
    tallied = x.tallied;
  }

  module _ (i : ℕ) (weights : List ℕ) (walk : Walk clauses values p was weights i) (positive : 1 ≤ i) where
    pub here : Spot clauses p i
    here = walk.spot positive

    pub here-low : i < limit
    here-low = omega (arith, word_in clauses p i here, static.short)

    pub falls : link_at chains i < i
    falls = chained.linked p i here (word_in clauses p i here)

    owner_here : owner_at chains i ≡ here.c
    owner_here = chained.owner_is p i here (word_in clauses p i here)

    walk-next : (w : ℕ) (weights' : List ℕ) → Put weights here.c w weights' → Stands values (clause_at clauses here.c) w
        → Walk clauses values p was weights' (link_at chains i)
    walk-next w weights' put stands = record {
      right = λ c l none. ⊎_elim
          (λ e. subst (λ d. Stands values (clause_at clauses d) (get_or weights' d 0)) (sym e) (rw put.here stands))
          (λ n. subst (Stands values (clause_at clauses c)) (sym (put.others c (omega (arith, l, few)) n))
          (walk.right c l (λ j s e b. elsewhere c n none j s e (eq-or-lt_of_le b))))
          (same_or_not c here.c);
      due = λ j s b. ⊎_elim (λ e. twice-due j s b e) (λ n. subst (Stood (set values p was) (clause_at clauses s.c))
          (sym (put.others s.c (omega (arith, s.within, few)) n)) (walk.due j s (omega (arith, b, falls)))) (same_or_not s.c here.c);
      spot = λ h. chained.link_spot p i here (word_in clauses p i here) h;
      tallied = tally-put weights weights' (length clauses) here.c w walk.tallied here.within few put;
    }
      where
        -- a word of another clause that names the variable is behind the link
        elsewhere : (c : ℕ) → (c ≡ here.c → ⊥) → ((j : ℕ) (s : Spot clauses p j) → s.c ≡ c → j ≤ link_at chains i → ⊥)
            → (j : ℕ) (s : Spot clauses p j) → s.c ≡ c → (j ≡ i) ⊎ (j < i) → ⊥
        elsewhere c n none j s e (inl z) =
            n (sym e ∙ sym (chained.owner_is p j s (word_in clauses p j s)) ∙ ap (owner_at chains) z ∙ owner_here)
        elsewhere c n none j s e (inr z) = none j s e (chained.gaps p i j here (word_in clauses p i here) s z)

        twice-due : (j : ℕ) (s : Spot clauses p j) → j ≤ link_at chains i → s.c ≡ here.c
            → Stood (set values p was) (clause_at clauses s.c) (get_or weights' s.c 0)
        twice-due j s b e =
            subst (λ d. Stood (set values p was) (clause_at clauses d) (get_or weights' d 0)) (sym e)
            (rw put.here (stood-twice values (set values p was) _ w (twice clauses p i j here s e (omega (arith, b, falls))) stands))

    -- the clause of the word, as the code finds it
    module _ (o : ℕ) (e : o ≡ owner_at chains i) (gains : List ℕ) (changed : Gains was (get_or values p 0) gains) where
      owner_is : o ≡ here.c
      owner_is = e ∙ owner_here

      pub owner-low : o < limit
      owner-low = omega (arith, owner_is, here.within, few)

      pub due-here : Due clauses values gains i (get_or weights o 0)
      due-here = record {
        p = p;
        was = was;
        spot = here;
        stood = subst (λ c. Stood (set values p was) (clause_at clauses here.c) (get_or weights c 0)) (sym owner_is) (walk.due i here (omega arith));
        changed = changed;
      }

      pub asks-here : (one (get_or weights o 0) ≤ falses_at weights) × (falses_at weights ≤ limit)
      asks-here = put-asks weights (length clauses) o walk.tallied (omega (arith, owner_is, here.within)) few

      pub walk-on : (w : ℕ) (weights' : List ℕ) → Put weights o w weights'
          → ((d : Due clauses values gains i (get_or weights o 0)) → Stands values (clause_at clauses d.spot.c) w)
          → Walk clauses values p was weights' (link_at chains i)
      unfolding due-here
      walk-on w weights' put stands = walk-next w weights' (subst (λ c. Put weights c w weights') owner_is put) (stands due-here)

  pub walk_end : (weights : List ℕ) (i : ℕ) → Walk clauses values p was weights i → i ≤ 0 → length values ≤ limit
      → Indexed clauses values chains weights
  walk_end weights i walk h f = record {
    chains_are = static;
    few = f;
    right = λ c l. walk.right c l (λ j s e b. absurd (omega (arith, b, h, s.word)));
    tallied = walk.tallied;
  }

-- where there are weights there is an index
pub indexed : (clauses : List (List ℤ)) (values chains weights : List ℕ) → Watched clauses values chains weights → (length weights ≡ 0 → ⊥)
    → Indexed clauses values chains weights
indexed clauses values chains weights (unwatched e) n = absurd (n e)
indexed clauses values chains weights (watched x) n = x
