-- The index built clause by clause.
use mathlib.Core.Path.{◌≡◌, sym, ◌∙◌, ap}
use mathlib.Core.Logic.{⊎_elim}
use mathlib.Core.List.{List}
use Prim.Native.Nat.{ℕ, suc, ◌+◌, ◌<◌, ◌≤◌}
use native.Mathlib.Omega.{arith}
use native.Mathlib.Nat.{eq-or-lt_of_le}
use lib.IntN.{ℤ}
use lib.ListN.{length, get_or, set}
use lib.Seq.{get_or-set_same, get_or-set_other}
use Rattle.clause_list.specs.ClauseList.{words_of}
use Rattle.search_index.specs.Index.{limit, clause_at, head_of, Spot, Linked, Stands, Tallied, Put, Watched, watched}
use Rattle.search_index.specs.Index.{head_at}
use Rattle.search_index.proofs.Words.{head-zero, head-high, head-all, clauses-few}
use Rattle.search_index.proofs.Chaining.{chained-none}
use Rattle.search_index.proofs.Entering.{linked-set}
use Rattle.search_index.proofs.Tallies.{tally-none, tally-more}

-- the first c clauses are entered and weighed
pub record Built (clauses : List (List ℤ)) (values chains weights : List ℕ) (c at : ℕ) : Type 0 where
  pub linked : Linked clauses chains at
  pub place : at ≡ head_of clauses c
  pub upto : c ≤ length clauses
  pub heads : (d : ℕ) → d < c → head_at chains d ≡ head_of clauses d
  pub right : (d : ℕ) → d < c → Stands values (clause_at clauses d) (get_or weights d 0)
  pub tallied : Tallied weights c
  pub clean : (d : ℕ) → c ≤ d → d < limit → get_or weights d 0 ≡ 0

module _ (clauses : List (List ℤ)) (values : List ℕ) where
  pub built-first : (chains weights : List ℕ) → length chains ≡ 65537 → ((k : ℕ) → get_or chains k 0 ≡ 0)
      → length weights ≡ 17410 → ((k : ℕ) → get_or weights k 0 ≡ 0) → Built clauses values chains weights 0 0
  built-first chains weights long blank room none = record {
    linked = record { long = long; chained = chained-none clauses _ _ _ blank };
    place = sym (head-zero clauses);
    upto = omega arith;
    heads = λ d l. absurd (omega arith);
    right = λ d l. absurd (omega arith);
    tallied = tally-none weights room none;
    clean = λ d l b. none d;
  }

  module _ (low : (q j : ℕ) → Spot clauses q j → q < limit) (short : length (words_of clauses) ≤ limit)
      (chains weights : List ℕ) (c at : ℕ) (h : Built clauses values chains weights c at) where
    -- a clause is left
    pub built-more : at < length (words_of clauses) → c < length clauses
    built-more b =
        ⊎_elim (λ e. absurd (omega (arith, b, h.place ∙ ap (head_of clauses) e, head-all clauses))) (λ l. l) (eq-or-lt_of_le h.upto)

    module _ (more : c < length clauses) (few : c < limit) (chains₁ : List ℕ) (noted : chains₁ ≡ set chains (49152 + c) at) where
      -- its head is noted
      pub noted-linked : Linked clauses chains₁ at
      noted-linked =
          let b : at ≤ limit = omega (arith, h.place, head-high clauses c more, short) in
          rw noted (linked-set clauses low chains at b h.linked (49152 + c) at (omega arith))

      noted-heads : (d : ℕ) → d < c + 1 → head_at chains₁ d ≡ head_of clauses d
      noted-heads d b = rw noted (⊎_elim here before (eq-or-lt_of_le (omega (arith, b))))
        where
          here : d ≡ c → head_at (set chains (49152 + c) at) d ≡ head_of clauses d
          here e = rw e (get_or-set_same chains (49152 + c) at 0 (omega (arith, few, h.linked.long)) ∙ h.place)

          before : d < c → head_at (set chains (49152 + c) at) d ≡ head_of clauses d
          before l = get_or-set_other chains (49152 + c) (49152 + d) at 0 (λ e. absurd (omega (arith, l, e))) ∙ h.heads d l

      -- it is entered and weighed
      pub built-next : (chains₂ : List ℕ) → Linked clauses chains₂ (head_of clauses (suc c)) → ((k : ℕ) → head_at chains₂ k ≡ head_at chains₁ k)
          → (w : ℕ) → Stands values (clause_at clauses c) w → (weights' : List ℕ) → Put weights c w weights'
          → (at' : ℕ) → at' ≡ head_of clauses (suc c) → Built clauses values chains₂ weights' (c + 1) at'
      built-next chains₂ linked heads w stands weights' put at' e = record {
        linked = rw e linked;
        place = e ∙ ap (head_of clauses) (sym next);
        upto = omega (arith, more);
        heads = λ d b. heads d ∙ noted-heads d b;
        right = λ d b. ⊎_elim (now d) (before d) (eq-or-lt_of_le (omega (arith, b)));
        tallied = rw next (tally-more weights weights' c w h.tallied few (h.clean c (omega arith) few) put);
        clean = λ d b l. put.others d l (λ z. absurd (omega (arith, z, b))) ∙ h.clean d (omega (arith, b)) l;
      }
        where
          next : c + 1 ≡ suc c
          next = omega arith

          now : (d : ℕ) → d ≡ c → Stands values (clause_at clauses d) (get_or weights' d 0)
          now d z = rw (z, put.here) stands

          before : (d : ℕ) → d < c → Stands values (clause_at clauses d) (get_or weights' d 0)
          before d l = rw (put.others d (omega (arith, l, few)) (λ z. absurd (omega (arith, z, l)))) (h.right d l)

    pub built-end : length (words_of clauses) ≤ at → length values ≤ limit → (chains' : List ℕ) → chains' ≡ set chains 65536 c
        → Watched clauses values chains' weights
    built-end b few chains' e = rw e (watched (record {
      chains_are = record {
        short = short;
        linked = rw (← bound) (linked-set clauses low chains at (omega (arith, bound, short)) h.linked 65536 c (omega arith));
        size = get_or-set_same chains 65536 c 0 (omega (arith, h.linked.long)) ∙ whole;
        heads = λ d l. get_or-set_other chains 65536 (49152 + d) c 0 (λ z. absurd (omega (arith, z, l, few_clauses)))
            ∙ h.heads d (omega (arith, whole, l));
      };
      few = few;
      right = λ d l. h.right d (omega (arith, whole, l));
      tallied = rw (← whole) h.tallied;
    }))
      where
        whole : c ≡ length clauses
        whole = ⊎_elim (λ z. z) (λ l. absurd (omega (arith, b, h.place, head-high clauses c l))) (eq-or-lt_of_le h.upto)

        bound : at ≡ length (words_of clauses)
        bound = h.place ∙ ap (head_of clauses) whole ∙ head-all clauses

        few_clauses : length clauses ≤ limit
        few_clauses = omega (arith, clauses-few clauses, short)
