-- What the code of a look finds in an index.
use mathlib.Core.Path.{◌≡◌, sym, ◌∙◌, subst}
use mathlib.Core.List.{List, [], ◌∷◌}
use Prim.Native.Nat.{ℕ, ◌<◌, ◌≤◌}
use native.Mathlib.Omega.{arith}
use lib.IntN.{ℤ}
use lib.ListN.{length, get_or}
use Rattle.search_scan.specs.Seen.{conflicting, neither, seen}
use Rattle.search_index.specs.Index.{limit, clause_at, IsHead, head_at, count_at, status_of, told, falses_at, Stands, Tallied}
use Rattle.search_index.specs.Index.{Stopped, Same, Indexed}
use Rattle.search_index.proofs.Statuses.{shows-false, shows-unit, shows-neither}
use Rattle.search_index.proofs.Weighing.{stands-tells}
use Rattle.search_index.proofs.Words.{clauses-few, head-high}

module _ (clauses : List (List ℤ)) (values chains weights : List ℕ) (index : Indexed clauses values chains weights) where
  tells : (c : ℕ) → c < length clauses → told (get_or weights c 0) ≡ status_of values (clause_at clauses c)
  tells c l =
      stands-tells values (clause_at clauses c) (get_or weights c 0) (omega (arith, head-high clauses c l, index.chains_are.short))
      (index.right c l)

  pub few : length clauses ≤ limit
  few = omega (arith, clauses-few clauses, index.chains_are.short)

  pub looks-false : 0 < falses_at weights → conflicting ≡ seen values clauses
  looks-false = shows-false clauses values weights tells index.tallied

  -- the number of clauses, as the code finds it, and where the walk over the blocks stopped
  module _ (m : ℕ) (e : m ≡ count_at chains) where
    size : m ≡ length clauses
    size = e ∙ index.chains_are.size

    pub size_low : m ≤ limit
    size_low = omega (arith, size, few)

    pub tallied : Tallied weights m
    tallied = subst (Tallied weights) (sym size) index.tallied

    module _ (r : ℕ) (stopped : Stopped weights 0 m r) (none : falses_at weights ≤ 0) where
      stop : Stopped weights 0 (length clauses) r
      stop = subst (λ n. Stopped weights 0 n r) size stopped

      pub looks-neither : m ≤ r → neither ≡ seen values clauses
      looks-neither h = shows-neither clauses values weights tells index.tallied r stop none (omega (arith, size, h))

      module _ (h : r < m) where
        pub unit-low : r < limit
        unit-low = omega (arith, h, size_low)

        inside : r < length clauses
        inside = omega (arith, size, h)

        pub unit-head : (at : ℕ) → at ≡ head_at chains r → IsHead clauses at
        unit-head at z = record { c = r; within = inside; at = z ∙ index.chains_are.heads r inside }

        pub looks-unit : (at : ℕ) (z : at ≡ head_at chains r) → seen values (clause_at clauses (unit-head at z).c ∷ []) ≡ seen values clauses
        unfolding unit-head
        looks-unit at z = shows-unit clauses values weights tells index.tallied r stop none inside

    -- the index where only what tells where unit clauses are was changed
    pub lowered : (weights' : List ℕ) → Same weights weights' → Tallied weights' m → Indexed clauses values chains weights'
    lowered weights' s t = record {
      chains_are = index.chains_are;
      few = index.few;
      right = λ c l. subst (Stands values (clause_at clauses c)) (sym (s.weights_are c (omega (arith, l, few)))) (index.right c l);
      tallied = subst (Tallied weights') size t;
    }
