-- The search for the first unit clause, block by block.
use mathlib.Core.Path.{◌≡◌, refl, sym, ◌∙◌, ap}
use mathlib.Core.Logic.{◌⊎◌, inl, inr, ⊎_elim}
use mathlib.Core.List.{List}
use Prim.Native.Nat.{ℕ, min, ◌+◌, ◌*◌, ◌/◌, ◌<◌, ◌≤◌}
use native.Mathlib.Omega.{arith}
use lib.ListN.{length, get_or, set, length-set}
use lib.Seq.{get_or-set_same, get_or-set_other}
use Rattle.search_index.specs.Index.{limit, told, flag_at, falses_at, low_at, Up, Tallied, Stopped, Same}
use Rattle.search_index.proofs.Spots.{same_or_not, below_or}
use Rattle.search_index.proofs.Tallies.{falses-same}

-- up to block b, where clause `at` is the first, there is no unit clause
pub record Searched (weights₀ : List ℕ) (m : ℕ) (weights : List ℕ) (b at : ℕ) : Type 0 where
  pub first : at ≡ 16 * b
  pub same : Same weights₀ weights
  pub tallied : Tallied weights m
  pub passed : (c : ℕ) → c < at → c < m → told (get_or weights c 0) ≡ 2 → ⊥

pub search-start : (weights : List ℕ) (m b at : ℕ) → Tallied weights m → b ≡ low_at weights → at ≡ 16 * b → Searched weights m weights b at
search-start weights m b at t e f = record {
  first = f;
  same = record { long = refl; weights_are = λ c l. refl; falses_are = refl };
  tallied = t;
  passed = λ c l k o. absurd (omega (arith, l, f, e, (t.flagged c k o).1));
}

module _ (weights₀ : List ℕ) (m : ℕ) (weights : List ℕ) (b at : ℕ) (few : m ≤ limit) (s : Searched weights₀ m weights b at) where
  told-then : (c : ℕ) → c < m → told (get_or weights₀ c 0) ≡ 2 → told (get_or weights c 0) ≡ 2
  told-then c l e = ap told (s.same.weights_are c (omega (arith, l, few))) ∙ e

  pub search-end : m ≤ at → Stopped weights₀ 0 m m × (Same weights₀ weights × Tallied weights m)
  search-end l = (
    record {
      passed = λ c _ k e. s.passed c (omega (arith, k, l)) k (told-then c k e);
      found = λ k. absurd (omega (arith, k));
      upto = omega arith;
    },
    (s.same, s.tallied),
  )

  module _ (inside : at < m) where
    pub long-enough : 16384 + b < length weights
    long-enough = omega (arith, s.tallied.long, s.first, inside, few)

    -- the flag is down
    pub search-down : (flag_at weights b ≡ 1 → ⊥) → Searched weights₀ m weights (b + 1) (at + 16)
    search-down n = record {
      first = omega (arith, s.first);
      same = s.same;
      tallied = s.tallied;
      passed = λ c l k e. ⊎_elim (λ u. s.passed c u k e)
          (λ u. let d : c / 16 ≡ b = omega (arith, u, l, s.first) in
          n (sym (ap (flag_at weights) d) ∙ (s.tallied.flagged c k e).0)) (below_or c at);
    }

    -- the flag is up: the clauses of the block are looked at
    module _ (end r : ℕ) (less : end ≤ at + 16) (most : end ≤ m) (is : (end ≡ at + 16) ⊎ (end ≡ m)) (stop : Stopped weights at end r) where
      pub search-found : r < end → Stopped weights₀ 0 m r × (Same weights₀ weights × Tallied weights m)
      search-found l = (
        record {
          passed = λ c _ k e. let t = told-then c (omega (arith, k, l, most)) e in
              ⊎_elim (λ u. s.passed c u (omega (arith, u, inside)) t) (λ u. stop.passed c u k t) (below_or c at);
          found = λ k. sym (ap told (s.same.weights_are r (omega (arith, k, few)))) ∙ stop.found l;
          upto = omega (arith, l, most);
        },
        (s.same, s.tallied),
      )

      -- there is none, and the flag is lowered
      abbrev lowered : List ℕ
      lowered = set weights (16384 + b) 0

      low-at : (c : ℕ) → c < limit → get_or lowered c 0 ≡ get_or weights c 0
      low-at c l = get_or-set_other weights (16384 + b) c 0 0 (λ q. absurd (omega (arith, q, l)))

      low-falses : falses_at lowered ≡ falses_at weights
      low-falses = get_or-set_other weights (16384 + b) 17408 0 0 (λ q. absurd (omega (arith, q, s.first, inside, few)))

      none_here : end ≤ r → (c : ℕ) → at ≤ c → c < at + 16 → c < m → told (get_or weights c 0) ≡ 2 → ⊥
      none_here l c a k n e = stop.passed c a (⊎_elim (λ q. omega (arith, q, k, l)) (λ q. omega (arith, q, n, l)) is) e

      low-low : low_at lowered ≡ low_at weights
      low-low = get_or-set_other weights (16384 + b) 17409 0 0 (λ q. absurd (omega (arith, q, s.first, inside, few)))

      none-flagged : end ≤ r → (c : ℕ) → c < m → told (get_or lowered c 0) ≡ 2 → Up lowered (c / 16)
      none-flagged l c k e =
          let t = sym (ap told (low-at c (omega (arith, k, few)))) ∙ e in
          ⊎_elim (λ d. absurd (none_here l c (omega (arith, d, s.first)) (omega (arith, d, s.first)) k t))
          (λ d. let u = s.tallied.flagged c k t in
          (get_or-set_other weights (16384 + b) (16384 + c / 16) 0 0 (λ q. d (omega (arith, q))) ∙ u.0, omega (arith, low-low, u.1)))
          (same_or_not (c / 16) b)

      pub search-lowered : (weights' : List ℕ) → weights' ≡ lowered → end ≤ r → Searched weights₀ m weights' (b + 1) (at + 16)
      search-lowered weights' q l = rw q (record {
        first = omega (arith, s.first);
        same = record {
          long = length-set weights (16384 + b) 0 ∙ s.same.long;
          weights_are = λ c k. low-at c k ∙ s.same.weights_are c k;
          falses_are = low-falses ∙ s.same.falses_are;
        };
        tallied = record {
          long = length-set weights (16384 + b) 0 ∙ s.tallied.long;
          flagged = none-flagged l;
          counted = low-falses ∙ s.tallied.counted
              ∙ sym (falses-same m (λ c. get_or weights c 0) (λ c. get_or lowered c 0) (λ c k. low-at c (omega (arith, k, few))));
        };
        passed = λ c k n e. let t = sym (ap told (low-at c (omega (arith, n, few)))) ∙ e in
            ⊎_elim (λ u. s.passed c u n t) (λ u. none_here l c u k n t) (below_or c at);
      })

-- the lesser of two numbers
pub least-of : (a b r : ℕ) → r ≡ min a b → (r ≤ a) × (r ≤ b) × ((r ≡ a) ⊎ (r ≡ b))
least-of a b r e =
    (omega arith, omega arith, ⊎_elim (λ h. inl (omega (arith, h))) (λ h. inr (omega (arith, h))) (below_or a b))

-- the next search begins at a block that is not behind the clause where this one stopped
pub begins-there : (weights₀ weights : List ℕ) (m r b : ℕ) → m ≤ limit → Stopped weights₀ 0 m r → 16 * b ≤ r
    → Same weights₀ weights
    → Tallied weights m → Same weights₀ (set weights 17409 b) × Tallied (set weights 17409 b) m
begins-there weights₀ weights m r b few stop before same tallied = (
  record {
    long = length-set weights 17409 b ∙ same.long;
    weights_are = λ c l. other c (λ q. absurd (omega (arith, q, l))) ∙ same.weights_are c l;
    falses_are = other 17408 (λ q. absurd (omega (arith, q))) ∙ same.falses_are;
  },
  record {
    long = length-set weights 17409 b ∙ tallied.long;
    flagged = λ c k e.
        let t = sym (ap told (at c k)) ∙ e in
        (other (16384 + c / 16) (λ q. absurd (omega (arith, q, k, few))) ∙ (tallied.flagged c k t).0, low c k t);
    counted = other 17408 (λ q. absurd (omega (arith, q))) ∙ tallied.counted ∙ sym (falses-same m (λ c. get_or weights c 0) _ (λ c k. at c k));
  },
)
  where
    other : (i : ℕ) → (i ≡ 17409 → ⊥) → get_or (set weights 17409 b) i 0 ≡ get_or weights i 0
    other i n = get_or-set_other weights 17409 i b 0 n

    at : (c : ℕ) → c < m → get_or (set weights 17409 b) c 0 ≡ get_or weights c 0
    at c k = other c (λ q. absurd (omega (arith, q, k, few)))

    -- a unit clause is not before the one where it stopped
    low : (c : ℕ) → c < m → told (get_or weights c 0) ≡ 2 → low_at (set weights 17409 b) ≤ c / 16
    low c k t =
        let is = get_or-set_same weights 17409 b 0 (omega (arith, tallied.long)) in
        ⊎_elim (λ u. absurd (stop.passed c (omega arith) u (sym (ap told (same.weights_are c (omega (arith, k, few)))) ∙ t)))
        (λ u. omega (arith, is, u, before))
        (below_or c r)
