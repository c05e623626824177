-- The loop of `weigh`: what it has weighed, and the rest of the clause, make up the clause.
use mathlib.Core.Path.{◌≡◌, refl, sym, ◌∙◌, ap}
use mathlib.Core.List.{List}
use Prim.Native.Nat.{ℕ, suc, ◌+◌, ◌-◌, ◌<◌, ◌≤◌}
use native.Mathlib.Omega.{arith}
use lib.IntN.{ℤ, pos, nat_abs}
use lib.ListN.{length, get_or, drop, drop_of_length-le}
use lib.Seq.{drop-cons}
use Rattle.literal.specs.Words.{count_of, last_variable}
use Rattle.clause_list.specs.ClauseList.{clauses_of, words_of}
use Rattle.search_rules.specs.Held.{InRange}
use Rattle.search_rules.specs.Inner.{Fine}
use Rattle.search_rules.specs.Rules.{literal, place_of}
use Rattle.search_rules.proofs.Found.{place-below}
use Rattle.search_rules.proofs.Ranges.{ranged}
use Rattle.search_scan.proofs.Words.{place-of}
use Rattle.search_index.specs.Index.{limit, clause_at, head_of, IsHead, literal_weight, byte_says, weight_of}
use Rattle.search_index.proofs.Words.{words_are, literal-at, clause-ranged, literal-ranged}
use Rattle.search_index.proofs.Parts.{high}
use Rattle.search_index.proofs.Weighing.{literal-byte, weight-high, weight-some}

-- a word that is known to be a count
pub is-count : (z : ℤ) (n : ℕ) → z ≡ pos n → z ≡ pos (count_of z)
is-count z n e = rw e refl

weight-from : (values : List ℕ) (clause : List ℤ) (k : ℕ) → k < length clause
    → weight_of values (drop k clause) ≡ literal_weight (literal values (get_or clause k (pos 0))) + weight_of values (drop (suc k) clause)
unfolding weight_of
weight-from values clause k l = rw (drop-cons clause k (pos 0) l) refl

weight-none : (values : List ℕ) (clause : List ℤ) (k : ℕ) → length clause ≤ k → weight_of values (drop k clause) ≡ 1
unfolding weight_of
weight-none values clause k l = rw (drop_of_length-le clause {i = k} l) refl

-- at word i of the clause at a head w is weighed, and one more than the rest weighs
pub record Weighed (values : List ℕ) (clause : List ℤ) (head end w i : ℕ) : Type 0 where
  pub ends : end ≡ suc (head + length clause)
  pub from : suc head ≤ i
  pub upto : i ≤ end
  pub so_far : w + weight_of values (drop (i - suc head) clause) ≡ suc (weight_of values clause)

module _ (values : List ℕ) (list : List ℤ) (fine : Fine (length values) list) (head : ℕ) (h : IsHead (clauses_of list) head) where
  abbrev clause : List ℤ
  clause = clause_at (clauses_of list) h.c

  pub weigh-start : (n : ℕ) → n ≡ length clause → Weighed values clause head (head + 1 + n) 1 (head + 1)
  weigh-start n e =
      let z : (head + 1) - suc head ≡ 0 = omega arith in
      record { ends = omega (arith, e); from = omega arith; upto = omega arith; so_far = rw z (omega arith) }

  pub weigh-end : (end w i : ℕ) → Weighed values clause head end w i → end ≤ i → w ≡ weight_of values clause
  weigh-end end w i g l =
      omega (arith, g.so_far, weight-none values clause (i - suc head) (omega (arith, g.ends, l)))

  -- the word of a literal
  module _ (end w i : ℕ) (g : Weighed values clause head end w i) (l : i < end) where
    inside : i - suc head < length clause
    inside = omega (arith, g.ends, g.from, l)

    pub word_at : get_or list i (pos 0) ≡ get_or clause (i - suc head) (pos 0)
    word_at =
        let e : i ≡ suc (head_of (clauses_of list) h.c + (i - suc head)) = omega (arith, h.at, g.from) in
        ap (λ (ws : List ℤ). get_or ws i (pos 0)) (words_are (length values) list fine)
        ∙ ap (λ (j : ℕ). get_or (words_of (clauses_of list)) j (pos 0)) e ∙ literal-at (clauses_of list) h.c (i - suc head) h.within inside

    pub word-within : i < length list
    word-within = omega (arith, l, g.ends, high (length values) list fine head h)

    word-ranged : InRange (length values) (get_or list i (pos 0))
    word-ranged = rw word_at (literal-ranged (length values) clause (i - suc head)
        (clause-ranged (length values) (clauses_of list) h.c (ranged (length values) list fine) h.within) inside)

    -- z is the literal as the machine has it, p its place
    module _ (z : ℤ) (e : z ≡ get_or list i (pos 0)) where
      pub asks-place : length values ≤ last_variable → (1 ≤ nat_abs z) × (nat_abs z ≤ last_variable)
      asks-place b = rw e (word-ranged.0, (let u = word-ranged.1 in omega (arith, u, b)))

      pub asks-weight : 1 ≤ nat_abs z
      asks-weight = rw e word-ranged.0

      module _ (p : ℕ) (q : p ≡ nat_abs z - 1) where
        place_is : place_of (get_or list i (pos 0)) ≡ p
        place_is = sym (q ∙ place-of z ∙ ap place_of e)

        pub place-within : p < length values
        place-within = rw (← place_is) (place-below (length values) (get_or list i (pos 0)) word-ranged)

        module _ (x : ℕ) (x-is : x ≡ literal_weight (byte_says (get_or values p 0) z)) where
          literal-weighs : x ≡ literal_weight (literal values (get_or clause (i - suc head) (pos 0)))
          literal-weighs = x-is ∙ ap (λ (y : ℤ). literal_weight (byte_says (get_or values p 0) y)) e
              ∙ sym (ap literal_weight (literal-byte values p (get_or list i (pos 0)) place-within place_is))
              ∙ ap (λ (y : ℤ). literal_weight (literal values y)) word_at

          step : (w + x) + weight_of values (drop (suc (i - suc head)) clause) ≡ suc (weight_of values clause)
          step = omega (arith, literal-weighs, weight-from values clause (i - suc head) inside, g.so_far)

          pub weight-fits : length list ≤ limit → w + x < 65536
          weight-fits b =
              omega (
                arith,
                step,
                weight-some values (drop (suc (i - suc head)) clause),
                weight-high values clause,
                high (length values) list fine head h,
                b,
              )

          pub weigh-next : Weighed values clause head end (w + x) (i + 1)
          weigh-next =
              let n : (i + 1) - suc head ≡ suc (i - suc head) = omega (arith, g.from) in
              record { ends = g.ends; from = omega (arith, g.from); upto = omega (arith, l); so_far = rw n step }
