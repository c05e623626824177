-- Where the rules end with "found", the settled values satisfy every clause.
use mathlib.Core.Path.{◌≡◌, refl, ◌∙◌, ap}
use mathlib.Core.Bool.{true, false, ◌&&◌, ◌||◌}
use mathlib.Core.List.{List, [], ◌∷◌, map}
use Prim.Native.Nat.{ℕ, zero, suc, pred, ◌<◌, ◌≤◌}
use native.Mathlib.Omega.{arith}
use native.Mathlib.Numerals.{sub-one}
use lib.Dec.{leb}
use lib.IntN.{ℤ, pos, negsuc}
use lib.ListN.{length, get_or, set, replicate, length-map, get_or-map}
use borrow.Author.Tests.{leb-true, le-leb, eq-eqb}
use Rattle.prelude.specs.Tests.{all, any}
use Rattle.clause_list.specs.ClauseList.{is_true, Satisfying}
use Rattle.search_rules.specs.Held.{InRange}
use Rattle.search_rules.specs.Inner.{AllIn}
use Rattle.search_rules.specs.Rules.{Truth, falsified, satisfied, unassigned, truth_of, negated, literal, is_falsified, conflict, Entry}
use Rattle.search_rules.specs.Rules.{propagated, decided, State, byte_of, place_of, word_of, values_of, Next, end_found}
use Rattle.search_rules.specs.Rules.{next}
use Rattle.search_rules.specs.Rules.{settle}
use Rattle.prelude.proofs.Laws.{and_left, and_right, or_right}
use Rattle.search_rules.proofs.Booleans.{or-false}
use Rattle.search_rules.proofs.Ranges.{Ranged}
use Rattle.search_rules.proofs.StepView.{Full, Step, ends-none, ends_found, backtracks, propagates, decides, view}
use Rattle.search_rules.proofs.Invariant.{length-values, literal-open}

-- every value is 0, 1, 2 or 3
unfoldable Bytes : List ℕ → Type 0
Bytes [] = Unit {0}
Bytes (b ∷ values) = (b ≤ 3) × Bytes values

bytes-set : (values : List ℕ) (i b : ℕ) → b ≤ 3 → Bytes values → Bytes (set values i b)
unfolding Bytes
bytes-set [] i b h k = tt
bytes-set (x ∷ values) zero b h k = (h, k.1)
bytes-set (x ∷ values) (suc i) b h k = (k.0, bytes-set values i b h k.1)

bytes-fill : (v : ℕ) → Bytes (replicate v 2)
unfolding Bytes
bytes-fill zero = tt
bytes-fill (suc v) = (omega arith, bytes-fill v)

byte_small : (e : Entry) → byte_of e ≤ 3
unfolding byte_of
byte_small (propagated (pos n)) = omega arith
byte_small (propagated (negsuc n)) = omega arith
byte_small (decided i) = omega arith

bytes : (v : ℕ) (state : State) → Bytes (values_of v state)
unfolding values_of
bytes v [] = bytes-fill v
bytes v (e ∷ state) = bytes-set (values_of v state) (place_of (word_of e)) (byte_of e) (byte_small e) (bytes v state)

settled : (b : ℕ) → b ≤ 3 → (b ≡ 2 → ⊥) → settle b ≤ 1
settled zero h n = omega arith
settled (suc zero) h n = omega arith
settled (suc (suc zero)) h n = absurd (n refl)
settled (suc (suc (suc zero))) h n = omega arith
settled (suc (suc (suc (suc b)))) h n = absurd (omega arith)

bits : (values : List ℕ) → Bytes values → Full values → all (λ b. leb b 1) (map settle values) ≡ true
unfolding Bytes all
bits [] h f = refl
bits (b ∷ values) h f =
    rw (le-leb (settle b) 1 (settled b h.0 (f 0 (omega arith)))) (bits values h.1 (λ i l e. f (suc i) (omega arith) e))

-- bits are settled
pub settled-bits : (a : List ℕ) → all (λ b. leb b 1) a ≡ true → map settle a ≡ a
unfolding all
settled-bits [] h = refl
settled-bits (zero ∷ a) h = ap (λ l. 0 ∷ l) (settled-bits a (and_right (leb 0 1) _ h))
settled-bits (suc zero ∷ a) h = ap (λ l. 1 ∷ l) (settled-bits a (and_right (leb 1 1) _ h))
settled-bits (suc (suc b) ∷ a) h = absurd (omega (arith, leb-true (suc (suc b)) 1 (and_left _ _ h)))

small_at : (values : List ℕ) (i : ℕ) → Bytes values → get_or values i 2 ≤ 3
unfolding Bytes
small_at [] i h = omega arith
small_at (b ∷ values) zero h = h.0
small_at (b ∷ values) (suc i) h = small_at values i h.1

-- the byte of each variable
pub byte_at : (v : ℕ) (state : State) (i : ℕ) → get_or (values_of v state) i 2 ≤ 3
byte_at v state i = small_at (values_of v state) i (bytes v state)

pub settle-true : (b : ℕ) → truth_of b ≡ satisfied → settle b ≡ 1
unfolding truth_of
settle-true zero e = cc
settle-true (suc zero) e = refl
settle-true (suc (suc zero)) e = cc
settle-true (suc (suc (suc b))) e = cc

pub settle-false : (b : ℕ) → b ≤ 3 → negated (truth_of b) ≡ satisfied → settle b ≡ 0
unfolding truth_of negated
settle-false zero h e = refl
settle-false (suc zero) h e = cc
settle-false (suc (suc zero)) h e = cc
settle-false (suc (suc (suc zero))) h e = refl
settle-false (suc (suc (suc (suc b)))) h e = absurd (omega arith)

pub place-below : (v : ℕ) (l : ℤ) → InRange v l → place_of l < v
unfolding place_of
place-below v (pos n) h = omega (arith, sub-one n)
place-below v (negsuc n) h = h.1

module _ (v : ℕ) (values : List ℕ) (size : length values ≡ v) (small : Bytes values) (full : Full values) where
  is_true_lem : (l : ℤ) → literal values l ≡ satisfied → is_true (map settle values) l ≡ true
  unfolding literal
  is_true_lem (pos n) e = eq-eqb _ 1 (get_or-map settle values (pred n) 2 ∙ settle-true (get_or values (pred n) 2) e)
  is_true_lem (negsuc n) e = eq-eqb _ 0 (get_or-map settle values n 2 ∙ settle-false (get_or values n 2) (small_at values n small) e)

  clause-step : (l : ℤ) (clause : List ℤ) → InRange v l → (t : Truth) → literal values l ≡ t
      → is_falsified t && all (λ l. is_falsified (literal values l)) clause ≡ false
      → (all (λ l. is_falsified (literal values l)) clause ≡ false → any (is_true (map settle values)) clause ≡ true)
      → is_true (map settle values) l || any (is_true (map settle values)) clause ≡ true
  unfolding is_falsified
  clause-step l clause r falsified d e p = or_right (is_true (map settle values) l) _ (p e)
  clause-step l clause r satisfied d e p = rw (is_true_lem l d) refl
  clause-step l clause r unassigned d e p = absurd (full (place_of l) (rw size (place-below v l r)) (literal-open values l d))

  clause-holds : (clause : List ℤ) → AllIn v clause → all (λ l. is_falsified (literal values l)) clause ≡ false
      → any (is_true (map settle values)) clause ≡ true
  unfolding all any AllIn
  clause-holds [] h e = cc
  clause-holds (l ∷ clause) h e = clause-step l clause h.0 (literal values l) refl e (clause-holds clause h.1)

  clauses-hold : (clauses : List (List ℤ)) → Ranged v clauses → conflict values clauses ≡ false
      → all (any (is_true (map settle values))) clauses ≡ true
  unfolding all Ranged conflict any
  clauses-hold [] h e = refl
  clauses-hold (clause ∷ clauses) h e =
      let b = or-false _ _ e in
      rw (clause-holds clause h.0 b.0) (clauses-hold clauses h.1 (unfold conflict in b.1))

module _ (clauses : List (List ℤ)) (v : ℕ) where
  -- the rules end so where no clause is false and all variables are set
  abbrev Ended : State → Type 0
  Ended state = (conflict (values_of v state) clauses ≡ false) × Full (values_of v state)

  found-step : (state : State) (x : Next) → Step clauses v state x → x ≡ end_found → Ended state
  found-step state x (ends-none d c t) e = absurd (let z : ◌≡◌ {A = ℕ} 0 1 = cc in omega arith)
  found-step state x (ends_found d c u f) e = (c, f)
  found-step state x (backtracks d c t) e = absurd (let z : ◌≡◌ {A = ℕ} 0 1 = cc in omega arith)
  found-step state x (propagates d c u) e = absurd (let z : ◌≡◌ {A = ℕ} 0 1 = cc in omega arith)
  found-step state x (decides d c u l) e = absurd (let z : ◌≡◌ {A = ℕ} 0 1 = cc in omega arith)

  pub found-ended : (state : State) → next clauses v state ≡ end_found → Ended state
  found-ended state e = found-step state (next clauses v state) (view clauses v state) e

  pub found-satisfying : Ranged v clauses → (state : State) → next clauses v state ≡ end_found
      → Satisfying v clauses (map settle (values_of v state))
  found-satisfying ranged state e =
      let p = found-ended state e in
      record {
        size = length-map (values_of v state) settle ∙ length-values v state;
        bits = bits (values_of v state) (bytes v state) p.1;
        holds = clauses-hold v (values_of v state) (length-values v state) (bytes v state) p.1 clauses ranged p.0;
      }
