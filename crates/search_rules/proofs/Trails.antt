-- The trail of a state: its length, the words past it, and the room that an open variable leaves on it.
use mathlib.Core.Path.{◌≡◌, refl, ◌∙◌}
use mathlib.Core.Logic.{◌⊎◌, ⊎_elim}
use mathlib.Core.List.{List, [], ◌∷◌}
use Prim.Native.Nat.{ℕ, zero, suc, ◌+◌, ◌<◌, ◌≤◌}
use native.Mathlib.Omega.{arith}
use native.Mathlib.Nat.{eq-or-lt_of_le, le_of_suc-le-suc}
use lib.IntN.{pos, negsuc, nat_abs}
use lib.ListN.{length, get_or, set, replicate, length-set, length-replicate}
use lib.Seq.{get_or-set_same, get_or-set_other}
use Rattle.search_rules.specs.Held.{InRange, WasOpen}
use Rattle.search_rules.specs.Rules.{Entry, propagated, decided, State, word_of, byte_of, place_of, values_of, trail_of}
use Rattle.search_rules.proofs.Invariant.{length-values}
use Rattle.search_rules.proofs.StepView.{Full}
use Rattle.search_rules.proofs.Found.{place-below}

-- open variables, counted
one : ℕ → ℕ
one zero = 0
one (suc zero) = 0
one (suc (suc zero)) = 1
one (suc (suc (suc n))) = 0

opens : List ℕ → ℕ
opens [] = 0
opens (b ∷ values) = one b + opens values

one-open : (b : ℕ) → b ≡ 2 → one b ≡ 1
unfolding one
one-open b e = rw e refl

opens-set : (values : List ℕ) (i b : ℕ) → i < length values → get_or values i 2 ≡ 2 → one b ≡ 0 → opens (set values i b) + 1 ≡ opens values
unfolding opens
opens-set [] i b h e t = absurd (omega arith)
opens-set (x ∷ values) zero b h e t = omega (arith, one-open x e)
opens-set (x ∷ values) (suc i) b h e t = omega (arith, opens-set values i b (omega arith) e t)

opens-fill : (v : ℕ) → opens (replicate v 2) ≡ v
unfolding opens one
opens-fill zero = refl
opens-fill (suc v) = omega (arith, opens-fill v)

one_byte : (e : Entry) → one (byte_of e) ≡ 0
unfolding one byte_of
one_byte (propagated (pos n)) = refl
one_byte (propagated (negsuc n)) = refl
one_byte (decided i) = refl

entry-within : (v : ℕ) (state : State) (e : Entry) → InRange v (word_of e) → place_of (word_of e) < length (values_of v state)
entry-within v state e r = rw (length-values v state) (place-below v (word_of e) r)

-- every variable is open or on the trail
counted : (v : ℕ) (state : State) → WasOpen v state → opens (values_of v state) + length state ≡ v
unfolding values_of WasOpen
counted v [] h = omega (arith, opens-fill v)
counted v (e ∷ state) h =
    omega (
      arith,
      counted v state h.2,
      opens-set (values_of v state) (place_of (word_of e)) (byte_of e) (entry-within v state e h.0) h.1 (one_byte e),
    )

some-open : (values : List ℕ) (i : ℕ) → i < length values → get_or values i 2 ≡ 2 → 1 ≤ opens values
unfolding opens
some-open [] i h e = absurd (omega arith)
some-open (b ∷ values) zero h e = omega (arith, one-open b e)
some-open (b ∷ values) (suc i) h e = omega (arith, some-open values i (omega arith) e)

-- where none is open all are on it
one_set : (b : ℕ) → (b ≡ 2 → ⊥) → one b ≡ 0
unfolding one
one_set zero h = refl
one_set (suc zero) h = refl
one_set (suc (suc zero)) h = absurd (h refl)
one_set (suc (suc (suc n))) h = refl

none_open : (values : List ℕ) → Full values → opens values ≡ 0
unfolding opens
none_open [] f = refl
none_open (b ∷ values) f = omega (arith, one_set b (f 0 (omega arith)), none_open values (λ i l e. f (suc i) (omega arith) e))

pub full-length : (v : ℕ) (state : State) → WasOpen v state → Full (values_of v state) → length state ≡ v
full-length v state o f = omega (arith, counted v state o, none_open (values_of v state) f)

-- an open variable leaves room on the trail
pub room : (v : ℕ) (state : State) (i : ℕ) → WasOpen v state → i < v → get_or (values_of v state) i 2 ≡ 2 → length state < v
room v state i h l e = omega (arith, counted v state h, some-open (values_of v state) i (rw (length-values v state) l) e)

pub length-trail : (v : ℕ) (state : State) → length (trail_of v state) ≡ v
unfolding trail_of
length-trail v [] = length-replicate v (pos 0)
length-trail v (e ∷ state) = simp length-set (length-trail v state)

-- words past the trail are 0
zeros-past : (v i : ℕ) → get_or (replicate v (pos 0)) i (pos 0) ≡ pos 0
zeros-past zero i = refl
zeros-past (suc v) zero = refl
zeros-past (suc v) (suc i) = zeros-past v i

pub past : (v : ℕ) (state : State) (i : ℕ) → length state ≤ i → get_or (trail_of v state) i (pos 0) ≡ pos 0
unfolding trail_of
past v [] i h = zeros-past v i
past v (e ∷ state) i h =
    get_or-set_other (trail_of v state) (length state) i (word_of e) (pos 0) (λ d. omega arith)
    ∙ past v state i (omega arith)

pub below_suc : {i n : ℕ} → i < suc n → (i ≡ n) ⊎ (i < n)
below_suc h = eq-or-lt_of_le (le_of_suc-le-suc h)

-- and those on it are literals
pub on-trail : (v : ℕ) (state : State) (i : ℕ) → WasOpen v state → i < length state
    → 1 ≤ nat_abs (get_or (trail_of v state) i (pos 0))
unfolding trail_of WasOpen
on-trail v [] i o l = absurd (omega arith)
on-trail v (e ∷ state) i o l =
    let inside : length state < v = room v state (place_of (word_of e)) o.2 (place-below v (word_of e) o.0) o.1 in
    ⊎_elim
    (λ (d : i ≡ length state).
    rw (d, get_or-set_same (trail_of v state) (length state) (word_of e) (pos 0) (omega (arith, length-trail v state)))
    o.0.0)
    (λ d. rw (get_or-set_other (trail_of v state) (length state) i (word_of e) (pos 0) (λ q. omega arith))
    (on-trail v state i o.2 d))
    (below_suc l)
