-- The state that slices and a record hold, and number 14 (document 02, Changes 1 and 3).
use Rattle.std.specs.Prelude.{◌≡◌, Bool, true, false, not, cond, ◌||◌, List, [], ◌∷◌, ℕ, zero, suc, ◌+◌, ◌≤◌, eqb, ltb, ℤ, pos, negsuc, nat_abs, length, get_or, take, drop}
use Rattle.prelude.specs.Tests.{each, any}
use Rattle.literal.specs.Literals.{is_literal}
use Rattle.search_rules.specs.declared.Steps.{Steps}
use Rattle.search_rules.specs.declared.Position.{Position}
use Rattle.search_rules.specs.Rules.{same_literal, Entry, propagated, decided, State, word_of, place_of, values_of, trail_of}
use Rattle.search_rules.specs.Run.{total}

-- The conditions of 14 STATE, in the order of its sentence. `values` and `trail` are the first v bytes and words that are lent, n is the
-- record's length, and `literals` are the first n words.

-- "the length passes v"
abbrev pub too_long : ℕ → ℕ → Bool
too_long v n = ltb v n

-- "a trail literal is out of range"
abbrev pub strays : ℕ → List ℤ → Bool
strays v literals = any (λ l. not (is_literal v l)) literals

-- "repeated"
unfoldable pub repeats : List ℤ → Bool
repeats [] = false
repeats (l ∷ literals) = any (same_literal l) literals || repeats literals

-- "(v goes with 1, -v with 0 or 3)"
unfoldable pub goes_with : ℤ → ℕ → Bool
goes_with (pos n) b = eqb b 1
goes_with (negsuc n) b = eqb b 0 || eqb b 3

-- "or contradicts its value"
abbrev pub contradicts : List ℕ → List ℤ → Bool
contradicts values literals = any (λ l. not (goes_with l (get_or values (place_of l) 2))) literals

-- the variable at a place is on the trail
abbrev pub on_trail : List ℤ → ℕ → Bool
on_trail literals i = any (λ l. eqb (place_of l) i) literals

-- "a byte .. among the first v but outside the trail isn't open": that of a variable which is not on the trail
abbrev pub set_outside : ℕ → List ℕ → List ℤ → Bool
set_outside v values literals = not (each v (λ i. on_trail literals i || eqb (get_or values i 2) 2))

-- "or word among the first v but outside the trail isn't .. 0": one behind the length
abbrev pub filled_outside : List ℤ → ℕ → Bool
filled_outside trail n = any (λ w. not (same_literal w (pos 0))) (drop n trail)

-- 14, but for the steps
unfoldable pub no_state : ℕ → List ℕ → List ℤ → ℕ → Bool
no_state v values trail n =
    let literals = take n trail in
    too_long v n || (strays v literals || (repeats literals || (contradicts values literals
    || (set_outside v values literals || filled_outside trail n))))

-- the steps done that a record has, by kind, and the record of a length and such steps (Change 3)
abbrev pub steps_of : Position → Steps
steps_of p = record { propagations = p.propagations; decisions = p.decisions; backtracks = p.backtracks }

abbrev pub position_of : ℕ → Steps → Position
position_of n t = record { length = n; propagations = t.propagations; decisions = t.decisions; backtracks = t.backtracks }

-- "or steps done and allowed together pass 2^64 - 1"
abbrev pub step_limit : ℕ
step_limit = 18446744073709551615

abbrev pub too_many : Steps → ℕ → Bool
too_many done allowed = ltb step_limit (total done + allowed)

-- The state that values, trail and length hold.

-- the entry of a literal with its value: 3 is a decision
unfoldable pub entry_of : ℤ → ℕ → Entry
entry_of (pos n) b = propagated (pos n)
entry_of (negsuc i) b = cond (eqb b 3) (decided i) (propagated (negsuc i))

-- the entries, the latest first
unfoldable pub state_in : List ℕ → List ℤ → ℕ → State
state_in values trail zero = []
state_in values trail (suc n) =
    let l = get_or trail n (pos 0) in
    entry_of l (get_or values (place_of l) 2) ∷ state_in values trail n

-- What it is that slices hold a state of the rules, and that 14 finds out exactly this.

-- a literal of the variables 1 to v
abbrev pub InRange : ℕ → ℤ → Type 0
InRange v l = (1 ≤ nat_abs l) × (nat_abs l ≤ v)

-- a state over v variables: each literal is one of theirs, and its variable was open when it was set
unfoldable pub WasOpen : ℕ → State → Type 0
WasOpen v [] = Unit {0}
WasOpen v (e ∷ state) = InRange v (word_of e) × (get_or (values_of v state) (place_of (word_of e)) 2 ≡ 2) × WasOpen v state

-- the slices hold the state, with n words of the trail in use
pub record Stored (v : ℕ) (state : State) (values : List ℕ) (trail : List ℤ) (n : ℕ) : Type 0 where
  pub values_are : values ≡ values_of v state
  pub trail_is : trail ≡ trail_of v state
  pub used_is : n ≡ length state
  pub was_open : WasOpen v state

pub record Held (v : ℕ) (values : List ℕ) (trail : List ℤ) (n : ℕ) : Type 0 where
  -- where 14 applies, but for the steps, no state is stored
  pub declines : no_state v values trail n ≡ true → (state : State) → Stored v state values trail n → ⊥
  -- where it does not, the state that the definition reads is stored
  pub holds : no_state v values trail n ≡ false → Stored v (state_in values trail n) values trail n
  -- and no other is
  pub only : (state : State) → Stored v state values trail n → state ≡ state_in values trail n

-- of any slices of v bytes and words, with any length
abbrev pub StateHeld : Type 0
StateHeld = (v : ℕ) (values : List ℕ) (trail : List ℤ) (n : ℕ) → length values ≡ v → length trail ≡ v → Held v values trail n
