-- A step of the rules with its reason, and one induction on the run: what each step keeps holds at the end.
use mathlib.Core.Path.{◌≡◌, refl, ◌∙◌, ap}
use mathlib.Core.Bool.{Bool, true, false}
use mathlib.Core.Logic.{◌⊎◌, inl, inr, ⊎_elim}
use mathlib.Core.List.{List, [], ◌∷◌}
use mathlib.Core.Option.{Option, none, some}
use Prim.Native.Nat.{ℕ, zero, suc, ◌+◌, ◌<◌, ◌≤◌}
use native.Mathlib.Omega.{arith}
use native.Mathlib.Nat.{zero-add, add-zero, suc-add, add-suc}
use lib.IntN.{ℤ, pos}
use lib.ListN.{length, get_or}
use Rattle.search_rules.specs.declared.Steps.{Steps}
use Rattle.search_rules.specs.Rules.{truth_of, conflict, first_unit, lowest_open}
use Rattle.search_rules.specs.Rules.{propagated, decided, State, values_of, Kind, propagation, decision, backtrack, Next, end_none}
use Rattle.search_rules.specs.Rules.{end_found, step, turn, decide, next}
use Rattle.search_rules.specs.Run.{total, count, End, was_none, was_found, was_spent, run}

-- no value is open
abbrev pub Full : List ℕ → Type 0
Full values = (i : ℕ) → i < length values → get_or values i 2 ≡ 2 → ⊥

-- the lowest open variable is at place i
pub record Lowest (values : List ℕ) (i : ℕ) : Type 0 where
  pub within : i < length values
  pub is_open : get_or values i 2 ≡ 2
  pub below : (j : ℕ) → j < i → get_or values j 2 ≡ 2 → ⊥

abbrev Low : ℕ → List ℕ → Type 0
Low k values = ((lowest_open k values ≡ none) × Full values) ⊎ ((i : ℕ) × Lowest values i × (lowest_open k values ≡ some (k + i)))

low-next : (b k : ℕ) (values : List ℕ) → (b ≡ 2 → ⊥) → lowest_open k (b ∷ values) ≡ lowest_open (suc k) values
    → Low (suc k) values → Low k (b ∷ values)
low-next b k values h e (inl (d, f)) = inl (e ∙ d, full)
  where
    full : (i : ℕ) → i < length (b ∷ values) → get_or (b ∷ values) i 2 ≡ 2 → ⊥
    full zero l q = h q
    full (suc i) l q = f i (omega arith) q
low-next b k values h e (inr (i, p, d)) =
    inr (suc i, record { within = let w = p.within in omega arith; is_open = p.is_open; below = less }, e ∙ d ∙ rw (add-suc k i, suc-add k i) refl)
  where
    less : (j : ℕ) → j < suc i → get_or (b ∷ values) j 2 ≡ 2 → ⊥
    less zero l d = h d
    less (suc j) l d = p.below j (omega arith) d

lows : (k : ℕ) (values : List ℕ) → Low k values
unfolding lowest_open truth_of
lows k [] = inl (refl, λ i h d. omega arith)
lows k (zero ∷ values) = low-next 0 k values (λ d. omega arith) refl (lows (suc k) values)
lows k (suc zero ∷ values) = low-next 1 k values (λ d. omega arith) refl (lows (suc k) values)
lows k (suc (suc zero) ∷ values) = inr (0, record { within = omega arith; is_open = refl; below = λ j h d. omega arith }, rw (add-zero k) refl)
lows k (suc (suc (suc n)) ∷ values) = low-next (suc (suc (suc n))) k values (λ d. omega arith) refl (lows (suc k) values)

-- all variables are set, or one is the lowest that is not
pub low-cases : (values : List ℕ) → ((lowest_open 0 values ≡ none) × Full values) ⊎ ((i : ℕ) × Lowest values i × (lowest_open 0 values ≡ some i))
low-cases values = ⊎_elim inl (λ h. inr (h.0, h.1, h.2 ∙ ap some (zero-add h.0))) (lows 0 values)

-- an end or a step, with its reason
pub data Step (clauses : List (List ℤ)) (v : ℕ) (state : State) : Next → Type 0 where
  ends-none : {x : Next} → x ≡ end_none → conflict (values_of v state) clauses ≡ true → turn state ≡ end_none → Step clauses v state x
  ends_found : {x : Next} → x ≡ end_found → conflict (values_of v state) clauses ≡ false → first_unit (values_of v state) clauses ≡ none
      → Full (values_of v state) → Step clauses v state x
  backtracks : {x : Next} {s : State} → x ≡ step backtrack s → conflict (values_of v state) clauses ≡ true → turn state ≡ step backtrack s
      → Step clauses v state x
  propagates : {x : Next} {l : ℤ} → x ≡ step propagation (propagated l ∷ state) → conflict (values_of v state) clauses ≡ false
      → first_unit (values_of v state) clauses ≡ some l → Step clauses v state x
  decides : {x : Next} {i : ℕ} → x ≡ step decision (decided i ∷ state) → conflict (values_of v state) clauses ≡ false
      → first_unit (values_of v state) clauses ≡ none → Lowest (values_of v state) i → Step clauses v state x

abbrev Turns : State → Type 0
Turns state = (turn state ≡ end_none) ⊎ ((s : State) × (turn state ≡ step backtrack s))

pub turns-of : (state : State) → Turns state
unfolding turn
turns-of [] = inl refl
turns-of (propagated l ∷ state) = turns-of state
turns-of (decided i ∷ state) = inr (propagated (pos (suc i)) ∷ state, refl)

module _ (clauses : List (List ℤ)) (v : ℕ) where
  pub view : (state : State) → Step clauses v state (next clauses v state)
  unfolding next decide
  view state = by (conflict values clauses) refl
    where
      values : List ℕ
      values = values_of v state

      low : conflict values clauses ≡ false → first_unit values clauses ≡ none → Step clauses v state (decide state (lowest_open 0 values))
      low c u =
          ⊎_elim (λ h. ends_found (ap (decide state) h.0) c u h.1) (λ h. decides (ap (decide state) h.2) c u h.1) (low-cases values)

      unit : (u : Option ℤ) → first_unit values clauses ≡ u → conflict values clauses ≡ false
          → Step clauses v state
          (elim u as (λ _. Next) [ some l ↦ step propagation (propagated l ∷ state) | none ↦ decide state (lowest_open 0 values) ])
      unit none u c = low c u
      unit (some l) u c = propagates refl c u

      by : (b : Bool) → conflict values clauses ≡ b
          → Step clauses v state (elim b as (λ _. Next) [
            | true ↦ turn state
            | false ↦ elim (first_unit values clauses) as (λ _. Next)
                [ some l ↦ step propagation (propagated l ∷ state) | none ↦ decide state (lowest_open 0 values) ]
          ])
      by true c = ⊎_elim (λ d. ends-none d c d) (λ d. backtracks d.1 c d.1) (turns-of state)
      by false c = unit (first_unit values clauses) refl c

-- a property of states that a step of each kind keeps: where a literal's variable opens again, where a decision is turned, and so on
pub record Kept (clauses : List (List ℤ)) (v : ℕ) (P : State → Type 0) : Type 0 where
  pub on_opening : (l : ℤ) (state : State) → P (propagated l ∷ state) → P state
  pub on_turning : (i : ℕ) (state : State) → P (decided i ∷ state) → P (propagated (pos (suc i)) ∷ state)
  pub on_propagation : (l : ℤ) (state : State) → first_unit (values_of v state) clauses ≡ some l → P state → P (propagated l ∷ state)
  pub on_decision : (i : ℕ) (state : State) → Lowest (values_of v state) i → P state → P (decided i ∷ state)

module _ (clauses : List (List ℤ)) (v : ℕ) (P : State → Type 0) (kept : Kept clauses v P) where
  abbrev pub Leads : Next → Type 0
  Leads end_none = Unit {0}
  Leads end_found = Unit {0}
  Leads (step kind s) = P s

  pub turn-leads : (state : State) → P state → Leads (turn state)
  unfolding turn
  turn-leads [] p = tt
  turn-leads (propagated l ∷ state) p = turn-leads state (kept.on_opening l state p)
  turn-leads (decided i ∷ state) p = kept.on_turning i state p

  step-leads : (state : State) (x : Next) → Step clauses v state x → P state → Leads x
  step-leads state x (ends-none e c t) p = rw e tt
  step-leads state x (ends_found e c u f) p = rw e tt
  step-leads state x (backtracks e c t) p = rw e (rw t at (turn-leads state p))
  step-leads state x (propagates {l = l} e c u) p = rw e (kept.on_propagation l state u p)
  step-leads state x (decides {i = i} e c u low) p = rw e (kept.on_decision i state low p)

  pub steps-keep : (state : State) (kind : Kind) (s : State) → P state → next clauses v state ≡ step kind s → P s
  steps-keep state kind s p e = rw e at (step-leads state (next clauses v state) (view clauses v state) p)

pub total-count : (kind : Kind) (t : Steps) → total (count kind t) ≡ suc (total t)
unfolding total count
total-count propagation t = omega arith
total-count decision t = omega arith
total-count backtrack t = omega arith

-- what a run ends with, of a fact that every step keeps; b is the step figure at which it is spent
unfoldable pub Ends : (Steps → State → Type 0) → List (List ℤ) → ℕ → ℕ → End → Type 0
Ends P clauses v b (was_none t) = (s : State) × P t s × (next clauses v s ≡ end_none) × (total t ≤ b)
Ends P clauses v b (was_found t s) = P t s × (next clauses v s ≡ end_found) × (total t ≤ b)
Ends P clauses v b (was_spent t s) = P t s × ((kind : Kind) × (s' : State) × (next clauses v s ≡ step kind s')) × (total t ≡ b)

module _ (clauses : List (List ℤ)) (v : ℕ) (P : Steps → State → Type 0)
    (keep : (t : Steps) (state : State) (kind : Kind) (s : State) → P t state → next clauses v state ≡ step kind s → P (count kind t) s) where
  ends-here : (b n : ℕ) (t : Steps) (state : State) → P t state → b ≡ total t + n → (x : Next) → next clauses v state ≡ x
      → ((kind : Kind) (s : State) → x ≡ step kind s → Ends P clauses v b (run clauses v n t state))
      → Ends P clauses v b (run clauses v n t state)
  unfolding run Ends
  ends-here b zero t state p q end_none e h = rw (e, run) (state, p, e, omega arith)
  ends-here b (suc n) t state p q end_none e h = rw (e, run) (state, p, e, omega arith)
  ends-here b zero t state p q end_found e h = rw (e, run) (p, e, omega arith)
  ends-here b (suc n) t state p q end_found e h = rw (e, run) (p, e, omega arith)
  ends-here b n t state p q (step kind s) e h = h kind s refl

  run-ends-at : (b n : ℕ) (t : Steps) (state : State) → P t state → b ≡ total t + n → Ends P clauses v b (run clauses v n t state)
  unfolding run Ends
  run-ends-at b zero t state p q =
      ends-here b zero t state p q (next clauses v state) refl (λ kind s e. rw (e, run) (p, (kind, s, e), omega arith))
  run-ends-at b (suc n) t state p q =
      ends-here b (suc n) t state p q (next clauses v state) refl
      (λ kind s e. rw (e, run) (run-ends-at b n (count kind t) s (keep t state kind s p e) (omega (arith, total-count kind t))))

  -- the one induction on the run
  pub run_ends : (n : ℕ) (t : Steps) (state : State) (end : End) → P t state → run clauses v n t state ≡ end
      → Ends P clauses v (total t + n) end
  run_ends n t state end p d = rw d at (run-ends-at (total t + n) n t state p refl)
