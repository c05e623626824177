-- A call for the next in the code is that of the rules.
use mathlib.Core.Path.{◌≡◌, refl, sym, ◌∙◌, ap}
use mathlib.Core.Bool.{true, false}
use mathlib.Core.Logic.{⊎_elim}
use mathlib.Core.List.{List, []}
use Prim.Native.Nat.{ℕ, suc, ◌-◌}
use native.Mathlib.Omega.{arith}
use lib.IntN.{ℤ}
use Rattle.prelude.specs.Tests.{any}
use Rattle.prelude.proofs.Laws.{clash}
use Rattle.search_rules.specs.declared.Steps.{Steps}
use Rattle.search_rules.specs.declared.Position.{Position}
use Rattle.search_core.specs.declared.run.End.{End}
use Rattle.search_core.specs.declared.run.End.TheVariants.{None, Found, Spent}
use Rattle.search_core.specs.declared.run.Ran.{Ran}
use Rattle.search_rules.specs.Held.{steps_of, position_of, Stored}
use Rattle.search_rules.specs.Rules.{State, backtrack, Next, end_none, end_found, step, turn, next}
use Rattle.search_rules.specs.Run.{count, run}
use Rattle.search_rules.specs.Following.{first_step, following_run}
use Rattle.search_rules.proofs.Following.{first-full, follow-none, follow-waits, follow-step, follow-resumes}
use Rattle.search_rules.proofs.StepView.{turns-of}
use Rattle.search_core.specs.Inner.{Turned, end_after, Ended}
use Rattle.search_core.proofs.RunCode.{is_three, goes_on, three-turn}

-- a state with a decision, or without one, turned
pub record Turns (v : ℕ) (state : State) (n : ℕ) (values : List ℕ) (trail : List ℤ) : Type 0 where
  pub to : State
  pub turns : turn state ≡ step backtrack to
  pub stored : Stored v to values trail n

module _ (v : ℕ) (state : State) (values : List ℕ) (trail : List ℤ) (n : ℕ) (s : Stored v state values trail n) where
  has-decision : any is_three values ≡ goes_on (turn state)
  has-decision = rw s.values_are (three-turn v state s.was_open)

  pub some_turn : any is_three values ≡ true → (to : State) × (turn state ≡ step backtrack to)
  some_turn h = ⊎_elim (λ t. absurd (clash _ h (has-decision ∙ ap goes_on t))) (λ t. t) (turns-of state)

  pub no-turn : any is_three values ≡ false → turn state ≡ end_none
  no-turn h = ⊎_elim (λ t. t) (λ t. absurd (clash _ (has-decision ∙ ap goes_on t.1) h)) (turns-of state)

  -- what `back` leaves, with the position that counts the turn
  pub turned : (m : ℕ) (t : Steps) (q : Position) (values' : List ℕ) (trail' : List ℤ) → any is_three values ≡ true → q ≡ position_of m t
      → Turned v (turn state) m values' trail' → Turns v state q.length values' trail'
  turned m t q values' trail' h e d =
      let x = some_turn h in
      let r : Turned v (step backtrack x.0) m values' trail' = rw x.1 at d in
      record { to = x.0; turns = x.1; stored = rw (ap (λ p. p.length) e) r.0 }

-- on a full assignment
module _ (clauses : List (List ℤ)) (v : ℕ) (state : State) (full : next clauses v state ≡ end_found) (p : Position) (budget : ℕ) where
  first-is : first_step clauses v state ≡ turn state
  first-is = first-full clauses v state full

  pub full-none : (q : Position) (n : ℕ) (values : List ℕ) (trail : List ℤ) → turn state ≡ end_none → q ≡ position_of 0 (steps_of p)
      → Turned v (turn state) n values trail
      → Ended v (following_run clauses v budget (steps_of p) state) (record { end = None; position = q }) values trail
  full-none q n values trail t e d =
      rw (follow-none clauses v budget (steps_of p) state (first-is ∙ t), e)
      (record { end_is = refl; steps_are = refl; stored = emptied (rw t at d) })
    where
      emptied : Stored v [] values trail n → Stored v [] values trail 0
      emptied i = rw i.used_is at i

  pub full-waits : (to : State) (values : List ℕ) (trail : List ℤ) → turn state ≡ step backtrack to → budget ≡ 0
      → Stored v state values trail p.length
      → Ended v (following_run clauses v budget (steps_of p) state) (record { end = Spent; position = p }) values trail
  full-waits to values trail t z s =
      rw (z, follow-waits clauses v (steps_of p) state backtrack to (first-is ∙ t)) (record { end_is = refl; steps_are = refl; stored = s })

  pub full-goes : (q : Position) (n : ℕ) (to : State) → turn state ≡ step backtrack to → (budget ≡ 0 → ⊥)
      → q ≡ position_of n (count backtrack (steps_of p))
      → run clauses v (budget - 1) (steps_of q) to ≡ following_run clauses v budget (steps_of p) state
  full-goes q n to t z e =
      let g : budget ≡ suc (budget - 1) = omega arith in
      ap (λ x. run clauses v (budget - 1) x to) (ap steps_of e)
      ∙ sym (ap (λ k. following_run clauses v k (steps_of p) state) g
      ∙ follow-step clauses v (budget - 1) (steps_of p) state backtrack to (first-is ∙ t))

-- elsewhere
pub not_full : (clauses : List (List ℤ)) (v n : ℕ) (p : Position) (state : State) (r : Ran) (values : List ℕ) (trail : List ℤ)
    → (end : End) → end ≡ end_after (next clauses v state) → (end ≡ Found → ⊥)
    → Ended v (run clauses v n (steps_of p) state) r values trail → Ended v (following_run clauses v n (steps_of p) state) r values trail
not_full clauses v n p state r values trail end h k e =
    rw (follow-resumes clauses v n (steps_of p) state (λ d. k (h ∙ ap end_after d))) e

-- where the code tells that it is full
pub is-full : (x : Next) → Found ≡ end_after x → x ≡ end_found
is-full end_none e = absurd (let z : ◌≡◌ {A = ℕ} 0 1 = cc in omega arith)
is-full end_found e = refl
is-full (step kind s) e = absurd (let z : ◌≡◌ {A = ℕ} 0 1 = cc in omega arith)
