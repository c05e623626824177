-- The run of the code is the run of the rules.
use mathlib.Core.Path.{◌≡◌, refl, sym, ◌∙◌, ap}
use mathlib.Core.Bool.{Bool, true, false, ◌||◌}
use mathlib.Core.Logic.{⊎_elim}
use mathlib.Core.List.{List, [], ◌∷◌}
use mathlib.Core.Option
use Prim.Native.Nat.{ℕ, zero, suc, ◌+◌, ◌-◌, ◌<◌, ◌≤◌}
use native.Mathlib.Omega.{arith}
use native.Mathlib.Numerals.{add-one}
use lib.Dec.{eqb}
use lib.IntN.{ℤ, pos, negsuc}
use lib.ListN.{length, get_or, drop, set, replicate, drop_of_length-le}
use lib.Seq.{drop-cons}
use borrow.Author.Tests.{eq-eqb, ne_eqb}
use Rattle.prelude.specs.Tests.{any}
use Rattle.prelude.proofs.Laws.{clash, or_left, or_right, or-rest}
use Rattle.search_core.specs.declared.steps.StepKind.{StepKind}
use Rattle.search_core.specs.declared.steps.Moved.TheVariants.{NoneLeft, AllSet, To}
use Rattle.search_rules.specs.declared.Steps.{Steps}
use Rattle.search_rules.specs.declared.Position.{Position}
use Rattle.search_core.specs.declared.run.End.TheVariants.{None, Found, Spent}
use Rattle.search_rules.specs.Held.{steps_of, position_of, WasOpen, Stored}
use Rattle.search_scan.specs.Seen.{conflicting, unit, neither, seen}
use Rattle.search_core.specs.Inner.{Turned, kind_as, kind_of, Stepped, end_after, Ended}
use Rattle.search_rules.specs.Rules.{lowest_open, propagated, decided, State, word_of, byte_of, place_of, values_of, Kind, propagation}
use Rattle.search_rules.specs.Rules.{decision, backtrack, Next, end_none, end_found, step, turn, decide, next}
use Rattle.search_rules.specs.Run.{total, count, was_none, was_found, was_spent, run}
use Rattle.search_rules.proofs.Found.{place-below}
use Rattle.search_rules.proofs.Invariant.{length-values}
use Rattle.search_core.proofs.StepCode.{next-conflict, next-unit, next-neither, low-full, low-open}
use Rattle.search_rules.proofs.StepView.{Step, ends-none, ends_found, backtracks, propagates, decides, view, turns-of, total-count}

-- some value is 3
abbrev pub is_three : ℕ → Bool
is_three b = eqb b 3

module _ (values : List ℕ) (i : ℕ) (b : i < length values) (h : any is_three (drop i values) ≡ any is_three values) where
  at-cons : is_three (get_or values i 0) || any is_three (drop (suc i) values) ≡ any is_three values
  unfolding any
  at-cons = ap (any is_three) (sym (drop-cons values i 0 b)) ∙ h

  pub any_here : get_or values i 0 ≡ 3 → true ≡ any is_three values
  any_here e = sym (or_left _ (any is_three (drop (suc i) values)) (eq-eqb _ 3 e)) ∙ at-cons

  pub any-more : (get_or values i 0 ≡ 3 → ⊥) → any is_three (drop (i + 1) values) ≡ any is_three values
  any-more e = rw (add-one i) (sym (or-rest _ (any is_three (drop (suc i) values)) (ne_eqb _ 3 e)) ∙ at-cons)

pub any_none : (values : List ℕ) (i : ℕ) → length values ≤ i → any is_three (drop i values) ≡ any is_three values → false ≡ any is_three values
unfolding any
any_none values i b h = ap (any is_three) (sym (drop_of_length-le values b)) ∙ h

-- a 3 among the values is a decision on the trail
any-fill : (v : ℕ) → any is_three (replicate v 2) ≡ false
unfolding any
any-fill zero = refl
any-fill (suc v) = any-fill v

any-set-other : (values : List ℕ) (i b : ℕ) → get_or values i 2 ≡ 2 → is_three b ≡ false → any is_three (set values i b) ≡ any is_three values
unfolding any
any-set-other [] i b e t = refl
any-set-other (x ∷ values) zero b e t = rw (t, e) refl
any-set-other (x ∷ values) (suc i) b e t = ap (λ y. is_three x || y) (any-set-other values i b e t)

any-set-three : (values : List ℕ) (i b : ℕ) → i < length values → b ≡ 3 → any is_three (set values i b) ≡ true
unfolding any
any-set-three [] i b h e = absurd (omega arith)
any-set-three (x ∷ values) zero b h e = or_left _ (any is_three values) (eq-eqb b 3 e)
any-set-three (x ∷ values) (suc i) b h e = or_right (is_three x) _ (any-set-three values i b (omega arith) e)

byte-propagated : (l : ℤ) → is_three (byte_of (propagated l)) ≡ false
unfolding byte_of
byte-propagated (pos n) = refl
byte-propagated (negsuc n) = refl

byte-decided : (i : ℕ) → byte_of (decided i) ≡ 3
unfolding byte_of
byte-decided i = refl

abbrev pub goes_on : Next → Bool
goes_on end_none = false
goes_on end_found = false
goes_on (step kind state) = true

pub three-turn : (v : ℕ) (state : State) → WasOpen v state → any is_three (values_of v state) ≡ goes_on (turn state)
unfolding values_of WasOpen turn
three-turn v [] h = any-fill v
three-turn v (propagated l ∷ state) h =
    any-set-other (values_of v state) (place_of (word_of (propagated l))) (byte_of (propagated l)) h.1 (byte-propagated l) ∙ three-turn v state h.2
three-turn v (decided i ∷ state) h =
    any-set-three (values_of v state) (place_of (word_of (decided i))) (byte_of (decided i))
    (rw (length-values v state) (place-below v (word_of (decided i)) h.0)) (byte-decided i)

-- the answers of `ends`
module _ (clauses : List (List ℤ)) (v : ℕ) (state : State) (values : List ℕ) (h : WasOpen v state) (here : values ≡ values_of v state) where
  turn_end : (b : Bool) → any is_three values ≡ b → conflicting ≡ seen values clauses → goes_on (turn state) ≡ b
  turn_end b e s = sym (three-turn v state h) ∙ (rw here at e)

  pub ends-turn : conflicting ≡ seen values clauses → any is_three values ≡ true → Spent ≡ end_after (next clauses v state)
  ends-turn s e = rw (next-conflict clauses v state values here s) (by (turn state) (turn_end true e s))
    where
      by : (x : Next) → goes_on x ≡ true → Spent ≡ end_after x
      by end_none q = clash false q refl
      by end_found q = clash false q refl
      by (step kind s) q = refl

  pub ends-none-left : conflicting ≡ seen values clauses → any is_three values ≡ false → None ≡ end_after (next clauses v state)
  ends-none-left s e = rw (next-conflict clauses v state values here s) (by (turn state) refl (turn_end false e s))
    where
      by : (x : Next) → turn state ≡ x → goes_on x ≡ false → None ≡ end_after x
      by end_none d q = refl
      by end_found d q = ⊎_elim (λ w. absurd (let z : ◌≡◌ {A = ℕ} 0 1 = cc in omega arith)) (λ w. other w.0 w.1 d) (turns-of state)
        where
          other : (s : State) → turn state ≡ step backtrack s → turn state ≡ end_found → None ≡ Found
          other s e d = absurd (let z : ◌≡◌ {A = ℕ} 0 1 = cc in omega arith)
      by (step kind s) d q = clash true refl q

  pub ends-unit : (l : ℤ) → unit l ≡ seen values clauses → Spent ≡ end_after (next clauses v state)
  ends-unit l s = rw (next-unit clauses v state values here l s) refl

  pub ends-full : (r : ℕ) → neither ≡ seen values clauses → r ≡ Option.get_or (lowest_open 0 values) (length values) → r ≡ length values
      → Found ≡ end_after (next clauses v state)
  unfolding decide
  ends-full r s b z = rw (next-neither clauses v state values here s ∙ ap (decide state) (low-full values r b z)) refl

  pub ends_open : (r : ℕ) → neither ≡ seen values clauses → r ≡ Option.get_or (lowest_open 0 values) (length values) → (r ≡ length values → ⊥)
      → Spent ≡ end_after (next clauses v state)
  unfolding decide
  ends_open r s b z = rw (next-neither clauses v state values here s ∙ ap (decide state) (low-open values r b z).1) refl

module _ (clauses : List (List ℤ)) (v : ℕ) where
  run_none : (n : ℕ) (t : Steps) (state : State) → next clauses v state ≡ end_none → run clauses v n t state ≡ was_none t
  unfolding run
  run_none zero t state e = rw (e, run)
  run_none (suc n) t state e = rw (e, run)

  run-found : (n : ℕ) (t : Steps) (state : State) → next clauses v state ≡ end_found → run clauses v n t state ≡ was_found t state
  unfolding run
  run-found zero t state e = rw (e, run)
  run-found (suc n) t state e = rw (e, run)

  run-spent : (t : Steps) (state : State) (kind : Kind) (s : State) → next clauses v state ≡ step kind s → run clauses v 0 t state ≡ was_spent t state
  unfolding run
  run-spent t state kind s e = rw (e, run)

  run_step : (n : ℕ) (t : Steps) (state : State) (kind : Kind) (s : State) → next clauses v state ≡ step kind s
      → run clauses v (suc n) t state ≡ run clauses v n (count kind t) s
  unfolding run
  run_step n t state kind s e = rw (e, run)

  next-none : (state : State) (x : Next) → Step clauses v state x → x ≡ end_none → turn state ≡ end_none
  next-none state x (ends-none d c t) e = t
  next-none state x (ends_found d c u f) e = cc
  next-none state x (backtracks d c t) e = cc
  next-none state x (propagates d c u) e = cc
  next-none state x (decides d c u l) e = cc

  kind-back : (kind : Kind) → kind_of (kind_as kind) ≡ kind
  kind-back propagation = refl
  kind-back decision = refl
  kind-back backtrack = refl

  -- how far the loop has come: what is left of the run is the run
  pub record Far (budget : ℕ) (t : Steps) (state : State) (values : List ℕ) (trail : List ℤ) (p : Position) (left : ℕ) : Type 0 where
    pub at : State
    pub stored : Stored v at values trail p.length
    pub alike : run clauses v left (steps_of p) at ≡ run clauses v budget t state

  -- with no step left, from a state
  abbrev pub here : (state : State) (values : List ℕ) (trail : List ℤ) (p : Position) → Stored v state values trail p.length
      → Far 0 (steps_of p) state values trail p 0
  here state values trail p i = record { at = state; stored = i; alike = refl }

  module _ (budget : ℕ) (t : Steps) (state : State) (values : List ℕ) (trail : List ℤ) (p : Position) (left : ℕ)
      (f : Far budget t state values trail p left) where
    by-none : next clauses v f.at ≡ end_none → run clauses v budget t state ≡ was_none (steps_of p)
    by-none e = sym f.alike ∙ run_none left (steps_of p) f.at e

    by-found : next clauses v f.at ≡ end_found → run clauses v budget t state ≡ was_found (steps_of p) f.at
    by-found e = sym f.alike ∙ run-found left (steps_of p) f.at e

    module _ (values' : List ℕ) (trail' : List ℤ) where
      pub far_none : (x : Next) (q : Position) → next clauses v f.at ≡ x → q ≡ position_of 0 (steps_of p)
          → Stepped v f.at x NoneLeft values' trail' → Ended v (run clauses v budget t state) (record { end = None; position = q }) values' trail'
      far_none end_none q e c s = rw (by-none e, c) (record { end_is = refl; steps_are = refl; stored = s.1 })
      far_none end_found q e c s = absurd (let d : NoneLeft ≡ AllSet = s.0 in let z : ◌≡◌ {A = ℕ} 0 1 = cc in omega arith)
      far_none (step kind r) q e c s = absurd (let d : NoneLeft ≡ To (kind_as kind) (length r) = s.0 in let z : ◌≡◌ {A = ℕ} 0 1 = cc in omega arith)

      pub far-found : (x : Next) → next clauses v f.at ≡ x → Stepped v f.at x AllSet values' trail'
          → Ended v (run clauses v budget t state) (record { end = Found; position = p }) values' trail'
      far-found end_none e s = absurd (let d : AllSet ≡ NoneLeft = s.0 in let z : ◌≡◌ {A = ℕ} 0 1 = cc in omega arith)
      far-found end_found e s = rw (by-found e) (record { end_is = refl; steps_are = refl; stored = rw f.stored.used_is s.1 })
      far-found (step kind r) e s = absurd (let d : AllSet ≡ To (kind_as kind) (length r) = s.0 in let z : ◌≡◌ {A = ℕ} 0 1 = cc in omega arith)

      pub far-on : (k : StepKind) (m : ℕ) (q : Position) → 0 < left → q ≡ position_of m (count (kind_of k) (steps_of p))
          → (x : Next) → next clauses v f.at ≡ x → Stepped v f.at x (To k m) values' trail' → Far budget t state values' trail' q (left - 1)
      far-on k m q h a end_none e s = absurd (let d : To k m ≡ NoneLeft = s.0 in let z : ◌≡◌ {A = ℕ} 0 1 = cc in omega arith)
      far-on k m q h a end_found e s = absurd (let d : To k m ≡ AllSet = s.0 in let z : ◌≡◌ {A = ℕ} 0 1 = cc in omega arith)
      far-on k m q h a (step kind r) e s =
          let d : To k m ≡ To (kind_as kind) (length r) = s.0 in
          let y : k ≡ kind_as kind = cc in
          let w : m ≡ length r = cc in
          let g : left ≡ suc (left - 1) = omega arith in
          let c : steps_of q ≡ count kind (steps_of p) = ap steps_of a ∙ ap (λ i. count i (steps_of p)) (ap kind_of y ∙ kind-back kind) in
          record {
            at = r;
            stored = rw (ap (λ i. i.length) a ∙ w) s.1;
            alike =
                ap (λ i. run clauses v (left - 1) i r) c ∙ sym (run_step (left - 1) (steps_of p) f.at kind r e)
                ∙ ap (λ i. run clauses v i (steps_of p) f.at) (sym g) ∙ f.alike;
          }

      -- no step is left
      pub far-emptied : (x : Next) (n : ℕ) (q : Position) → next clauses v f.at ≡ x → None ≡ end_after x → q ≡ position_of 0 (steps_of p)
          → Turned v (turn f.at) n values' trail' → Ended v (run clauses v budget t state) (record { end = None; position = q }) values' trail'
      far-emptied end_none n q e d c s =
          rw (by-none e, c) (record { end_is = refl; steps_are = refl; stored = (fresh (rw (next-none f.at _ (view clauses v f.at) e) at s)) })
        where
          fresh : Stored v [] values' trail' n → Stored v [] values' trail' 0
          fresh i = rw i.used_is at i
      far-emptied end_found n q e d c s = absurd (let z : ◌≡◌ {A = ℕ} 0 1 = cc in omega arith)
      far-emptied (step kind r) n q e d c s = absurd (let z : ◌≡◌ {A = ℕ} 0 1 = cc in omega arith)

    pub far-full : (x : Next) → next clauses v f.at ≡ x → Found ≡ end_after x
        → Ended v (run clauses v budget t state) (record { end = Found; position = p }) values trail
    far-full end_none e d = absurd (let z : ◌≡◌ {A = ℕ} 0 1 = cc in omega arith)
    far-full end_found e d = rw (by-found e) (record { end_is = refl; steps_are = refl; stored = f.stored })
    far-full (step kind r) e d = absurd (let z : ◌≡◌ {A = ℕ} 0 1 = cc in omega arith)

    pub far-spent : (x : Next) → left ≤ 0 → next clauses v f.at ≡ x → Spent ≡ end_after x
        → Ended v (run clauses v budget t state) (record { end = Spent; position = p }) values trail
    far-spent end_none h e d = absurd (let z : ◌≡◌ {A = ℕ} 0 1 = cc in omega arith)
    far-spent end_found h e d = absurd (let z : ◌≡◌ {A = ℕ} 0 1 = cc in omega arith)
    far-spent (step kind r) h e d =
        let g : left ≡ 0 = omega arith in
        rw (sym f.alike ∙ ap (λ i. run clauses v i (steps_of p) f.at) g ∙ run-spent (steps_of p) f.at kind r e)
        (record { end_is = refl; steps_are = refl; stored = f.stored })

-- the loop of `run`: the steps done and left, the slices' lengths, and how far it has come from every state that they held at first
pub record Loop (clauses : List (List ℤ)) (budget : ℕ) (values₀ : List ℕ) (trail₀ : List ℤ) (p₀ : Position)
    (values : List ℕ) (trail : List ℤ) (p : Position) (left : ℕ) : Type 0 where
  pub figure : total (steps_of p) + left ≡ total (steps_of p₀) + budget
  pub wide : length values ≡ length values₀
  pub deep : length trail ≡ length trail₀
  pub far : (state : State) → Stored (length values₀) state values₀ trail₀ p₀.length
      → Far clauses (length values₀) budget (steps_of p₀) state values trail p left

-- a step more is done, and one less is left
pub figure-on : (p q : Position) (kind : StepKind) (m left s : ℕ) → q ≡ position_of m (count (kind_of kind) (steps_of p)) → 0 < left
    → total (steps_of p) + left ≡ s → total (steps_of q) + (left - 1) ≡ s
figure-on p q kind m left s a h e = omega (arith, ap (λ i. total (steps_of i)) a, total-count (kind_of kind) (steps_of p))
