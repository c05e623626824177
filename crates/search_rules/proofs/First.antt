-- What is found is the first: no satisfying assignment comes before it, in variable order, 0 before 1 (document 02, Change 5).
-- Each literal that was turned or forced is forced by the clauses and the decisions before it: `Follows`, which every step keeps (Invariant.antt).
-- Each decision made the lowest open variable false: `LowestDecided`. What was set once stays, since each variable was open when it was set:
-- `WasOpen`. So where a satisfying assignment has not the whole trail, it leaves it first at a decision, with a 1.
use mathlib.Core.Path.{◌≡◌, refl, sym, ap, ◌∙◌}
use mathlib.Core.Bool.{Bool, true, false, not}
use mathlib.Core.Logic.{◌⊎◌, inl, inr, ⊎_elim}
use mathlib.Core.List.{List, [], ◌∷◌, map}
use mathlib.Core.Option.{some}
use Prim.Native.Nat.{ℕ, zero, suc, ◌<◌, ◌≤◌}
use native.Mathlib.Omega.{arith}
use lib.Dec.{leb, eqb}
use lib.IntN.{ℤ}
use lib.ListN.{length, get_or, length-map, get_or-map}
use lib.Seq.{get_or-set_same, get_or-set_other, ext_get_or}
use borrow.Author.Tests.{leb-true, eqb-true}
use Rattle.prelude.specs.Order.{Before, NoneBefore}
use Rattle.prelude.proofs.Laws.{clash, all-at}
use Rattle.prelude.proofs.Order.{before-irreflexive, before-transitive, before_at}
use Rattle.clause_list.specs.ClauseList.{Satisfying}
use Rattle.search_rules.specs.Held.{WasOpen}
use Rattle.search_rules.specs.Rules.{Truth, falsified, satisfied, unassigned, truth_of, negated}
use Rattle.search_rules.specs.Rules.{Entry, propagated, decided, State, word_of, byte_of, place_of}
use Rattle.search_rules.specs.Rules.{values_of, Kind, end_found, step, next, settle}
use Rattle.search_rules.specs.Run.{after}
use Rattle.search_rules.proofs.Assignments.{Assignment, assignment, holds, Has, Agrees, Follows, values_agree, model_of}
use Rattle.search_rules.proofs.Ranges.{Ranged}
use Rattle.search_rules.proofs.StepView.{Full, Kept, steps-keep}
use Rattle.search_rules.proofs.Invariant.{length-values, follows-keeps}
use Rattle.search_rules.proofs.Found.{byte_at, settle-true, settle-false, place-below, found-ended}
use Rattle.search_rules.proofs.Reached.{after-keeps}
use Rattle.search_rules.proofs.Again.{open-keeps}

-- each decision was that of the lowest open variable: those below it were set before
unfoldable pub LowestDecided : ℕ → State → Type 0
LowestDecided v [] = Unit {0}
LowestDecided v (propagated l ∷ state) = LowestDecided v state
LowestDecided v (decided i ∷ state) = ((j : ℕ) → j < i → get_or (values_of v state) j 2 ≡ 2 → ⊥) × LowestDecided v state

-- every step keeps it
module _ (clauses : List (List ℤ)) (v : ℕ) where
  pub lowest-kept : Kept clauses v (LowestDecided v)
  unfolding LowestDecided
  lowest-kept =
      record {
        on_opening = λ l state h. h;
        on_turning = λ i state h. h.1;
        on_propagation = λ l state u h. h;
        on_decision = λ i state low h. (low.below, h);
      }

-- what values say at a place where an assignment with this bit is not what they say
abbrev opposite : Bool → Truth
opposite true = falsified
opposite false = satisfied

-- the assignment parts from the values: at a place it has a bit, and they say the opposite; below that place all is set and it agrees
pub record Parts (bit : Bool) (a : Assignment) (values : List ℕ) : Type 0 where
  pub place : ℕ
  pub has : a place ≡ bit
  pub said : truth_of (get_or values place 2) ≡ opposite bit
  pub set_below : (j : ℕ) → j < place → get_or values j 2 ≡ 2 → ⊥
  pub agrees_below : (j : ℕ) → j < place → Agrees (truth_of (get_or values j 2)) (a j)

-- a byte that says something is set
said-set : (bit : Bool) (b : ℕ) → truth_of b ≡ opposite bit → b ≡ 2 → ⊥
unfolding truth_of
said-set true b f e = let q : unassigned ≡ falsified = sym (ap truth_of e) ∙ f in let z : ◌≡◌ {A = ℕ} 0 1 = cc in omega arith
said-set false b f e = let q : unassigned ≡ satisfied = sym (ap truth_of e) ∙ f in let z : ◌≡◌ {A = ℕ} 0 1 = cc in omega arith

module _ (a : Assignment) (v : ℕ) where
  -- what is set stays as it is when an open variable is set
  pub set_other : (e : Entry) (state : State) (j : ℕ) → get_or (values_of v state) (place_of (word_of e)) 2 ≡ 2 → (get_or (values_of v state) j 2 ≡ 2 → ⊥)
      → get_or (values_of v (e ∷ state)) j 2 ≡ get_or (values_of v state) j 2
  unfolding values_of
  set_other e state j o h = get_or-set_other (values_of v state) (place_of (word_of e)) j (byte_of e) 2 (λ d. h (rw d o))

  pub parts-later : (bit : Bool) (e : Entry) (state : State) → get_or (values_of v state) (place_of (word_of e)) 2 ≡ 2
      → Parts bit a (values_of v state) → Parts bit a (values_of v (e ∷ state))
  parts-later bit e state o l =
      let same : (j : ℕ) → (get_or (values_of v state) j 2 ≡ 2 → ⊥) → get_or (values_of v (e ∷ state)) j 2 ≡ get_or (values_of v state) j 2 =
      λ j h. set_other e state j o h in
      record {
        place = l.place;
        has = l.has;
        said = rw (same l.place (said-set bit _ l.said)) l.said;
        set_below = λ j h. rw (same j (l.set_below j h)) (l.set_below j h);
        agrees_below = λ j h. rw (same j (l.set_below j h)) (l.agrees_below j h);
      }

  -- at an entry whose byte says the opposite
  pub parts-here : (bit : Bool) (e : Entry) (state : State) → WasOpen v (e ∷ state) → truth_of (byte_of e) ≡ opposite bit
      → ((j : ℕ) → j < place_of (word_of e) → get_or (values_of v state) j 2 ≡ 2 → ⊥) → Has a state → a (place_of (word_of e)) ≡ bit
      → Parts bit a (values_of v (e ∷ state))
  unfolding WasOpen
  parts-here bit e state o t low g h =
      let i = place_of (word_of e) in
      let b : get_or (values_of v (e ∷ state)) i 2 ≡ byte_of e =
      unfold values_of in get_or-set_same (values_of v state) i (byte_of e) 2 (rw (length-values v state) (place-below v (word_of e) o.0)) in
      let same : (j : ℕ) → j < i → get_or (values_of v (e ∷ state)) j 2 ≡ get_or (values_of v state) j 2 =
      λ j l. set_other e state j o.1 (low j l) in
      record {
        place = i;
        has = h;
        said = rw b t;
        set_below = λ j l. rw (same j l) (low j l);
        agrees_below = λ j l. rw (same j l) (values_agree a v state g j);
      }

  -- an assignment of which all that follows holds has every literal of the trail, or leaves it at a decision
  pub has-or-leaves : (state : State) → WasOpen v state → LowestDecided v state → Follows a state → Has a state ⊎ Parts true a (values_of v state)
  unfolding WasOpen LowestDecided Follows Has word_of holds
  has-or-leaves [] o low f = inl tt
  has-or-leaves (propagated l ∷ state) o low f =
      ⊎_elim (λ g. inl (f.0 g, g)) (λ d. inr (parts-later true (propagated l) state (unfold word_of in o.1) d))
      (has-or-leaves state o.2 low f.1)
  has-or-leaves (decided i ∷ state) o low f =
      ⊎_elim (by (a i) refl) (λ d. inr (parts-later true (decided i) state (unfold word_of in o.1) d)) (has-or-leaves state o.2 low.1 f)
    where
      by : (b : Bool) → a i ≡ b → Has a state → Has a (decided i ∷ state) ⊎ Parts true a (values_of v (decided i ∷ state))
      by true e g = inr (parts-here true (decided i) state o (unfold byte_of truth_of in refl) (unfold word_of place_of in low.0) g
          (unfold word_of place_of in e))
      by false e g = inl (ap not e, g)

-- the settled byte of a variable that is set is that of an assignment which agrees
bit-false : (x : ℕ) → x ≤ 1 → eqb x 1 ≡ false → 0 ≡ x
bit-false zero l e = refl
bit-false (suc zero) l e = clash true refl e
bit-false (suc (suc x)) l e = absurd (omega arith)

settled_is : (b x : ℕ) → b ≤ 3 → (b ≡ 2 → ⊥) → x ≤ 1 → Agrees (truth_of b) (eqb x 1) → settle b ≡ x
unfolding truth_of Agrees
settled_is zero x h n l g = bit-false x l g
settled_is (suc zero) x h n l g = sym (eqb-true x 1 g)
settled_is (suc (suc zero)) x h n l g = absurd (n refl)
settled_is (suc (suc (suc zero))) x h n l g = bit-false x l g
settled_is (suc (suc (suc (suc b)))) x h n l g = absurd (omega arith)

set-inside : (values : List ℕ) (i : ℕ) → (get_or values i 2 ≡ 2 → ⊥) → i < length values
set-inside [] i h = absurd (h refl)
set-inside (b ∷ values) zero h = omega arith
set-inside (b ∷ values) (suc i) h = let l = set-inside values i h in omega arith

-- a full state, and an assignment that satisfies the clauses
module _ (clauses : List (List ℤ)) (v : ℕ) (state : State) (full : Full (values_of v state)) (a : List ℕ) (s : Satisfying v clauses a) where
  abbrev values : List ℕ
  values = values_of v state

  abbrev left : List ℕ
  left = map settle values

  same_at : (i : ℕ) → (get_or values i 2 ≡ 2 → ⊥) → Agrees (truth_of (get_or values i 2)) (assignment a i) → get_or left i 2 ≡ get_or a i 2
  unfolding assignment
  same_at i n g =
      let inside : i < length a = omega (arith, set-inside values i n, length-values v state, s.size) in
      get_or-map settle values i 2
      ∙ settled_is (get_or values i 2) (get_or a i 2) (byte_at v state i) n (leb-true (get_or a i 2) 1 (all-at (λ b. leb b 1) a s.bits i 2 inside)) g

  -- its bit where it is false
  same_bit : (i : ℕ) → assignment a i ≡ false → i < length values → get_or a i 2 ≡ 0
  unfolding assignment
  same_bit i e h =
      sym (bit-false (get_or a i 2)
      (leb-true (get_or a i 2) 1 (all-at (λ b. leb b 1) a s.bits i 2 (omega (arith, length-values v state, s.size)))) e)

  -- one that has every literal of the trail is what is left
  pub has_same : Has (assignment a) state → left ≡ a
  has_same g =
      let size : length left ≡ v = length-map values settle ∙ length-values v state in
      ext_get_or 2 left a (size ∙ sym s.size)
      (λ i h. same_at i (full i (omega (arith, size, length-values v state))) (values_agree (assignment a) v state g i))

  -- one that leaves it comes later
  pub leaves_after : Parts true (assignment a) values → Before left a
  unfolding assignment negated
  leaves_after l =
      before_at l.place left a
      (get_or-map settle values l.place 2 ∙ settle-false (get_or values l.place 2) (byte_at v state l.place) (ap negated l.said))
      (eqb-true (get_or a l.place 2) 1 l.has)
      (λ j h. same_at j (l.set_below j h) (l.agrees_below j h))

  -- and one that it left comes before
  pub left-before : Parts false (assignment a) values → Before a left
  left-before l =
      before_at l.place a left
      (same_bit l.place l.has (set-inside values l.place (said-set false _ l.said)))
      (get_or-map settle values l.place 2 ∙ settle-true (get_or values l.place 2) l.said)
      (λ j h. sym (same_at j (l.set_below j h) (l.agrees_below j h)))

  not-before : WasOpen v state → LowestDecided v state → Follows (assignment a) state → Before a left → ⊥
  not-before o low f b =
      ⊎_elim (λ g. before-irreflexive a (rw (has_same g) at b)) (λ l. before-irreflexive a (before-transitive a left a b (leaves_after l)))
      (has-or-leaves (assignment a) v state o low f)

-- where the steps from a fresh start end with "found"
module _ (clauses : List (List ℤ)) (v : ℕ) (ranged : Ranged v clauses) (n : ℕ) (state : State)
    (reached : after clauses v n [] ≡ some state) (ends : next clauses v state ≡ end_found) where
  kept : (P : State → Type 0) → ((s : State) (kind : Kind) (s' : State) → P s → next clauses v s ≡ step kind s' → P s') → P [] → P state
  kept P keep p = after-keeps clauses v P keep n [] state p reached

  pub none_before : NoneBefore (Satisfying v clauses) (map settle (values_of v state))
  unfolding WasOpen LowestDecided Follows
  none_before a s =
      not-before clauses v state (found-ended clauses v state ends).1 a s
      (kept (WasOpen v) (open-keeps v clauses ranged) tt)
      (kept (LowestDecided v) (steps-keep clauses v (LowestDecided v) (lowest-kept clauses v)) tt)
      (kept (Follows (assignment a)) (follows-keeps clauses v (assignment a) (model_of a clauses s.holds)) tt)
