-- What holds of the assignments that were given where a state is reached (specs/Reached): each satisfies, they ascend,
-- and
-- one that was not given comes later and waits. So they are all where a call ends with "none"; and a call leads on.
use mathlib.Core.Path.{◌≡◌, refl, ◌∙◌, subst}
use mathlib.Core.Logic.{◌⊎◌, inl, inr, ⊎_elim}
use mathlib.Core.List.{List, [], ◌∷◌, ◌++◌, map, map-append}
use Prim.Native.Nat.{ℕ, ◌≤◌}
use native.Mathlib.Omega.{arith}
use lib.IntN.{ℤ}
use Rattle.prelude.specs.Order.{Before, Each, Some, Pairs, Lists}
use Rattle.prelude.proofs.Order.{each_map, each_more, some_more, pairs-more, ascending-different}
use Rattle.clause_list.specs.ClauseList.{Satisfying}
use Rattle.search_rules.specs.declared.Steps.{Steps}
use Rattle.search_rules.specs.Rules.{State, values_of, settle, Kind, end_none, end_found, step, next}
use Rattle.search_rules.specs.Run.{End, was_none, was_found, was_spent}
use Rattle.search_rules.specs.Following.{first_step, following_run}
use Rattle.search_rules.specs.Reached.{Settles, Reached, all-open, on, gives}
use Rattle.search_rules.proofs.Ranges.{Ranged}
use Rattle.search_rules.proofs.Found.{found-satisfying}
use Rattle.search_rules.proofs.Following.{first-other, FollowEnds, follow-ends}
use Rattle.search_rules.proofs.Passed.{Sound, sound-fresh, sound-first, settled-has, Past, Waiting, past-on}
use Rattle.search_rules.proofs.Passed.{waiting-fresh}
use Rattle.search_rules.proofs.Passed.{past-before, follows_on, found-or-waits, waits-not-none}

-- each state that is reached is sound
pub reached-sound : (clauses : List (List ℤ)) (v : ℕ) → Ranged v clauses
    → (Gives : List ℕ → List ℕ → Type 0) {cases : List (List ℕ)} {state : State}
    → Reached clauses v Gives cases state → Sound v state
reached-sound clauses v ranged Gives all-open = sound-fresh v
reached-sound clauses v ranged Gives (on {state = state} {state' = s} {kind = kind} r e n) =
    sound-first clauses v ranged state kind s (reached-sound clauses v ranged Gives r) e
reached-sound clauses v ranged Gives (gives {state = state} {state' = s} {kind = kind} r e f g) =
    sound-first clauses v ranged state kind s (reached-sound clauses v ranged Gives r) e

module _ (clauses : List (List ℤ)) (v : ℕ) (ranged : Ranged v clauses) (some-variable : 1 ≤ v) where
  record Given (cases : List (List ℕ)) (state : State) : Type 0 where
    each : Each (Satisfying v clauses) cases
    past : Each (λ case. Past clauses v case state) cases
    ascending : Pairs Before cases
    others : (a : List ℕ) → Satisfying v clauses a
        → (Some (λ case. case ≡ a) cases) ⊎ (Each (λ case. Before case a) cases × Waiting clauses v a state)

  given-fresh : Given [] []
  unfolding Each Pairs
  given-fresh = record {
    each = tt;
    past = tt;
    ascending = tt;
    others = λ a sat. inr
        (tt, waiting-fresh clauses v a some-variable);
  }

  module _ (cases : List (List ℕ)) (state : State) (kind : Kind) (s : State) (sound : Sound v state)
      (given : Given cases state)
      (e : first_step clauses v state ≡ step kind s) where
    after : Sound v s
    after = sound-first clauses v ranged state kind s sound e

    behind : Each (λ case. Past clauses v case s) cases
    behind =
        each_map (λ case. Past clauses v case state) (λ case. Past clauses v case s)
        (λ case p. inl (past-on clauses v case state kind s sound p e)) cases given.past

    given-on : (next clauses v s ≡ end_found → ⊥) → Given cases s
    given-on n = record {
      each = given.each;
      past = behind;
      ascending = given.ascending;
      others = λ a sat. ⊎_elim inl
          (λ w. inr (w.0, (follows_on clauses v a sat state kind s w.1 e, λ g f. n f))) (given.others a sat);
    }

    module _ (f : next clauses v s ≡ end_found) where
      abbrev here : List ℕ
      here = map settle (values_of v s)

      satisfies : Satisfying v clauses here
      satisfies = found-satisfying clauses v ranged s f

      before_here : (xs : List (List ℕ)) → Each (Satisfying v clauses) xs → Each (λ case. Past clauses v case state) xs
          → Each (λ case. Before case here) xs
      unfolding Each
      before_here [] h p = tt
      before_here (x ∷ xs) h p = (
        past-before clauses v x h.0 s after (past-on clauses v x state kind s sound p.0 e) f,
        before_here xs h.1 p.1,
      )

      given-more : Given (cases ++ here ∷ []) s
      given-more = record {
        each = each_more (Satisfying v clauses) cases here given.each satisfies;
        past = each_more (λ case. Past clauses v case s) cases here behind (inr (settled-has v s after.was_open, f));
        ascending = pairs-more Before cases here given.ascending (before_here cases given.each given.past);
        others = λ a sat. ⊎_elim (λ x. inl (some_more (λ case. case ≡ a) cases here (inl x)))
            (λ w. ⊎_elim (λ d. inl (some_more (λ case. case ≡ a) cases here (inr d)))
            (λ d. inr (each_more (λ case. Before case a) cases here w.0 d.0, d.1))
            (found-or-waits clauses v a sat s after (follows_on clauses v a sat state kind s w.1 e) f))
            (given.others a sat);
      }

  reached-given : {cases : List (List ℕ)} {state : State} → Reached clauses v Settles cases state → Given cases state
  reached-given all-open = given-fresh
  reached-given (on {cases = cases} {state = state} {state' = s} {kind = kind} r e n) =
      given-on cases state kind s (reached-sound clauses v ranged Settles r) (reached-given r) e n
  reached-given (gives {cases = cases} {state = state} {state' = s} {kind = kind} r e f g) =
      subst (λ case. Given (cases ++ case ∷ []) s) g
      (given-more cases state kind s (reached-sound clauses v ranged Settles r) (reached-given r) e f)

  -- what was given is listed
  pub reached-lists : {cases : List (List ℕ)} {state : State} → Reached clauses v Settles cases state
      → Lists (Satisfying v clauses) cases
  reached-lists {cases} r =
      let g = reached-given r in
      record {
        each = g.each;
        ascending = g.ascending;
        different = ascending-different cases g.ascending;
        others_later = λ a sat. ⊎_elim inl (λ w. inr w.0) (g.others a sat);
      }

  -- and is all, where no step is left
  pub reached-all : {cases : List (List ℕ)} {state : State} → Reached clauses v Settles cases state
      → first_step clauses v state ≡ end_none
      → (a : List ℕ) → Satisfying v clauses a → Some (λ case. case ≡ a) cases
  reached-all {cases} {state} r e a sat =
      ⊎_elim (λ x. x) (λ w. absurd (waits-not-none clauses v a sat state w.1 e)) ((reached-given r).others a sat)

-- where a call for the next leads from a state that is reached
module _ (clauses : List (List ℤ)) (v : ℕ) (Gives : List ℕ → List ℕ → Type 0) (cases : List (List ℕ)) where
  -- reached with one case more where the rules end with "found", and with these elsewhere
  record Leads (s : State) : Type 0 where
    elsewhere : (next clauses v s ≡ end_found → ⊥) → Reached clauses v Gives cases s
    found_there : next clauses v s ≡ end_found → (case : List ℕ) → Gives (values_of v s) case
        → Reached clauses v Gives (cases ++ case ∷ []) s

  leads-first : (state : State) → Reached clauses v Gives cases state → (kind : Kind) (s : State)
      → first_step clauses v state ≡ step kind s → Leads s
  leads-first state r kind s e = record { elsewhere = λ n. on r e n; found_there = λ f case g. gives r e f g }

  not_found : (state : State) (kind : Kind) (s : State) → next clauses v state ≡ step kind s
      → next clauses v state ≡ end_found → ⊥
  not_found state kind s d e = let z : ◌≡◌ {A = ℕ} 0 1 = cc in omega arith

  leads_keeps : (state : State) (kind : Kind) (s : State) → Leads state → next clauses v state ≡ step kind s → Leads s
  leads_keeps state kind s l e =
      let n = not_found state kind s e in
      leads-first state (l.elsewhere n) kind s (first-other clauses v state n ∙ e)

  module _ (n : ℕ) (t t' : Steps) (state : State) (r : Reached clauses v Gives cases state) where
    ends : (end : End) → following_run clauses v n t state ≡ end → FollowEnds clauses v Leads state end
    ends end e = follow-ends clauses v Leads leads_keeps n t state end (leads-first state r) e

    pub found-reached : (s : State) → following_run clauses v n t state ≡ was_found t' s → (case : List ℕ)
        → Gives (values_of v s) case
        → Reached clauses v Gives (cases ++ case ∷ []) s
    unfolding FollowEnds
    found-reached s e case g = let h = ends (was_found t' s) e in h.0.found_there h.1 case g

    pub spent-reached : (s : State) → following_run clauses v n t state ≡ was_spent t' s → Reached clauses v Gives cases s
    unfolding FollowEnds
    spent-reached s e = ⊎_elim (λ d. rw d r) (λ d. d.0.elsewhere d.1) (ends (was_spent t' s) e)

    -- "none" is where no step is left
    pub none-reached : following_run clauses v n t state ≡ was_none t'
        → (s : State) × Reached clauses v Gives cases s × (first_step clauses v s ≡ end_none)
    unfolding FollowEnds
    none-reached e =
        ⊎_elim (λ d. (state, r, d))
        (λ d. let f = no_end d.0 d.2 in (d.0, d.1.elsewhere f, first-other clauses v d.0 f ∙ d.2))
        (ends (was_none t') e)
      where
        no_end : (s : State) → next clauses v s ≡ end_none → next clauses v s ≡ end_found → ⊥
        no_end s d f = let z : ◌≡◌ {A = ℕ} 0 1 = cc in omega arith

-- the same states are reached with what a map makes of the cases, where each "found" gives what is mapped
pub reached-of-map : (clauses : List (List ℤ)) (v : ℕ) (Gives : List ℕ → List ℕ → Type 0) (f : List ℕ → List ℕ)
    → ((s : State) → next clauses v s ≡ end_found → (case : List ℕ) → Gives (values_of v s) case
    → f (map settle (values_of v s)) ≡ case)
    → {cases : List (List ℕ)} {state : State} → Reached clauses v Gives cases state
    → (given : List (List ℕ)) × Reached clauses v Settles given state × (map f given ≡ cases)
reached-of-map clauses v Gives f same all-open = ([], all-open, refl)
reached-of-map clauses v Gives f same (on r e n) =
    let h = reached-of-map clauses v Gives f same r in (h.0, on h.1 e n, h.2)
reached-of-map clauses v Gives f same (gives {state' = s} {case = case} r e d g) =
    let h = reached-of-map clauses v Gives f same r in
    let here = map settle (values_of v s) in (
      h.0 ++ here ∷ [],
      gives h.1 e d refl,
      map-append f h.0 (here ∷ [])
          ∙ (λ i. h.2 i ++ same s d case g i ∷ []),
    )
