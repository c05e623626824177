-- Calls from a fresh start on give every case, each once and in ascending order, whichever calls take the steps.
use mathlib.Core.Path.{◌≡◌, refl, sym, ◌∙◌, ap, subst}
use mathlib.Core.Bool.{true, false}
use mathlib.Core.List.{List, [], ◌∷◌, ◌++◌, append_assoc, append-nil}
use Prim.Native.Nat.{ℕ, zero, suc, ◌+◌, ◌≤◌}
use native.Mathlib.Omega.{arith}
use native.Mathlib.Nat.{min-le_right}
use lib.IntN.{ℤ}
use lib.ListN.{length, take, drop, length-take, take-append-drop, get_or-replicate}
use borrow.Author.Tests.{le-ltb}
use Rattle.prelude.specs.Order.{Some, Lists}
use Rattle.clause_list.specs.ClauseList.{clauses_of, is_list}
use Rattle.clause_list.proofs.Laws.{list-some-variable}
use Rattle.search_rules.specs.declared.Steps.{Steps}
use Rattle.search_rules.specs.Rules.{State, values_of, end_none, end_found, next}
use Rattle.search_rules.specs.Run.{zeros, total, End, was_none, was_found, run}
use Rattle.search_rules.specs.Held.{steps_of, position_of, step_limit, no_state, Stored}
use Rattle.search_rules.specs.Following.{first_step, FollowingEnded}
use Rattle.search_rules.specs.Reached.{Settles, Reached, all-open}
use Rattle.search_rules.proofs.Ranges.{Ranged, fine-list, ranged}
use Rattle.search_rules.proofs.Booleans.{or-both-false}
use Rattle.search_rules.proofs.Invariant.{length-values}
use Rattle.search_rules.proofs.Trails.{length-trail}
use Rattle.search_rules.proofs.Ending.{following-ends}
use Rattle.search_rules.proofs.StateHeld.{read-stored, stored-passes}
use Rattle.search_rules.proofs.Passed.{sound-fresh}
use Rattle.search_rules.proofs.Reaching.{reached-sound, reached-lists, reached-all, found-reached}
use Rattle.search_rules.proofs.Reaching.{spent-reached, none-reached}
use Rattle.search_rules.proofs.Found.{found-ended}
use Rattle.search_rules.proofs.Following.{follow-resumes}
use Rattle.search.specs.Answers.{Answer, found, none, spent, refused, answer_at, values_at, trail_at, outcome}
use Rattle.search.specs.Answers.{search_run}
use Rattle.search.specs.Resumed.{Resumption, left, finish_at, start_of, declines_state, resumed_run, resumption}
use Rattle.search.specs.Resuming.{with_record}
use Rattle.search.specs.Following.{followed_run, OpenOrFalse, FollowingTaken}
use Rattle.search.specs.Every.{Standing, left_by, Fresh, next_call, resumed_call, Calls, no_call, finds, spends}
use Rattle.search.specs.Every.{Stands, Passes}
use Rattle.search.specs.Every.{EveryCall, EveryAssignment}
use Rattle.search.proofs.Outcomes.{was-none, was-found, was-spent, found-values}
use Rattle.search.proofs.Theorems as search
use Rattle.search.proofs.Records.{end-recorded, search-open}
use Rattle.search.proofs.Resumptions as resumed
use Rattle.search.proofs.ResumedCalls.{answered, alike}
use Rattle.search.proofs.Resuming.{fresh_start}
use Rattle.search.proofs.FollowingCalls.{following-calls, is_found}
use Rattle.search.proofs.LeftStates.{stored, left_values, left_trail, holds-left}

take_within : {A : Type 0} (n : ℕ) (xs : List A) → length (take n xs) ≡ n → n ≤ length xs
take_within n xs e = omega (arith, length-take n xs, min-le_right n (length xs))

-- a fresh start holds the state with nothing set
fresh-held : (v : ℕ) (at : Standing) → Fresh v at
    → Stored v [] (take v at.values) (take v at.trail) at.position.length
fresh-held v at f = rw f.zeros (stored v [] (sound-fresh v).was_open at.values at.trail f.values_open
    f.trail_open)

-- a call over slices that hold a state: room, and no 14 while its steps can be counted
module _ (v : ℕ) (at : Standing) (state : State)
    (held : Stored v state (take v at.values) (take v at.trail) at.position.length) where
  is_wide : v ≤ length at.values
  is_wide = take_within v at.values (ap length held.values_are ∙ length-values v state)

  is-deep : v ≤ length at.trail
  is-deep = take_within v at.trail (ap length held.trail_is ∙ length-trail v state)

  passes-state : no_state v (take v at.values) (take v at.trail) at.position.length ≡ false
  passes-state = stored-passes v state _ _ _ held

  not-declined : (n : ℕ) → total (steps_of at.position) + n ≤ step_limit
      → declines_state v at.values at.trail at.position n ≡ false
  not-declined n few = or-both-false _ _ passes-state (le-ltb _ _ few)

  reads : start_of v at.values at.trail at.position ≡ state
  reads = read-stored v state _ _ _ held

-- over a list, of cases with a property that what is given lists, and all of it where no step is left
module _ (list : List ℤ) (v : ℕ) (is : is_list v list ≡ true) (Gives : List ℕ → List ℕ → Type 0) where
  abbrev clauses : List (List ℤ)
  clauses = clauses_of list

  abbrev in-range : Ranged v clauses
  in-range = ranged v list (fine-list v list is)

  abbrev At : List (List ℕ) → Standing → Type 0
  At = Stands list v Gives

  -- a call there is taken while its steps can be counted, and ends
  module _ (cases : List (List ℕ)) (at : Standing) (here : At cases at) where
    pub taken-there : (n : ℕ) → total (steps_of at.position) + n ≤ step_limit
        → FollowingTaken list v at.values at.trail at.position n
    taken-there n few =
        following-calls.takes list v at.values at.trail at.position n is (is_wide v at _ here.held)
        (is-deep v at _ here.held)
        (not-declined v at _ here.held n few)

    pub ends_there : (n : ℕ) × FollowingEnded clauses v n (start_of v at.values at.trail at.position)
    ends_there =
        rw (reads v at _ here.held)
        (following-ends clauses v in-range here.state
        (reached-sound clauses v in-range Gives here.reached).was_open)

  fresh-stands : (at : Standing) → Fresh v at → At [] at
  fresh-stands at f = record { state = []; reached = all-open; held = fresh-held v at f }

  -- where a run leads
  stands-left : (cases : List (List ℕ)) (a : Answer) (t : Steps) (s : State) (values : List ℕ) (trail : List ℤ)
      (call : Resumption)
      → call ≡ left a (left_values v s values trail) (left_trail v s values trail) (position_of (length s) t)
      → Reached clauses v Gives cases s → At cases (left_by call)
  stands-left cases a t s values trail call q r = record {
    state = s;
    reached = r;
    held = rw q (holds-left v s values trail (reached-sound clauses v in-range Gives r).was_open);
  }

  -- a call that, where it is not refused, ends as the run of a call for the next does
  module _ (P : List ℕ → Type 0) (all : (cases : List (List ℕ)) (state : State) → Reached clauses v Gives cases state
      → first_step clauses v state ≡ end_none → (case : List ℕ) → P case → Some (λ c. c ≡ case) cases)
      (cases : List (List ℕ)) (state : State) (reached : Reached clauses v Gives cases state) (values : List ℕ)
      (trail : List ℤ) (t : Steps) (n : ℕ)
      (call : Resumption) (ends : (a : Answer) → ((k : ℕ) → refused k ≡ a → ⊥) → call.outcome.answer ≡ a
      → call ≡ finish_at v values trail (followed_run list v t state n)) where
    abbrev end : End
    end = followed_run list v t state n

    ended : (a : Answer) → ((k : ℕ) → refused k ≡ a → ⊥) → call.outcome.answer ≡ a → answer_at end ≡ a
    ended a h e = sym (ap (λ r. r.outcome.answer) (ends a h e)) ∙ e

    all_given : (steps : Steps) → call.outcome.answer ≡ none steps → (case : List ℕ) → P case
        → Some (λ c. c ≡ case) cases
    all_given steps e =
        let w = was-none end steps (ended (none steps) (λ k d. let z : ◌≡◌ {A = ℕ} 0 1 = cc in omega arith) e) in
        let r = none-reached clauses v Gives cases n t steps state reached w in
        all cases r.0 r.1 r.2

    one_more : (steps : Steps) → call.outcome.answer ≡ found steps → (case : List ℕ)
        → Gives (take v call.outcome.values) case
        → At (cases ++ case ∷ []) (left_by call)
    unfolding answer_at values_at trail_at
    one_more steps e case g =
        let no : (k : ℕ) → refused k ≡ found steps → ⊥ = λ k d. let z : ◌≡◌ {A = ℕ} 0 1 = cc in omega arith in
        let w = was-found end steps (ended (found steps) no e) in
        let q = ends (found steps) no e ∙ ap (finish_at v values trail) w.1 in
        let shows : take v call.outcome.values ≡ values_of v w.0 =
        ap (λ o. take v o.outcome.values) q ∙ found-values v w.0 values in
        stands-left (cases ++ case ∷ []) (found steps) steps w.0 values trail call q
        (found-reached clauses v Gives cases n t steps state reached w.0 w.1 case
        (subst (λ vs. Gives vs case) shows g))

    goes_on : (steps : Steps) → call.outcome.answer ≡ spent steps → At cases (left_by call)
    unfolding answer_at values_at trail_at
    goes_on steps e =
        let no : (k : ℕ) → refused k ≡ spent steps → ⊥ = λ k d. let z : ◌≡◌ {A = ℕ} 0 1 = cc in omega arith in
        let w = was-spent end steps (ended (spent steps) no e) in
        stands-left cases (spent steps) steps w.0 values trail call
        (ends (spent steps) no e ∙ ap (finish_at v values trail) w.1)
        (spent-reached clauses v Gives cases n t steps state reached w.0 w.1)

    starts_over : (steps : Steps) → call.outcome.answer ≡ none steps → At [] (left_by call)
    unfolding answer_at values_at trail_at
    starts_over steps e =
        let no : (k : ℕ) → refused k ≡ none steps → ⊥ = λ k d. let z : ◌≡◌ {A = ℕ} 0 1 = cc in omega arith in
        let w = was-none end steps (ended (none steps) no e) in
        stands-left [] (none steps) steps [] values trail call
        (ends (none steps) no e ∙ ap (finish_at v values trail) w) all-open

    passes : Passes list v Gives P cases call
    passes = record { all_given = all_given; one_more = one_more; goes_on = goes_on; starts_over = starts_over }

  -- a search that begins is a call for the next from all open
  not_full : next clauses v [] ≡ end_found → ⊥
  not_full e =
      (found-ended clauses v [] e).1 0 (omega (arith, length-values v [], list-some-variable v list is))
      (unfold values_of in get_or-replicate v 0 2 2 (list-some-variable v list is))

  searches : (values : List ℕ) (trail : List ℤ) (n : ℕ) (a : Answer) → ((k : ℕ) → refused k ≡ a → ⊥)
      → (outcome list v values trail n).answer ≡ a
      → with_record v (outcome list v values trail n) ≡ finish_at v values trail (followed_run list v zeros [] n)
  searches values trail n a h e =
      let r = (search.answered list v values trail n a h e).0 in
      ap (with_record v) r.ends
      ∙ end-recorded v trail values (search_run list v n) (search-open list v n is)
      ∙ ap (finish_at v values trail) (sym (follow-resumes clauses v n zeros [] not_full))

  follows : (cases : List (List ℕ)) (at : Standing) (here : At cases at) (n : ℕ) (a : Answer)
      → ((k : ℕ) → refused k ≡ a → ⊥)
      → (next_call list v at n).outcome.answer ≡ a
      → next_call list v at n ≡ finish_at v at.values at.trail
      (followed_run list v (steps_of at.position) here.state n)
  follows cases at here n a h e =
      (answered (followed_run list v) list v at.values at.trail at.position n a h e).0.ends
      ∙ ap (λ s. finish_at v at.values at.trail (followed_run list v (steps_of at.position) s n))
      (reads v at _ here.held)

  -- on a full assignment a resumed call ends at once
  run-full : (n : ℕ) (t : Steps) (state : State) → next clauses v state ≡ end_found
      → run clauses v n t state ≡ was_found t state
  unfolding run
  run-full zero t state e = rw (e, run) refl
  run-full (suc n) t state e = rw (e, run) refl

  again : (cases : List (List ℕ)) (at : Standing) (n : ℕ) → At cases at → (OpenOrFalse list v (take v at.values) → ⊥)
      → total (steps_of at.position) + n ≤ step_limit
      → resumed_call list v at n ≡ left (found (steps_of at.position)) at.values at.trail at.position
  unfolding answer_at values_at trail_at
  again cases at n here full few =
      let p = at.position in
      let s = here.state in
      let h = here.held in
      let f : next clauses v s ≡ end_found = is_found list v s is
      (subst (λ vs. OpenOrFalse list v vs → ⊥) h.values_are full) in
      let values-stay : left_values v s at.values at.trail ≡ at.values =
      ap (λ vs. vs ++ drop v at.values) (sym h.values_are) ∙ take-append-drop v at.values in
      let trail-stays : left_trail v s at.values at.trail ≡ at.trail =
      ap (λ ts. ts ++ drop v at.trail) (sym h.trail_is) ∙ take-append-drop v at.trail in
      resumed.runs (resumed_run list v) list v at.values at.trail p n is (is_wide v at s h) (is-deep v at s h)
      (passes-state v at s h) few
      ∙ ap (λ x. finish_at v at.values at.trail (resumed_run list v (steps_of p) x n)) (reads v at s h)
      ∙ ap (finish_at v at.values at.trail) (run-full n (steps_of p) s f)
      ∙ (λ i. left (found (steps_of p)) (values-stay i) (trail-stays i) (position_of (sym h.used_is i) (steps_of p)))

  -- calls for the next, one after another
  leads : {P : List ℕ → Type 0} → ((cases : List (List ℕ)) (at : Standing) (n : ℕ) → At cases at
      → Passes list v Gives P cases (next_call list v at n)) → (given cases : List (List ℕ)) (at to : Standing)
      → At given at → Calls list v Gives at cases to → At (given ++ cases) to
  leads followed given cases at to here no_call = rw (append-nil given) here
  leads followed given cases at to here (finds {case = case} {cases = rest} n e g calls) =
      rw (append_assoc given (case ∷ []) rest) at
      (leads followed (given ++ case ∷ []) rest _ to ((followed given at n here).one_more _ e case g) calls)
  leads followed given cases at to here (spends n e calls) =
      leads followed given cases _ to ((followed given at n here).goes_on _ e) calls

  pub every_call : (P : List ℕ → Type 0)
      → ((cases : List (List ℕ)) (state : State) → Reached clauses v Gives cases state → Lists P cases)
      → ((cases : List (List ℕ)) (state : State) → Reached clauses v Gives cases state
      → first_step clauses v state ≡ end_none
      → (case : List ℕ) → P case → Some (λ c. c ≡ case) cases) → EveryCall list v Gives P
  every_call P lists all =
      record {
        searched = λ values trail n.
            passes P all [] [] all-open values trail zeros n (with_record v (outcome list v values trail n))
            (searches values trail n);
        fresh = fresh-stands;
        lists = λ cases at here. lists cases here.state here.reached;
        followed = followed;
        resumed = λ cases at n here o.
            subst (Passes list v Gives P cases)
            ((following-calls.calls list v at.values at.trail at.position n).as_resumed o)
            (followed cases at n here);
        found_again = again;
        leads = leads followed;
      }
    where
      followed : (cases : List (List ℕ)) (at : Standing) (n : ℕ) → At cases at
          → Passes list v Gives P cases (next_call list v at n)
      followed cases at n here =
          passes P all cases here.state here.reached at.values at.trail (steps_of at.position) n
          (next_call list v at n)
          (follows cases at here n)

-- "none" of a resumed call: it did not start on a full assignment
pub none-resumed : (list : List ℤ) (v : ℕ) (Gives : List ℕ → List ℕ → Type 0) (P : List ℕ → Type 0)
    → EveryCall list v Gives P
    → (cases : List (List ℕ)) (at : Standing) (n : ℕ) → Stands list v Gives cases at → (steps : Steps)
    → (resumed_call list v at n).outcome.answer ≡ none steps → (case : List ℕ) → P case → Some (λ c. c ≡ case) cases
none-resumed list v Gives P every cases at n here steps e =
    let t = steps_of at.position in
    let s = here.state in
    let r = answered (resumed_run list v) list v at.values at.trail at.position n (none steps)
    (λ k d. let z : ◌≡◌ {A = ℕ} 0 1 = cc in omega arith) e in
    let q = reads v at s here.held in
    let ends : run (clauses_of list) v n t s ≡ was_none steps =
    was-none _ steps (ap (λ x. answer_at (resumed_run list v t x n)) (sym q) ∙ r.1) in
    let other : next (clauses_of list) v s ≡ end_found
    → ⊥ = λ f. not_none steps t s (sym (run-full list v r.0.is_list_ok Gives n t s f) ∙ ends) in
    let same : next_call list v at n ≡ resumed_call list v at n =
    alike (followed_run list v) (resumed_run list v) list v at.values at.trail at.position n
    (λ _. rw q (follow-resumes (clauses_of list) v n t s other)) in
    (every.followed cases at n here).all_given steps (ap (λ x. x.outcome.answer) same ∙ e)
  where
    not_none : (steps t : Steps) (s : State) → was_found t s ≡ was_none steps → ⊥
    not_none steps t s d = let z : ◌≡◌ {A = ℕ} 0 1 = cc in omega arith

pub every-assignment : EveryAssignment
every-assignment list v is =
    let r = ranged v list (fine-list v list is) in
    let some-variable = list-some-variable v list is in
    every_call list v is Settles _ (λ cases state x. reached-lists (clauses_of list) v r some-variable x)
    (λ cases state x e. reached-all (clauses_of list) v r some-variable x e)

-- from a fresh start the first call for the next is that of `search`, with the record that goes with it
abbrev pub SearchBegins : Type 0
SearchBegins = (list : List ℤ) (v : ℕ) (at : Standing) (n : ℕ) → Fresh v at → n ≤ step_limit
    → next_call list v at n ≡ with_record v (outcome list v at.values at.trail n)

pub search-begins : SearchBegins
search-begins list v at n f few =
    alike (followed_run list v) (resumed_run list v) list v at.values at.trail at.position n
    (λ r.
    rw (reads v at [] (fresh-held v at f))
    (follow-resumes (clauses_of list) v n (steps_of at.position) [] (not_full list v r.is_list_ok (λ _ _. Unit {0}))))
    ∙ ap (λ p. resumption list v at.values at.trail p n) f.zeros
    ∙ fresh_start list v at.values at.trail n f.values_open f.trail_open few
