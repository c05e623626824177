-- The loop of `every`: the calls made so far.
use mathlib.Core.Path.{◌≡◌, refl, sym, ◌∙◌, subst}
use mathlib.Core.Bool.{Bool, true, false}
use mathlib.Core.Logic.{◌⊎◌, ⊎_elim, inl, inr}
use mathlib.Core.List.{List, [], ◌∷◌, ◌++◌, map}
use Prim.Native.Nat.{ℕ, ◌+◌}
use native.Mathlib.Omega.{arith}
use lib.IntN.{ℤ}
use lib.ListN.{length, take, length-append}
use Rattle.text.specs.Texts.{Prints}
use Rattle.search_rules.specs.declared.Steps.{Steps}
use Rattle.search_rules.specs.Rules.{settle}
use Rattle.search_rules.specs.Reached.{Settles}
use Rattle.search.specs.Answers.{Answer, found, none, spent, refused}
use Rattle.search.specs.Resumed.{Resumption}
use Rattle.search.specs.Every.{Standing, left_by, next_call, Calls, no_call, finds, spends}
use Rattle.listing.specs.Printed.{is_found, Shown, shown}
use Rattle.console_every.specs.Listed.{AllFound, Listed}

-- where the loop stands, with so many calls left
pub record Loop (list : List ℤ) (v : ℕ) (at to : Standing) (left : ℕ) : Type 0 where
  pub cases : List (List ℕ)
  pub calls : Calls list v Settles at cases to
  pub all_found : AllFound calls
  pub counted : length cases + left ≡ 18446744073709

was-found : (a : Answer) → is_found a ≡ true → (steps : Steps) × (a ≡ found steps)
was-found (found steps) h = (steps, refl)
was-found (none steps) h = absurd (let z : ◌≡◌ {A = ℕ} 0 1 = cc in omega arith)
was-found (spent steps) h = absurd (let z : ◌≡◌ {A = ℕ} 0 1 = cc in omega arith)
was-found (refused k) h = absurd (let z : ◌≡◌ {A = ℕ} 0 1 = cc in omega arith)

module _ (list : List ℤ) (v : ℕ) where
  pub begins : (at : Standing) → Loop list v at at 18446744073709
  begins at = record { cases = []; calls = no_call; all_found = tt; counted = refl }

  -- one more call
  abbrev call : Standing → Resumption
  call to = next_call list v to 1000000

  -- and its case
  abbrev case : Standing → List ℕ
  case to = map settle (take v (call to).outcome.values)

  -- one found more
  further : {at to : Standing} {cases : List (List ℕ)} (steps : Steps) → Calls list v Settles at cases to
      → (call to).outcome.answer ≡ found steps → Calls list v Settles at (cases ++ case to ∷ []) (left_by (call to))
  further steps no_call e = finds 1000000 e refl no_call
  further steps (finds m d g others) e = finds m d g (further steps others e)
  further steps (spends m d others) e = spends m d (further steps others e)

  further-found : {at to : Standing} {cases : List (List ℕ)} (steps : Steps) (calls : Calls list v Settles at cases to)
      (e : (call to).outcome.answer ≡ found steps) → AllFound calls → AllFound (further steps calls e)
  unfolding further
  further-found steps no_call e h = (refl, tt)
  further-found steps (finds m d g others) e h = (h.0, further-found steps others e h.1)
  further-found steps (spends m d others) e h = absurd h

  module _ {at to : Standing} {before : ℕ} (l : Loop list v at to before) (input instance : List ℕ) where
    -- what a call shows
    abbrev is : ℕ → Shown
    is n = shown input list v to n instance

    is-left : (n : ℕ) → (is n).left ≡ left_by (next_call list v to n)
    unfolding shown
    is-left n = refl

    is-more : (n : ℕ) → (is n).more ≡ is_found (next_call list v to n).outcome.answer
    unfolding shown
    is-more n = refl

    -- a call that found a case
    pub goes_on : {left : Standing} {after : ℕ} {more : Bool} → more ≡ (is 1000000).more → left ≡ (is 1000000).left
        → more ≡ true → before ≡ after + 1 → Loop list v at left after
    goes_on {left} {after} {more} m d h s =
        let w = was-found (call to).outcome.answer (sym (m ∙ is-more 1000000) ∙ h) in
        subst (λ (x : Standing). Loop list v at x after) (sym (d ∙ is-left 1000000))
        (record {
          cases = l.cases ++ case to ∷ [];
          calls = further w.0 l.calls w.1;
          all_found = further-found w.0 l.calls w.1 l.all_found;
          counted = omega (arith, l.counted, length-append l.cases (case to ∷ []));
        })

    -- the last call
    pub ended : (n : ℕ) {r more : Bool} {text after : List ℕ} {bytes : ℕ} → more ≡ (is n).more
        → Prints (is n).text text after bytes → (n ≡ 1000000) ⊎ ((n ≡ 0) × (before ≡ 0))
        → (r ≡ true → (more ≡ false) ⊎ (n ≡ 0)) → Listed input list v at r after
    ended n {r} {more} {text} {after} {bytes} m shows steps ends = record {
      cases = l.cases;
      to = to;
      calls = l.calls;
      all_found = l.all_found;
      n = n;
      steps = ⊎_elim inl (λ h. inr (h.0, omega (arith, l.counted, h.1))) steps;
      ends = λ d. subst (λ (b : Bool). (b ≡ false) ⊎ (n ≡ 0)) (m ∙ is-more n) (ends d);
      instance = instance;
      before = text;
      bytes = bytes;
      shows = shows;
    }
