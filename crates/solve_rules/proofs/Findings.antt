-- A call of `find` declines, and then the sheet or the slices do not fit, or it runs, and then they do.
use mathlib.Core.Path.{◌≡◌, refl, sym, ap, ◌∙◌}
use mathlib.Core.Bool.{Bool, true, false, cond}
use mathlib.Core.Logic.{◌⊎◌, inl, inr, ⊎_elim}
use mathlib.Core.List.{List}
use mathlib.Core.Option.{some}
use Prim.Native.Nat.{ℕ, ◌≤◌}
use native.Mathlib.Omega.{arith}
use lib.Dec.{leb}
use lib.ListN.{length, take}
use borrow.Author.Tests.{leb-true, leb-false, le-leb}
use Rattle.prelude.proofs.Laws.{clash, and_left, and_right, and_both}
use Rattle.sheet_rules.specs.Blocks.{sheet_of}
use Rattle.relational.specs.Cells.{cell_count}
use Rattle.clauses_rules.specs.Whole.{variable_total, word_total}
use Rattle.clauses.specs.Answers as count
use Rattle.clauses.specs.Answers.{count_answer, list_after}
use Rattle.clauses.proofs.Answered.{Counted, count_fits}
use Rattle.search_rules.specs.declared.Steps.{Steps}
use Rattle.search_rules.specs.Run.{total}
use Rattle.search.specs.Answers.{Answer, found, none, spent, refused, steps_in}
use Rattle.search.proofs.Counters.{refused-shows-none, searched-few}
use Rattle.solve_rules.specs.Finding.{Slices, decline, have_room, instance_for, find_in, find_after, finding}
use Rattle.solve_rules.specs.Demand3.{FitsLimits, FitSlices}
use Rattle.solve_rules.proofs.Calls.{counts}

-- room for all, and what it says
module _ (w v cells : ℕ) (lent : Slices) where
  pub record Room : Type 0 where
    pub list : w ≤ length lent.list
    pub values : v ≤ length lent.values
    pub trail : v ≤ length lent.trail
    pub instance : cells ≤ length lent.instance

  pub has_room : have_room w v cells lent ≡ true → Room
  has_room e =
      let f = and_right (leb w (length lent.list)) _ e in
      let g = and_right (leb v (length lent.values)) _ f in
      record {
        list = leb-true _ _ (and_left _ _ e);
        values = leb-true _ _ (and_left _ _ f);
        trail = leb-true _ _ (and_left _ _ g);
        instance = leb-true _ _ (and_right (leb v (length lent.trail)) _ g);
      }

  pub room-enough : Room → have_room w v cells lent ≡ true
  room-enough r =
      and_both _ _ (le-leb _ _ r.list) (and_both _ _ (le-leb _ _ r.values) (and_both _ _ (le-leb _ _ r.trail) (le-leb _ _ r.instance)))

module _ (s : List ℕ) (lent : Slices) (budget : ℕ) where
  pub record Declined : Type 0 where
    pub number : ℕ
    pub is : finding s lent budget ≡ decline number lent
    pub unfit : FitsLimits s → FitSlices s lent → ⊥

  pub record Ran : Type 0 where
    pub limits : FitsLimits s
    pub room : FitSlices s lent
    pub is : finding s lent budget ≡ find_in s (variable_total (sheet_of s)) (word_total (sheet_of s)) lent budget

  room_of : FitSlices s lent → Room (word_total (sheet_of s)) (variable_total (sheet_of s)) (cell_count (sheet_of s)) lent
  room_of k = record { list = k.list; values = k.values; trail = k.trail; instance = k.instance }

  -- counting answers v variables and w words
  module _ (v c w : ℕ) (e : count_answer s ≡ count.fits v c w) where
    abbrev in-room : Bool
    in-room = have_room w v (cell_count (sheet_of s)) lent

    pub is_after : (p q : Bool) → leb w 2147483647 ≡ p → in-room ≡ q
        → finding s lent budget ≡ cond p (cond q (find_in s v w lent budget) (decline 13 lent)) (decline 12 lent)
    unfolding finding
    is_after p q f g =
        ap (λ a. find_after a s lent budget) e
        ∙ ap (λ b. cond b (cond in-room (find_in s v w lent budget) (decline 13 lent)) (decline 12 lent)) f
        ∙ ap (λ b. cond p (cond b (find_in s v w lent budget) (decline 13 lent)) (decline 12 lent)) g

    pub sized : Counted s v c w
    sized = count_fits s v c w e

    by_tests : (p q : Bool) → leb w 2147483647 ≡ p → in-room ≡ q → Declined ⊎ Ran
    by_tests false q f g =
        inl
        (record {
          number = 12;
          is = is_after false q f g;
          unfit = λ h k. let l = leb-false w 2147483647 f in let m = h.few_words in let n = sized.words in omega arith;
        })
    by_tests true false f g =
        inl
        (record {
          number = 13;
          is = is_after true false f g;
          unfit = λ h k. clash in-room (rw (sized.words, sized.variables) (room-enough _ _ _ lent (room_of k))) g;
        })
    by_tests true true f g =
        let r : Room (word_total (sheet_of s)) (variable_total (sheet_of s)) (cell_count (sheet_of s)) lent =
        rw (sized.words, sized.variables) at (has_room w v (cell_count (sheet_of s)) lent g) in
        inr
        (record {
          limits = record {
            layout = sized.layout;
            accepted = sized.accepted;
            few_variables = sized.small;
            few_words = rw sized.words at (leb-true w 2147483647 f);
          };
          room = record { list = r.list; values = r.values; trail = r.trail; instance = r.instance };
          is = is_after true true f g ∙ ap (λ n. find_in s n w lent budget) sized.variables
              ∙ ap (λ n. find_in s (variable_total (sheet_of s)) n lent budget) sized.words;
        })

  pub by-counting : (a : count.Answer) → count_answer s ≡ a → Declined ⊎ Ran
  unfolding finding
  by-counting (count.refused n) e =
      inl
      (record {
        number = n;
        is = ap (λ a. find_after a s lent budget) e;
        unfit = λ h k. let d = counts s h in let z : ◌≡◌ {A = ℕ} 0 1 = cc in omega arith;
      })
  by-counting (count.fits v c w) e = by_tests v c w e (leb w 2147483647) (have_room w v (cell_count (sheet_of s)) lent) refl refl

  pub called : Declined ⊎ Ran
  called = by-counting (count_answer s) refl

  -- the steps are at most the budget's
  pub found-few : (steps : Steps) → steps_in (finding s lent budget).answer ≡ some steps → total steps ≤ budget
  found-few steps e =
      ⊎_elim
      (λ (d : Declined). absurd (refused-shows-none d.number steps (ap (λ x. steps_in x.answer) (sym d.is) ∙ e)))
      (λ (r : Ran).
      searched-few (take (word_total (sheet_of s)) (list_after s lent.list)) (variable_total (sheet_of s)) lent.values lent.trail budget steps
      (ap (λ x. steps_in x.answer) (sym r.is) ∙ e))
      called

  -- "found" is no answer of a call that declines
  pub found-fits : (steps : Steps) → (finding s lent budget).answer ≡ found steps → FitsLimits s
  found-fits steps e =
      ⊎_elim
      (λ (d : Declined).
      let f : refused d.number ≡ found steps = ap (λ x. x.answer) (sym d.is) ∙ e in
      let z : ◌≡◌ {A = ℕ} 0 1 = cc in
      absurd (omega arith))
      (λ (r : Ran). r.limits)
      called

-- without a "found" the instance stays
pub instance-kept : (a : Answer) (s values instance : List ℕ) → ((steps : Steps) → a ≡ found steps → ⊥)
    → instance ≡ instance_for a s values instance
instance-kept (found steps) s values instance h = absurd (h steps refl)
instance-kept (none steps) s values instance h = refl
instance-kept (spent steps) s values instance h = refl
instance-kept (refused n) s values instance h = refl
