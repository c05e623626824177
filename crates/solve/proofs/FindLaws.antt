-- What the functions of `find` have to ensure, case by case.
use mathlib.Core.Path.{◌≡◌, refl, sym, ap, ◌∙◌, subst₂}
use mathlib.Core.Bool.{true, false}
use mathlib.Core.Logic.{⊎_elim}
use mathlib.Core.List.{List, ◌++◌, map}
use Prim.Native.Nat.{ℕ, suc, ◌≤◌, ◌<◌}
use native.Mathlib.Omega.{arith}
use lib.IntN.{ℤ}
use lib.ListN.{take, drop}
use borrow.Author.Tests.{le-leb, lt-leb}
use Rattle.prelude.proofs.Laws.{decided}
use Rattle.sheet_rules.specs.Blocks.{sheet_of}
use Rattle.relational.specs.Cells.{cell_count}
use Rattle.clauses.specs.declared.answer.Size.{Size}
use Rattle.clauses.specs.Answers as count
use Rattle.clauses.specs.Answers.{count_answer, list_after}
use Rattle.clauses.proofs.Answered.{count_fits}
use Rattle.clauses_rules.proofs.Match.{cells-variables}
use Rattle.search_rules.specs.declared.Steps.{Steps}
use Rattle.search_rules.specs.Rules.{settle}
use Rattle.search.specs.Answers.{Answer, found, refused, Outcome, outcome}
use Rattle.solve_rules.specs.Answers.{instance_after}
use Rattle.solve_rules.specs.Finding.{Slices, slices, Finding, decline, have_room, instance_for, find_in, find_after, finding}
use Rattle.solve_rules.specs.Finds.{Finds}
use Rattle.solve.specs.Private.{Fitting, Left}
use Rattle.solve_rules.proofs.Demand3.{found-instance}
use Rattle.solve_rules.proofs.Findings.{Room, has_room, Declined, Ran, is_after, called, instance-kept}
use Rattle.solve_rules.proofs.Finds.{finds}

module _ (s : List ℕ) (lent : Slices) (budget : ℕ) where
  -- a finding, as it is ensured
  left-of : (f : Finding) → finding s lent budget ≡ f → Left s lent budget f.answer f.left
  left-of f e = record { answer_is = ap (λ x. x.answer) (sym e); left_is = ap (λ x. x.left) (sym e) }

  pub counting-declines : (n : ℕ) → count_answer s ≡ count.refused n → Left s lent budget (refused n) lent
  unfolding finding
  counting-declines n e = left-of (decline n lent) (ap (λ a. find_after a s lent budget) e)

  module _ (v c w : ℕ) (e : count_answer s ≡ count.fits v c w) where
    pub too-many-words : 2147483647 < w → Left s lent budget (refused 12) lent
    too-many-words h = left-of (decline 12 lent) (is_after s lent budget v c w e false _ (lt-leb w 2147483647 h) refl)

    pub too_short : w ≤ 2147483647 → (Room w v (cell_count (sheet_of s)) lent → ⊥) → Left s lent budget (refused 13) lent
    too_short h short =
        ⊎_elim
        (λ p. absurd (short (has_room w v (cell_count (sheet_of s)) lent p)))
        (λ p. left-of (decline 13 lent) (is_after s lent budget v c w e true false (le-leb w 2147483647 h) p))
        (decided (have_room w v (cell_count (sheet_of s)) lent))

  -- what was ensured means demand 3 of the call
  pub means : (a : Answer) (left : Slices) → Left s lent budget a left → Finds s lent budget a left
  means a left h = subst₂ (λ (x : Answer) (y : Slices). Finds s lent budget x y) (sym h.answer_is) (sym h.left_is) (finds s lent budget)

-- the sheet fits the limits and the slices fit
pub fitting : (s : List ℕ) (lent : Slices) (size : Size) (cells : ℕ)
    → count_answer s ≡ count.fits size.variables size.clauses size.words → cells ≡ cell_count (sheet_of s)
    → size.words ≤ 2147483647 → Room size.words size.variables cells lent → Fitting s size cells lent
fitting s lent size cells e f h r =
    let d = count_fits s size.variables size.clauses size.words e in
    let p = d.words in
    let q = d.variables in
    record {
      limits =
          record {
            layout = d.layout;
            accepted = d.accepted;
            few_variables = d.small;
            few_words = omega arith;
          };
      room =
          record {
            list = omega (arith, r.list);
            values = omega (arith, r.values);
            trail = omega (arith, r.trail);
            instance = omega (arith, r.instance);
          };
      variables = q;
      words = p;
      cells_are = f;
    }

-- a variable for each cell, and variable 1
pub cells-below : (s : List ℕ) (lent : Slices) (size : Size) (cells : ℕ) → Fitting s size cells lent → suc cells ≤ size.variables
cells-below s lent size cells f = omega (arith, f.variables, f.cells_are, cells-variables (sheet_of s))

module _ (s : List ℕ) (lent : Slices) (budget : ℕ) (size : Size) (cells : ℕ) (f : Fitting s size cells lent) where
  abbrev v : ℕ
  v = size.variables

  abbrev w : ℕ
  w = size.words

  -- the search over a list
  abbrev over : List ℤ → Outcome
  over list = outcome (take w list) v lent.values lent.trail budget

  runs : finding s lent budget ≡ find_in s v w lent budget
  runs =
      ⊎_elim
      (λ (d : Declined s lent budget). absurd (d.unfit f.limits f.room))
      (λ (r : Ran s lent budget). rw (f.variables, f.words) r.is)
      (called s lent budget)

  found_after : (steps : Steps) → (over (list_after s lent.list)).answer ≡ found steps
      → instance_after s (take v (over (list_after s lent.list)).values) lent.instance
      ≡ take cells (drop 1 (map settle (take v (over (list_after s lent.list)).values))) ++ drop cells lent.instance
  found_after = rw (f.variables, f.words, f.cells_are) (found-instance s lent f.limits f.room budget)

  -- what writing and search left
  module _ (list : List ℤ) (values : List ℕ) (trail : List ℤ) (a : Answer) (written : list ≡ list_after s lent.list)
      (answered : a ≡ (over list).answer) (valued : values ≡ (over list).values) (trailed : trail ≡ (over list).trail) where
    same : over list ≡ over (list_after s lent.list)
    same = ap over written

    answer_is : a ≡ (over (list_after s lent.list)).answer
    answer_is = answered ∙ ap (λ o. o.answer) same

    values_are : values ≡ (over (list_after s lent.list)).values
    values_are = valued ∙ ap (λ o. o.values) same

    trail_is : trail ≡ (over (list_after s lent.list)).trail
    trail_is = trailed ∙ ap (λ o. o.trail) same

    leaves : (instance : List ℕ) → instance ≡ (find_in s v w lent budget).left.instance
        → Left s lent budget a (slices list values trail instance)
    leaves instance e =
        record {
          answer_is = answer_is ∙ ap (λ x. x.answer) (sym runs);
          left_is = (λ i. slices (written i) (values_are i) (trail_is i) (e i)) ∙ ap (λ x. x.left) (sym runs);
        }

    pub leaves-found : (steps : Steps) → a ≡ found steps → (instance : List ℕ)
        → instance ≡ take cells (drop 1 (map settle (take v values))) ++ drop cells lent.instance
        → Left s lent budget a (slices list values trail instance)
    leaves-found steps e instance g =
        let o = over (list_after s lent.list) in
        let p : o.answer ≡ found steps = sym answer_is ∙ e in
        leaves instance
        (g
        ∙ ap (λ (xs : List ℕ). take cells (drop 1 (map settle (take v xs))) ++ drop cells lent.instance) values_are
        ∙ sym (found_after steps p)
        ∙ ap (λ (x : Answer). instance_for x s (take v o.values) lent.instance) (sym p))

    -- any other end leaves the instance as it was
    pub leaves_kept : ((steps : Steps) → a ≡ found steps → ⊥) → Left s lent budget a (slices list values trail lent.instance)
    leaves_kept h =
        leaves lent.instance
        (instance-kept (over (list_after s lent.list)).answer s _ lent.instance (λ steps e. h steps (answer_is ∙ e)))
