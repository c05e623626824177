-- What the functions of `find_on` have to ensure: the search of a call with no steps, taken up, is that of a call with all the steps.
use mathlib.Core.Path.{◌≡◌, sym, ◌∙◌, ap}
use mathlib.Core.Bool.{true}
use mathlib.Core.Logic.{⊎_elim}
use mathlib.Core.List.{List}
use Prim.Native.Nat.{ℕ, ◌≤◌}
use native.Mathlib.Omega.{arith}
use lib.IntN.{ℤ}
use lib.ListN.{length, take}
use Rattle.clause_list.specs.ClauseList.{is_list}
use Rattle.sheet_rules.specs.Blocks.{sheet_of}
use Rattle.clauses.specs.declared.answer.Size.{Size}
use Rattle.clauses.specs.Answers as count
use Rattle.clauses.specs.Answers.{fits, count_answer, list_after}
use Rattle.clauses.proofs.Answered.{count_fits}
use Rattle.clauses_rules.specs.Whole.{variable_total, word_total}
use Rattle.clauses_rules.proofs.Theorems.{listed}
use Rattle.search_rules.specs.declared.Steps.{Steps}
use Rattle.search_rules.specs.declared.Position.{Position}
use Rattle.search.specs.Answers.{Answer, found, spent, refused, Outcome, outcome}
use Rattle.search.specs.Resumed.{left, resumption}
use Rattle.search.specs.Resuming.{start}
use Rattle.solve_rules.specs.Answers.{instance_after}
use Rattle.solve_rules.specs.Finding.{Slices, slices, instance_for, find_in, finding}
use Rattle.solve_rules.specs.Demand3.{FitSlices}
use Rattle.solve_rules.proofs.Calls.{counts, writes-words}
use Rattle.solve_rules.proofs.Findings.{Declined, Ran, called, instance-kept}
use Rattle.solve.specs.Private.{Left}
use Rattle.onward.specs.Limits.{most_steps}
use Rattle.onward.specs.Private.{Begun, SomeBegun}
use Rattle.search.proofs.OpenSlices.{from-open}

-- the sheet's numbers and the slices fit
pub record Fit (size : Size) (opened : Slices) : Type 0 where
  pub words : size.words ≤ length opened.list
  pub values : size.variables ≤ length opened.values
  pub few : size.variables ≤ 16000

pub fit : (s : List ℕ) (size : Size) (opened : Slices) → count_answer s ≡ fits size.variables size.clauses size.words → SomeBegun s opened
    → Fit size opened
fit s size opened e b =
    let c = count_fits s size.variables size.clauses size.words e in
    let v = c.variables in
    let w = c.words in
    record { words = omega (arith, b.room.list); values = omega (arith, b.room.values); few = omega (arith, c.small) }

-- a call with no steps was spent
pub begins : (s : List ℕ) (lent opened : Slices) (a : Answer) (steps : Steps) → a ≡ spent steps → a ≡ (finding s lent 0).answer
    → opened ≡ (finding s lent 0).left → Begun s lent opened
begins s lent opened a steps e f g = record { steps = steps; spends = sym f ∙ e; leaves = g }

module _ (s : List ℕ) (lent opened : Slices) (b : Begun s lent opened) where
  -- the call was not declined
  ran : Ran s lent 0
  ran =
      ⊎_elim
      (λ (d : Declined s lent 0).
      absurd (let e : refused d.number ≡ spent b.steps = sym (ap (λ x. x.answer) d.is) ∙ b.spends in
      let z : ◌≡◌ {A = ℕ} 0 1 = cc in omega arith))
      (λ r. r) (called s lent 0)

  -- the slices that it left fit as well
  pub still-fit : length opened.list ≡ length lent.list → length opened.values ≡ length lent.values
      → length opened.trail ≡ length lent.trail → length opened.instance ≡ length lent.instance → FitSlices s opened
  still-fit a b c d =
      let r = ran.room in
      record {
        list = omega (arith, r.list);
        values = omega (arith, r.values);
        trail = omega (arith, r.trail);
        instance = omega (arith, r.instance);
      }

  -- counting did not refuse it
  pub not_refused : (n : ℕ) → count_answer s ≡ count.refused n → ⊥
  not_refused n e = let f = counts s ran.limits in let z : ◌≡◌ {A = ℕ} 0 1 = cc in omega arith

  -- nor is it with more steps
  runs : (n : ℕ) → finding s lent n ≡ find_in s (variable_total (sheet_of s)) (word_total (sheet_of s)) lent n
  runs n = ⊎_elim (λ (d : Declined s lent n). absurd (d.unfit ran.limits ran.room)) (λ (r : Ran s lent n). r.is) (called s lent n)

  module _ (v w : ℕ) (variables : v ≡ variable_total (sheet_of s)) (words : w ≡ word_total (sheet_of s)) where
    abbrev written : List ℤ
    written = take w (list_after s lent.list)

    -- the search over the slices that were lent
    abbrev over : ℕ → Outcome
    over n = outcome written v lent.values lent.trail n

    runs-sized : (n : ℕ) → finding s lent n ≡ find_in s v w lent n
    runs-sized n = rw (variables, words) (runs n)

    is_list_ok : is_list v written ≡ true
    is_list_ok =
        let h = ran.limits in
        rw (variables, words)
        (ap (is_list (variable_total (sheet_of s))) (writes-words s h lent.list ran.room.list)
        ∙ listed s h.layout h.accepted h.few_variables h.few_words)

    over-spent : (over 0).answer ≡ spent b.steps
    over-spent = sym (ap (λ x. x.answer) (runs-sized 0)) ∙ b.spends

    opened-are : opened ≡ slices (list_after s lent.list) (over 0).values (over 0).trail lent.instance
    opened-are =
        b.leaves
        ∙ ap (λ x. x.left) (runs-sized 0)
        ∙ ap (λ (a : Answer). slices (list_after s lent.list) (over 0).values (over 0).trail
        (instance_for a s (take v (over 0).values) lent.instance)) over-spent

    -- the search that was taken up came to an answer
    module _ (a : Answer) (values : List ℕ) (trail : List ℤ) (p : Position)
        (went : left a values trail p ≡ resumption (take w opened.list) v opened.values opened.trail start most_steps) where
      abbrev ended : Outcome
      ended = record { answer = a; values = values; trail = trail }

      ended-as-one : ended ≡ over most_steps
      ended-as-one =
          ap (λ r. r.outcome) went
          ∙ ap (λ (x : Slices). (resumption (take w x.list) v x.values x.trail start most_steps).outcome) opened-are
          ∙ from-open written v lent.values lent.trail is_list_ok (rw variables ran.room.values) (rw variables ran.room.trail)
          b.steps over-spent most_steps (omega arith)

      leaves : (instance : List ℕ) → instance ≡ instance_for a s (take v values) opened.instance
          → Left s lent most_steps a (slices opened.list values trail instance)
      leaves instance e =
          let i : instance ≡ (find_in s v w lent most_steps).left.instance =
          e
          ∙ ap (λ (o : Outcome). instance_for o.answer s (take v o.values) opened.instance) ended-as-one
          ∙ ap (λ (x : Slices). instance_for (over most_steps).answer s (take v (over most_steps).values) x.instance) opened-are in
          record {
            answer_is = ap (λ o. o.answer) ended-as-one ∙ sym (ap (λ x. x.answer) (runs-sized most_steps));
            left_is = (λ j. slices (opened-are j).list (ended-as-one j).values (ended-as-one j).trail (i j))
                ∙ sym (ap (λ x. x.left) (runs-sized most_steps));
          }

      -- after "found" the instance is read back
      pub leaves-found : (steps : Steps) → a ≡ found steps → (instance : List ℕ) → instance ≡ instance_after s (take v values) opened.instance
          → Left s lent most_steps a (slices opened.list values trail instance)
      leaves-found steps e instance f =
          leaves instance (f ∙ ap (λ (x : Answer). instance_for x s (take v values) opened.instance) (sym e))

      -- any other end leaves it as it was
      pub leaves_kept : ((steps : Steps) → a ≡ found steps → ⊥) → Left s lent most_steps a (slices opened.list values trail opened.instance)
      leaves_kept h = leaves opened.instance (instance-kept a s (take v values) opened.instance h)
