-- One call for the next, and what is shown of it.
use mathlib.Core.Path.{◌≡◌, refl, sym, ap, ◌∙◌}
use mathlib.Core.Bool.{Bool, true, false}
use mathlib.Core.List.{List}
use mathlib.Core.Option.{some}
use Prim.Native.Nat.{ℕ, ◌≤◌}
use native.Mathlib.Omega.{arith}
use lib.IntN.{ℤ}
use lib.ListN.{length, take}
use Rattle.text.specs.Puts.{Put}
use Rattle.text.specs.Texts.{Prints}
use Rattle.text.proofs.Puts.{put_as, prints, counts}
use Rattle.sheet_rules.specs.Blocks.{sheet_of}
use Rattle.sheet_rules.specs.Reading.{reading}
use Rattle.search_rules.specs.declared.Steps.{Steps}
use Rattle.search_rules.specs.declared.Position.{Position}
use Rattle.search_rules.specs.Run.{total}
use Rattle.search_rules.specs.Held.{step_limit}
use Rattle.search.specs.Answers.{Answer, found, none, spent, refused, steps_in}
use Rattle.search.specs.Resumed.{Resumption, left}
use Rattle.search.specs.Following.{followed_run, following}
use Rattle.search.proofs.Counters.{followed-limit}
use Rattle.search.proofs.ResumedCalls.{answered}
use Rattle.solve_rules.specs.Finding.{instance_for}
use Rattle.report.specs.Printed.{report, lines_of}
use Rattle.listing.specs.Printed.{standing, is_found, Shown, shown_of, shown}

-- an answer that is not "found"
pub found-not : (a : Answer) → ((steps : Steps) → a ≡ found steps → ⊥) → false ≡ is_found a
found-not (found steps) h = absurd (h steps refl)
found-not (none steps) h = refl
found-not (spent steps) h = refl
found-not (refused n) h = refl

refused-not-found : (steps : Steps) (n : ℕ) → refused n ≡ found steps → ⊥
refused-not-found steps n e = let z : ◌≡◌ {A = ℕ} 0 1 = cc in omega arith

found-steps : (a : Answer) → is_found a ≡ true → (steps : Steps) × (a ≡ found steps)
found-steps (found steps) e = (steps, refl)
found-steps (none steps) e = absurd cc
found-steps (spent steps) e = absurd cc
found-steps (refused n) e = absurd cc

module _ (list : List ℤ) (v : ℕ) (values : List ℕ) (trail : List ℤ) (p : Position) (budget : ℕ) (a : Answer) (vs : List ℕ) (ts : List ℤ)
    (q : Position) (call : left a vs ts q ≡ following list v values trail p budget) where
  -- a call that found something had room for the values
  pub found-wide : is_found a ≡ true → v ≤ length values
  found-wide e =
      let f = found-steps a e in
      (answered (followed_run list v) list v values trail p budget (found f.0) (refused-not-found f.0)
      (sym (ap (λ (r : Resumption). r.outcome.answer) call) ∙ f.1)).0.wide

  -- its steps fit
  pub steps-fit : (steps : Steps) → steps_in a ≡ some steps → total steps ≤ step_limit
  steps-fit steps e =
      followed-limit list v values trail p budget steps (sym (ap (λ (r : Resumption). steps_in r.outcome.answer) call) ∙ e)

  -- what is shown of it
  module _ (input instance read : List ℕ) (reads : read ≡ instance_for a input (take v vs) instance) where
    abbrev is : Shown
    is = shown input list v (standing values trail p) budget instance

    -- the text of the answer with an instance
    abbrev text_of : List ℕ → List ℕ
    text_of x = report a (lines_of (reading input) (sheet_of input) x)

    shown-is : record { text = text_of read; more = is_found a; left = standing vs ts q; instance = read } ≡ is
    unfolding shown
    shown-is =
        ap (λ (x : List ℕ). record { text = text_of x; more = is_found a; left = standing vs ts q; instance = x }) reads
        ∙ ap (shown_of input v instance) call

    pub ensured : {before after : List ℕ} {end : ℕ} {more : Bool}
        → Put before 0 (text_of read) after end → end ≤ length before
        → more ≡ is_found a
        → ((end ≤ length after) × (end ≡ length (take end after)))
        × (Prints is.text before after end × ((more ≡ is.more) × ((standing vs ts q ≡ is.left) × (read ≡ is.instance))))
    ensured e l m =
        let t = put_as (ap (λ (x : Shown). x.text) shown-is) e in (
          counts t l,
          (
            prints t l,
            (
              m ∙ ap (λ (x : Shown). x.more) shown-is,
              (ap (λ (x : Shown). x.left) shown-is, ap (λ (x : Shown). x.instance) shown-is),
            ),
          ),
        )
