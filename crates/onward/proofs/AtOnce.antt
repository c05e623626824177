-- A call of `find` with no steps that is not spent is the whole.
use mathlib.Core.Path.{◌≡◌, sym, ◌∙◌, ap}
use mathlib.Core.List.{List}
use Prim.Native.Nat.{ℕ}
use Rattle.search.specs.Answers.{Answer}
use Rattle.search.proofs.MoreSteps.{Unspent}
use Rattle.solve_rules.specs.Finding.{Slices, finding}
use Rattle.solve_rules.proofs.MoreSteps.{more-found}
use Rattle.solve.specs.Private.{Left}
use Rattle.onward.specs.Limits.{most_steps}

pub at_once : (s : List ℕ) (lent : Slices) (a : Answer) (left : Slices) → Unspent a → a ≡ (finding s lent 0).answer → left ≡ (finding s lent 0).left
    → Left s lent most_steps a left
at_once s lent a left h e f =
    let m = more-found s lent 0 most_steps (λ steps g. h steps (e ∙ g)) in
    record { answer_is = e ∙ sym (ap (λ x. x.answer) m); left_is = f ∙ sym (ap (λ x. x.left) m) }
