-- A call of `find` that is not spent comes to the same where it is allowed more steps.
use mathlib.Core.Path.{◌≡◌, refl, sym, ◌∙◌, ap}
use mathlib.Core.Bool.{Bool, true, false}
use mathlib.Core.List.{List}
use Prim.Native.Nat.{ℕ, ◌+◌}
use lib.Dec.{leb}
use lib.IntN.{ℤ}
use lib.ListN.{take}
use Rattle.sheet_rules.specs.Blocks.{sheet_of}
use Rattle.relational.specs.Cells.{cell_count}
use Rattle.clauses.specs.Answers as count
use Rattle.clauses.specs.Answers.{count_answer, list_after}
use Rattle.search.specs.Answers.{Outcome}
use Rattle.search.proofs.MoreSteps.{Unspent, more-searched}
use Rattle.solve_rules.specs.Finding.{Slices, slices, Finding, have_room, instance_for, find_in, find_after, finding}
use Rattle.solve_rules.proofs.Findings.{is_after}

module _ (s : List ℕ) (lent : Slices) (m n : ℕ) (unspent : Unspent (finding s lent m).answer) where
  -- counting answers v variables and w words
  module _ (v c w : ℕ) (e : count_answer s ≡ count.fits v c w) where
    abbrev list : List ℤ
    list = list_after s lent.list

    abbrev found_in : Outcome → Finding
    found_in o =
        record {
          answer = o.answer;
          left = slices list o.values o.trail (instance_for o.answer s (take v o.values) lent.instance);
        }

    found_alike : Unspent (find_in s v w lent m).answer → find_in s v w lent (m + n) ≡ find_in s v w lent m
    found_alike h = ap found_in (more-searched (take w list) v lent.values lent.trail m n h)

    by_tests : (p q : Bool) → leb w 2147483647 ≡ p → have_room w v (cell_count (sheet_of s)) lent ≡ q → finding s lent (m + n) ≡ finding s lent m
    by_tests false q f g = is_after s lent (m + n) v c w e false q f g ∙ sym (is_after s lent m v c w e false q f g)
    by_tests true false f g = is_after s lent (m + n) v c w e true false f g ∙ sym (is_after s lent m v c w e true false f g)
    by_tests true true f g =
        let d = is_after s lent m v c w e true true f g in
        is_after s lent (m + n) v c w e true true f g
        ∙ found_alike (λ steps h. unspent steps (ap (λ x. x.answer) d ∙ h))
        ∙ sym d

  by-counting : (a : count.Answer) → count_answer s ≡ a → finding s lent (m + n) ≡ finding s lent m
  unfolding finding
  by-counting (count.refused k) e = ap (λ a. find_after a s lent (m + n)) e ∙ sym (ap (λ a. find_after a s lent m) e)
  by-counting (count.fits v c w) e = by_tests v c w e (leb w 2147483647) (have_room w v (cell_count (sheet_of s)) lent) refl refl

  pub more-found : finding s lent (m + n) ≡ finding s lent m
  more-found = by-counting (count_answer s) refl
