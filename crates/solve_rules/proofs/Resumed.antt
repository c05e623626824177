-- A search that `find` began is taken up by a resumed call.
use mathlib.Core.Path.{◌≡◌, sym, ◌∙◌, ap}
use mathlib.Core.Logic.{⊎_elim}
use mathlib.Core.List.{List}
use Prim.Native.Nat.{ℕ, ◌+◌, ◌≤◌}
use native.Mathlib.Omega.{arith}
use lib.ListN.{take}
use Rattle.sheet_rules.specs.Blocks.{sheet_of}
use Rattle.clauses_rules.specs.Whole.{variable_total, word_total}
use Rattle.clauses.specs.Answers.{list_after}
use Rattle.search_rules.specs.declared.Steps.{Steps}
use Rattle.search_rules.specs.Held.{step_limit}
use Rattle.search.specs.Answers.{spent, refused}
use Rattle.search.specs.Resumed.{Resumption, resumption}
use Rattle.search.specs.Resuming.{record_of, with_record}
use Rattle.search.proofs.Resuming.{search-resumed}
use Rattle.solve_rules.specs.Finding.{Slices, Finding, finding, searched_by}
use Rattle.solve_rules.specs.Finds.{FindResumed}
use Rattle.solve_rules.proofs.Findings.{Declined, Ran, called}

module _ (s : List ℕ) (lent : Slices) (m n : ℕ) (steps : Steps) (spends : (finding s lent m).answer ≡ spent steps)
    (few : m + n ≤ step_limit) where
  abbrev v : ℕ
  v = variable_total (sheet_of s)

  abbrev w : ℕ
  w = word_total (sheet_of s)

  abbrev further : Finding → Resumption
  further f = resumption (take w f.left.list) v f.left.values f.left.trail (record_of v (searched_by f)) n

  -- neither call is refused
  began : Ran s lent m
  began =
      ⊎_elim
      (λ (d : Declined s lent m).
      let e : refused d.number ≡ spent steps = ap (λ (x : Finding). x.answer) (sym d.is) ∙ spends in
      let z : ◌≡◌ {A = ℕ} 0 1 = cc in
      absurd (omega arith))
      (λ r. r) (called s lent m)

  at_once : Ran s lent (m + n)
  at_once = ⊎_elim (λ (d : Declined s lent (m + n)). absurd (d.unfit began.limits began.room)) (λ r. r)
      (called s lent (m + n))

  resumed : further (finding s lent m) ≡ with_record v (searched_by (finding s lent (m + n)))
  resumed =
      ap further began.is
      ∙ search-resumed (take w (list_after s lent.list)) v lent.values lent.trail m n steps
      (ap (λ (x : Finding). x.answer) (sym began.is) ∙ spends) few
      ∙ ap (λ (f : Finding). with_record v (searched_by f)) (sym at_once.is)

pub find-resumed : FindResumed
find-resumed = resumed
