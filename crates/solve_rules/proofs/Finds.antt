-- What the answer of a call of `find` means, for every sheet, all lent slices and every budget: over the definition that `find` ensures.
use mathlib.Core.Path.{◌≡◌, refl, sym, ap, ◌∙◌, subst}
use mathlib.Core.Logic.{⊎_elim}
use mathlib.Core.List.{List, []}
use Prim.Native.Nat.{ℕ}
use native.Mathlib.Omega.{arith}
use lib.IntN.{ℤ}
use lib.ListN.{take}
use Rattle.clause_list.specs.ClauseList.{clauses_of}
use Rattle.sheet_rules.specs.Blocks.{sheet_of}
use Rattle.clauses_rules.specs.Whole.{words, variable_total, word_total}
use Rattle.search_rules.specs.declared.Steps.{Steps}
use Rattle.search_rules.specs.Run.{EndedWithin}
use Rattle.search.specs.Answers.{found, Outcome}
use Rattle.solve_rules.specs.Finding.{Slices, Finding, decline, instance_for, find_in, finding}
use Rattle.solve_rules.specs.Demand3.{FitsLimits, FitSlices, written, searched}
use Rattle.solve_rules.specs.Finds.{LeavesSmallest, Finds}
use Rattle.solve_rules.proofs.Calls.{writes-words}
use Rattle.solve_rules.proofs.Demand3.{answered}
use Rattle.solve_rules.proofs.Findings.{Declined, Ran, called}

module _ (s : List ℕ) (lent : Slices) (budget : ℕ) where
  abbrev Means : Finding → Type 0
  Means f = Finds s lent budget f.answer f.left

  declines : (number : ℕ) → (FitsLimits s → FitSlices s lent → ⊥) → Means (decline number lent)
  declines number unfit =
      record {
        found_only = λ steps e. absurd (let z : ◌≡◌ {A = ℕ} 0 1 = cc in omega arith);
        none_only = λ steps e. absurd (let z : ◌≡◌ {A = ℕ} 0 1 = cc in omega arith);
        spent_exactly = (
          λ x. absurd (let e = x.1 in let z : ◌≡◌ {A = ℕ} 0 1 = cc in omega arith),
          λ n. absurd (unfit n.limits n.room),
        );
        refused_exactly = (λ x. unfit, λ x. (number, refl));
        unchanged = λ n e. refl;
      }

  module _ (h : FitsLimits s) (k : FitSlices s lent) where
    abbrev v : ℕ
    v = variable_total (sheet_of s)

    abbrev w : ℕ
    w = word_total (sheet_of s)

    abbrev call : Outcome
    call = searched s lent v w budget

    -- the instance where the answer is "found"
    holds : (steps : Steps) → call.answer ≡ found steps
        → LeavesSmallest (sheet_of s) lent.instance
        (instance_for call.answer s (take v call.values) lent.instance)
    holds steps e =
        let r = (answered s lent h k budget).found_only steps e in
        record {
          instance = r.instance;
          solves = r.solves;
          smallest = (answered s lent h k budget).found_first steps e r.instance r.reads;
          stands = ap (λ a. instance_for a s (take v call.values) lent.instance) e ∙ r.reads.copies;
        }

    -- the clauses of the sheet are those written
    ended : EndedWithin (clauses_of (written s lent v w)) v budget [] → EndedWithin (clauses_of (words (sheet_of s))) v budget []
    ended x = subst (λ (l : List ℤ). EndedWithin (clauses_of l) v budget []) (writes-words s h lent.list k.list) x

    ended-as-written : EndedWithin (clauses_of (words (sheet_of s))) v budget [] → EndedWithin (clauses_of (written s lent v w)) v budget []
    ended-as-written x = subst (λ (l : List ℤ). EndedWithin (clauses_of l) v budget []) (sym (writes-words s h lent.list k.list)) x

    runs : Means (find_in s v w lent budget)
    runs =
        let a = answered s lent h k budget in
        record {
          found_only = holds;
          none_only = a.none_only;
          spent_exactly = (
            λ x. record { limits = h; room = k; runs = λ y. a.spent_exactly.0 x (ended-as-written y) },
            λ n. a.spent_exactly.1 (λ y. n.runs (ended y)),
          );
          refused_exactly = (λ x. absurd (a.taken x.0 x.1), λ n. absurd (n h k));
          unchanged = λ n e. absurd (a.taken n e);
        }

  pub finds : Finds s lent budget (finding s lent budget).answer (finding s lent budget).left
  finds =
      ⊎_elim
      (λ (d : Declined s lent budget). subst Means (sym d.is) (declines d.number d.unfit))
      (λ (r : Ran s lent budget). subst Means (sym r.is) (runs r.limits r.room))
      (called s lent budget)
