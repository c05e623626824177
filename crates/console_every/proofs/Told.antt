-- What `every` tells: the cases that its calls gave read back to instances that satisfy, and after "none" to all of
-- them.
use mathlib.Core.Path.{◌≡◌, refl, sym, ◌∙◌, ap, subst}
use mathlib.Core.Bool.{Bool, true}
use mathlib.Core.List.{List, [], ◌++◌, map}
use Prim.Native.Nat.{ℕ, ◌≤◌}
use native.Mathlib.Omega.{arith}
use lib.IntN.{ℤ, pos}
use lib.ListN.{length, take, drop, get_or, length-replicate}
use Rattle.prelude.specs.Order.{Some, Lists}
use Rattle.clause_list.specs.ClauseList.{clauses_of, is_list, Satisfying}
use Rattle.sheet_rules.specs.Blocks.{Sheet, sheet_of}
use Rattle.sheet_rules.specs.Reading.{reading}
use Rattle.relational.specs.Meaning.{Solution}
use Rattle.clauses_rules.specs.Whole.{words, variable_total, word_total, read_back}
use Rattle.clauses_rules.specs.Matching.{Assignment}
use Rattle.clauses_rules.proofs.Theorems.{lists-read, all_read, listed}
use Rattle.clauses.proofs.Answered.{Counted, count_fits, Written, write-fits}
use Rattle.search_rules.specs.declared.Steps.{Steps}
use Rattle.search_rules.specs.Reached.{Settles}
use Rattle.search.specs.Answers.{Answer, found, none, spent, refused}
use Rattle.search.specs.Every.{next_call, Stands, EveryCall}
use Rattle.search.proofs.Every.{every-assignment}
use Rattle.report.specs.Printed.{report, lines_of}
use Rattle.report.specs.Tells.{StartsWith}
use Rattle.listing.specs.Printed.{shown}
use Rattle.listing.proofs.Beginning.{short-list, begun-short, begun-writes}
use Rattle.console_every.specs.Listed.{lent_words, opened, BeginGives, Listed, TellsEvery}
use Rattle.console_every.proofs.Opening.{opened-fresh}

-- a text whose first letter is n, byte 110, is that of "none"
says_none : (a : Answer) (lines rest : List ℕ) → 110 ≡ get_or (report a lines ++ rest) 0 0
    → (steps : Steps) × (a ≡ none steps)
says_none (found steps) lines rest e = absurd (omega arith)
says_none (none steps) lines rest e = (steps, refl)
says_none (spent steps) lines rest e = absurd (omega arith)
says_none (refused n) lines rest e = absurd (omega arith)

module _ {input : List ℕ} {list : List ℤ} {v : ℕ} (b : BeginGives input list v) where
  abbrev sheet : Sheet
  sheet = sheet_of input

  -- the list is that of the sheet's clauses, with its v
  wrote : Written input lent_words v b.clauses b.words
  wrote =
      write-fits input lent_words v b.clauses b.words
      (begun-writes input lent_words v b.clauses b.words b.numbers)

  counted : Counted input v b.clauses b.words
  counted = count_fits input v b.clauses b.words wrote.counted

  its-words : list ≡ words sheet
  its-words =
      b.list_is
      ∙ ap (take b.words)
      (short-list input lent_words (begun-short input lent_words v b.clauses b.words b.numbers))
      ∙ wrote.front

  few_words : word_total sheet ≤ 2147483647
  few_words = omega (arith, wrote.room, counted.words, length-replicate 16384 (pos 0))

  is_list_ok : is_list v list ≡ true
  is_list_ok =
      ap (is_list v) its-words
      ∙ ap (λ n. is_list n (words sheet)) counted.variables
      ∙ listed input counted.layout counted.accepted counted.small few_words

  abbrev Assigns : List ℕ → Type 0
  Assigns = Satisfying v (clauses_of list)

  of-sheet : (cases : List (List ℕ)) → Lists Assigns cases → Lists (Assignment sheet) cases
  of-sheet cases l =
      subst (λ n. Lists (Satisfying n (clauses_of (words sheet))) cases) counted.variables
      (subst (λ (l : List ℤ). Lists (Satisfying v (clauses_of l)) cases) its-words l)

  as-listed : (a : List ℕ) → Assignment sheet a → Assigns a
  as-listed a p =
      subst (λ (l : List ℤ). Satisfying v (clauses_of l) a) (sym its-words)
      (subst (λ n. Satisfying n (clauses_of (words sheet)) a) (sym counted.variables) p)

  every : EveryCall list v Settles Assigns
  every = every-assignment list v is_list_ok

  module _ {r : Bool} {text : List ℕ} (l : Listed input list v opened r text) where
    stands : Stands list v Settles l.cases l.to
    stands = every.leads [] l.cases opened l.to (every.fresh opened (opened-fresh b)) l.calls

    none_last : StartsWith "none" text
        → (steps : Steps) × ((next_call list v l.to l.n).outcome.answer ≡ none steps)
    unfolding shown
    none_last s =
        says_none (next_call list v l.to l.n).outcome.answer _ _
        (ap (λ t. get_or t 0 0) (s.parts ∙ l.shows.stands))

    all : StartsWith "none" text → (i : List ℕ) → Solution sheet i → Some (λ j. j ≡ i) (map (read_back sheet) l.cases)
    all s i p =
        let e = none_last s in
        all_read input counted.layout counted.accepted l.cases
        (λ a q. (every.followed l.cases l.to l.n stands).all_given e.0 e.1 a (as-listed a q)) i p

    pub told : TellsEvery input text (map (read_back sheet) l.cases)
    told = record {
      lists = lists-read input counted.layout counted.accepted l.cases
          (of-sheet l.cases (every.lists l.cases l.to stands));
      all = all;
    }
