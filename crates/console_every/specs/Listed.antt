-- What `every` does (document 02, Change 6): calls for the next, each on what the one before left, until one finds
-- no case.
use Rattle.std.specs.Prelude.{◌≡◌, Bool, true, false, ◌⊎◌, List, map, ℕ, ℤ, pos, length, take, replicate}
use Rattle.prelude.specs.Order.{Some, Lists}
use Rattle.text.specs.Texts.{Prints}
use Rattle.sheet_rules.specs.Blocks.{sheet_of}
use Rattle.relational.specs.Meaning.{Solution}
use Rattle.clauses_rules.specs.Whole.{read_back}
use Rattle.clauses.specs.Answers.{fits, refused}
use Rattle.search_rules.specs.Reached.{Settles}
use Rattle.search.specs.Resuming.{start}
use Rattle.search.specs.Every.{Standing, next_call, Calls, no_call, finds, spends}
use Rattle.report.specs.Tells.{StartsWith}
use Rattle.listing.specs.Printed.{beginning, list_begun, begun_text, standing, is_found, shown}

-- the words that `begin` is lent
abbrev pub lent_words : List ℤ
lent_words = replicate 16384 (pos 0)

-- list and v are those that `begin` gives for an input
pub record BeginGives (input : List ℕ) (list : List ℤ) (v : ℕ) : Type 0 where
  pub clauses : ℕ
  pub words : ℕ
  pub numbers : beginning input lent_words ≡ fits v clauses words
  pub list_is : list ≡ take words (list_begun input lent_words)

-- "A record of zeros over open slices"
abbrev pub opened : Standing
opened = standing (replicate 16000 2) (replicate 16000 (pos 0)) start

module _ {list : List ℤ} {v : ℕ} where
  -- each of the calls had 1,000,000 steps and found a case
  abbrev pub AllFound : {at to : Standing} {cases : List (List ℕ)} → Calls list v Settles at cases to → Type 0
  AllFound no_call = Unit
  AllFound (finds n answer gives others) = (n ≡ 1000000) × AllFound others
  AllFound (spends n answer others) = ⊥

-- what was done from a start on, with the text that is left; r says whether all was written
pub record Listed (input : List ℕ) (list : List ℤ) (v : ℕ) (at : Standing) (r : Bool) (text : List ℕ) : Type 0 where
  -- calls that found the cases, each on what the one before left
  pub cases : List (List ℕ)
  pub to : Standing
  pub calls : Calls list v Settles at cases to
  pub all_found : AllFound calls
  -- the last call: 1,000,000 steps, or none after 18,446,744,073,709 calls, whose steps are all that can be counted
  pub n : ℕ
  pub steps : (n ≡ 1000000) ⊎ ((n ≡ 0) × (length cases ≡ 18446744073709))
  -- where all was written it found no case, or had no step
  pub ends : r ≡ true → (is_found (next_call list v to n).outcome.answer ≡ false) ⊎ (n ≡ 0)
  -- its text stands at the front of what is left
  pub instance : List ℕ
  pub before : List ℕ
  pub bytes : ℕ
  pub shows : Prints (shown input list v to n instance).text before text bytes

-- what the text tells of the instances that the cases read back to
pub record TellsEvery (input text : List ℕ) (instances : List (List ℕ)) : Type 0 where
  -- each satisfies marks and formula, each is there once, in ascending order, and the others come later
  pub lists : Lists (Solution (sheet_of input)) instances
  -- after "none" there is no other
  pub all : StartsWith "none" text → (i : List ℕ) → Solution (sheet_of input) i → Some (λ j. j ≡ i) instances

-- what was done of an input: its refusal was put, or the cases of what `begin` gives were listed
pub data ListedOrRefused (input : List ℕ) (r : Bool) (text : List ℕ) : Type 0 where
  refusal : {before : List ℕ} {bytes : ℕ} (n : ℕ) → beginning input lent_words ≡ refused n
      → Prints (begun_text (refused n)) before text bytes → ListedOrRefused input r text
  listing : {list : List ℤ} {v : ℕ} → BeginGives input list v → (l : Listed input list v opened r text)
      → TellsEvery input text (map (read_back (sheet_of input)) l.cases) → ListedOrRefused input r text
