-- What the code of the clauses does, step by step.
-- No public contract reaches this file: nothing here needs belief.
--
-- Each function takes the list and a tape (next variable, clauses and words so far) and does what one step of a builder asks: `Emits`.
-- LIMIT: document 01 allows 16,000 variables. Past it (the next variable is over 16,001) no gate is made any more: the step is then given
-- up, and what is left is not the step's. So `Emits` says: where the tape stays within the limit, all is exactly as defined; where it does
-- not, the definition's next variable is past the limit too. Numbers stay `Bounded` in both cases.
use Rattle.std.specs.Prelude.{◌≡◌, List, map, ℕ, ◌+◌, ◌*◌, ◌≤◌, ◌<◌, ℤ, length, get_or}
use Rattle.prelude.specs.Stores.{put_all}
use Rattle.literal.specs.Literals.{Literal, word_of}
use Rattle.literal.specs.Words.{variable, literal_of}
use Rattle.clause_list.specs.ClauseList.{words_of}
use Rattle.clauses_rules.specs.Builder.{Built, Builder}
use Rattle.clauses_rules.specs.Gates.{Clause, gates_clauses}
use Rattle.clauses_rules.specs.Translation.{Two, absent, either, both, without, implies, same, apart}
use Rattle.clauses_emission.specs.declared.Tape.{Tape}
use Rattle.clauses_emission.specs.declared.Pairing.{Pairing}
use Rattle.clauses_emission.specs.declared.Pairing.TheVariants.{Either, Both, Without, Implies, Same, Apart}

-- ---- words as literals
-- the literal's variable is one of 1 to n - 1
pub record Inside (n : ℕ) (l : Literal) : Type 0 where
  pub low : 1 ≤ variable l
  pub high : variable l < n

-- each literal of a list is; what lies past the end is -1, which is too
abbrev pub AllInside : ℕ → List Literal → Type 0
AllInside n ls = (i : ℕ) → Inside n (get_or ls i absent)

abbrev pub literals_of : List ℤ → List Literal
literals_of ws = map literal_of ws

-- the most literals in an OR: the pairs of 64 cells
abbrev pub most_inputs : ℕ
most_inputs = 2016

-- words that go into an OR
pub record Inputs (n : ℕ) (ws : List ℤ) : Type 0 where
  pub few : length ws ≤ most_inputs
  pub inside : AllInside n (literals_of ws)

-- ---- clauses
abbrev pub words_for : List Clause → List ℤ
words_for clauses = words_of (map (map word_of) clauses)

-- these clauses were written after what was there
pub record Writes (given : List Clause) (old : List ℤ) (before : Tape) (new : List ℤ) (after : Tape) : Type 0 where
  pub clauses : after.clauses ≡ before.clauses + length given
  pub words : after.words ≡ before.words + length (words_for given)
  pub list : new ≡ put_all old before.words (words_for given)

-- and no variable was taken
pub record Appends (clauses : List Clause) (old : List ℤ) (before : Tape) (new : List ℤ) (after : Tape) : Type 0 where
  pub next : after.next ≡ before.next
  pub writes : Writes clauses old before new after

-- room for one more clause of a first literal and others
pub record Room (tape : Tape) (others : List ℤ) : Type 0 where
  pub few : length others ≤ most_inputs
  pub clauses : tape.clauses ≤ 1000000000
  pub words : tape.words ≤ 1000000000

-- ---- steps
-- the most that clauses and words can come to: a start, and then the largest gate for each variable
pub record Bounded (tape : Tape) : Type 0 where
  pub first : 2 ≤ tape.next
  pub last : tape.next ≤ 16002
  pub clauses : tape.clauses ≤ 30000 + 2017 * tape.next
  pub words : tape.words ≤ 30000 + 8066 * tape.next

abbrev pub Within : ℕ → Type 0
Within next = next ≤ 16001

abbrev pub Over : ℕ → Type 0
Over next = 16001 < next

module _ {A : Type 0} (built : Built A) (old : List ℤ) (before : Tape) (made : A) (new : List ℤ) (after : Tape) where
  -- the step was done to the letter
  pub record Exact : Type 0 where
    pub value : made ≡ built.value
    pub next : after.next ≡ built.next
    pub writes : Writes (gates_clauses before.next built.gates) old before new after

  -- the step was done, or given up; what it gives is fine for what comes next
  pub record Emits (Fine : ℕ → Type 0) : Type 0 where
    pub bounded : Bounded after
    pub grows : before.next ≤ after.next
    pub kept : length new ≡ length old
    pub fine : Fine after.next
    pub done : Within after.next → Exact
    pub over : Over after.next → Over built.next

-- a literal
abbrev pub EmitsLiteral : Built Literal → List ℤ → Tape → ℤ → List ℤ → Tape → Type 0
EmitsLiteral built old before word new after = Emits built old before (literal_of word) new after (λ n. Inside n (literal_of word))

-- the same of a step over a list of words, over two words
abbrev pub EmitsList : (List Literal → Builder Literal) → List ℤ → List ℤ → Tape → ℤ → List ℤ → Tape → Type 0
EmitsList step ws old before = EmitsLiteral (step (literals_of ws) before.next) old before

abbrev pub EmitsTwo : (Two → Builder Literal) → ℤ → ℤ → List ℤ → Tape → ℤ → List ℤ → Tape → Type 0
EmitsTwo step p q old before = EmitsLiteral (step (literal_of p, literal_of q) before.next) old before

-- ---- two literals
abbrev pub pairing : Pairing → Two → Builder Literal
pairing Either = either
pairing Both = both
pairing Without = without
pairing Implies = implies
pairing Same = same
pairing Apart = apart
