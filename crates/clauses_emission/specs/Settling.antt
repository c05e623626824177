-- What the code does with the inputs of an OR before a gate is made: one after the other, beside those that are kept so far.
-- No public contract reaches this file: nothing here needs belief.
use Rattle.std.specs.Prelude.{◌≡◌, cond, List, [], ◌∷◌, ◌++◌, ℕ, ◌≤◌, ℤ, length, take, Option, MatchOption}
use Rattle.literal.specs.Literals.{Literal, positive, opposite, is_same}
use Rattle.literal.specs.Words.{literal_of}
use Rattle.clauses_rules.specs.Builder.{Builder, return}
use Rattle.clauses_rules.specs.Translation.{Two, absent, either}
use Rattle.clauses_emission.specs.declared.Seen.{Seen}
use Rattle.clauses_emission.specs.declared.Seen.TheVariants.{Nothing, Itself, Opposite}
use Rattle.clauses_emission.specs.Emission.{Inside, literals_of}

-- what comes first among literals: a literal itself, its opposite, or neither
unfoldable pub seen_in : List Literal → Literal → Seen
seen_in [] l = Nothing
seen_in (k ∷ ks) l = cond (is_same l k) Itself (cond (is_same (opposite l) k) Opposite (seen_in ks l))

abbrev pub by_sight : {A : Type 0} → Seen → A → A → A → A
by_sight Nothing x y z = x
by_sight Itself x y z = y
by_sight Opposite x y z = z

-- -1 counts as kept: it is struck out wherever it stands, and 1 is its opposite
unfoldable pub settled_by : List Literal → List Literal → List Literal
settled_by kept [] = kept
settled_by kept (l ∷ ls) =
    by_sight (seen_in (absent ∷ kept) l) (settled_by (kept ++ (l ∷ [])) ls) (settled_by kept ls) (positive 1 ∷ [])

-- what remains of a list, or 1 alone where the list gives 1
abbrev pub settled : List Literal → List Literal
settled ls = settled_by [] ls

-- it stands in the first n words
pub record Settles (old new : List ℤ) (n : ℕ) : Type 0 where
  pub few : n ≤ length old
  pub rest : literals_of (take n new) ≡ settled (literals_of old)

-- ---- two inputs
-- two that are no constants, not the same and no opposites
pub record Apart (p q : Literal) : Type 0 where
  pub first_absent : p ≡ absent → ⊥
  pub second_absent : q ≡ absent → ⊥
  pub repeat : p ≡ q → ⊥
  pub first_one : p ≡ positive 1 → ⊥
  pub second_one : q ≡ positive 1 → ⊥
  pub opposites : p ≡ opposite q → ⊥

-- a step over two words gives this word, and makes no gate
pub record Told (step : Two → Builder Literal) (p q r : ℤ) : Type 0 where
  pub value : (g : ℕ) → return (literal_of r) g ≡ step (literal_of p, literal_of q) g
  pub inside : {n : ℕ} → 2 ≤ n → Inside n (literal_of p) → Inside n (literal_of q) → Inside n (literal_of r)

-- what OR of two words gives, where it is no gate
abbrev pub Tells : ℤ → ℤ → Option ℤ → Type 0
Tells p q r = MatchOption r (Apart (literal_of p) (literal_of q)) (λ l. Told either p q l)
