-- The state of a search and its step rules (document 01, "Search").
-- The paper's force, choice and turn are called propagation, decision and backtrack here.
use Rattle.std.specs.Prelude.{Bool, true, false, cond, List, [], ◌∷◌, ℕ, zero, suc, pred, eqb, ℤ, pos, negsuc, length, get_or, set, replicate}
use Rattle.std.proofs.Math.Option.{Option, none, some}
use Rattle.prelude.specs.Tests.{all, any}

-- "Values, one byte for each variable: 0 false, 1 true, 2 open, 3 false by choice." The byte of variable i + 1 is at place i.
pub data Truth : Type 0 where
  falsified satisfied unassigned : Truth

unfoldable pub truth_of : ℕ → Truth
truth_of zero = falsified
truth_of (suc zero) = satisfied
truth_of (suc (suc zero)) = unassigned
truth_of (suc (suc (suc n))) = falsified

unfoldable pub negated : Truth → Truth
negated falsified = satisfied
negated satisfied = falsified
negated unassigned = unassigned

-- "v says that variable v is true, -v that it is false": what the values say of a literal
unfoldable pub literal : List ℕ → ℤ → Truth
literal values (pos n) = truth_of (get_or values (pred n) 2)
literal values (negsuc n) = negated (truth_of (get_or values n 2))

unfoldable pub is_falsified : Truth → Bool
is_falsified falsified = true
is_falsified satisfied = false
is_falsified unassigned = false

unfoldable pub is_satisfied : Truth → Bool
is_satisfied falsified = false
is_satisfied satisfied = true
is_satisfied unassigned = false

-- "some clause has only false literals"
unfoldable pub conflict : List ℕ → List (List ℤ) → Bool
conflict values clauses = any (all (λ l. is_falsified (literal values l))) clauses

-- the open literals of a clause
unfoldable pub open_of : List ℕ → List ℤ → List ℤ
open_of values [] = []
open_of values (l ∷ clause) =
    elim (literal values l)
    [ falsified ↦ open_of values clause | satisfied ↦ open_of values clause | unassigned ↦ l ∷ open_of values clause ]

unfoldable pub same_literal : ℤ → ℤ → Bool
same_literal (pos m) (pos n) = eqb m n
same_literal (pos m) (negsuc n) = false
same_literal (negsuc m) (pos n) = false
same_literal (negsuc m) (negsuc n) = eqb m n

-- the literal that "are all the same"
unfoldable pub only : List ℤ → Option ℤ
only [] = none
only (l ∷ ls) = cond (all (same_literal l) ls) (some l) none

-- "no true literal whose open literals are all the same"
unfoldable pub unit_of : List ℕ → List ℤ → Option ℤ
unit_of values clause = cond (any (λ l. is_satisfied (literal values l)) clause) none (only (open_of values clause))

-- "the first clause with no true literal whose open literals are all the same"
unfoldable pub first_unit : List ℕ → List (List ℤ) → Option ℤ
first_unit values [] = none
first_unit values (clause ∷ clauses) = elim (unit_of values clause) [ none ↦ first_unit values clauses | some l ↦ some l ]

-- "the lowest open variable": its place, where the first value is that of place k
unfoldable pub lowest_open : ℕ → List ℕ → Option ℕ
lowest_open k [] = none
lowest_open k (b ∷ values) =
    elim (truth_of b)
    [ falsified ↦ lowest_open (suc k) values | satisfied ↦ lowest_open (suc k) values | unassigned ↦ some k ]

-- "A trail of words holds the literals in the order set": a state is the stack of these, latest first.
-- Each was set by a propagation or a backtrack, or is the variable at place i, which a decision made false.
pub data Entry : Type 0 where
  propagated : ℤ → Entry
  decided : ℕ → Entry

abbrev pub State : Type 0
State = List Entry

unfoldable pub word_of : Entry → ℤ
word_of (propagated l) = l
word_of (decided i) = negsuc i

unfoldable pub byte_of : Entry → ℕ
byte_of (propagated (pos n)) = 1
byte_of (propagated (negsuc n)) = 0
byte_of (decided i) = 3

-- the place of a literal's variable
unfoldable pub place_of : ℤ → ℕ
place_of (pos n) = pred n
place_of (negsuc n) = n

-- "The start is all open."
unfoldable pub values_of : ℕ → State → List ℕ
values_of v [] = replicate v 2
values_of v (e ∷ state) = set (values_of v state) (place_of (word_of e)) (byte_of e)

-- "A trail of words holds the literals in the order set, then 0s."
unfoldable pub trail_of : ℕ → State → List ℤ
trail_of v [] = replicate v (pos 0)
trail_of v (e ∷ state) = set (trail_of v state) (length state) (word_of e)

pub data Kind : Type 0 where
  propagation decision backtrack : Kind

-- an end of the rules, or a step
pub data Next : Type 0 where
  end_none end_found : Next
  step : Kind → State → Next

-- "open all back to the latest 3, which becomes 1 (turn); without a 3 the end is "none""
unfoldable pub turn : State → Next
turn [] = end_none
turn (propagated l ∷ state) = turn state
turn (decided i ∷ state) = step backtrack (propagated (pos (suc i)) ∷ state)

-- "the lowest open variable becomes 3 (choice)"; "With all set and no such clause the end is "found""
unfoldable pub decide : State → Option ℕ → Next
decide state none = end_found
decide state (some i) = step decision (decided i ∷ state)

-- "if some clause has only false literals: ..; else the first clause .. sets that literal true (force); else .."
unfoldable pub next : List (List ℤ) → ℕ → State → Next
next clauses v state =
    let values = values_of v state in
    elim (conflict values clauses) [
      | true ↦ turn state
      | false ↦
          elim (first_unit values clauses)
          [ some l ↦ step propagation (propagated l ∷ state) | none ↦ decide state (lowest_open 0 values) ]
    ]

-- "So "found" keeps its 3s in the lent values, and read-back takes 3 as 0" (document 02, Change 6): the bit that the byte of a set variable gives
abbrev pub settle : ℕ → ℕ
settle b = cond (eqb b 3) 0 b
