-- Pieces of text put into a slice, and the lists that have a text.
-- No public contract reaches this file: nothing here needs belief.
use Rattle.std.specs.Prelude.{◌≡◌, true, List, ◌∷◌, ℕ, ◌≤◌, ◌<◌, ℤ, pos, nat_abs, length, get_or}
use Rattle.clause_list.specs.ClauseList.{clauses_of, well_cut, is_list}

-- no literal of a clause is 0
abbrev pub Proper : List ℤ → Type 0
Proper clause = (i : ℕ) → i < length clause → 1 ≤ nat_abs (get_or clause i (pos 0))

-- number 12 lets the list pass, with some number of variables
pub record Listed (ws : List ℤ) : Type 0 where
  pub variables : ℕ
  pub passes : is_list variables ws ≡ true

-- a list from some clause on: it is cut into clauses of some number of variables
pub record Cut (ws : List ℤ) : Type 0 where
  pub variables : ℕ
  pub cut : well_cut variables (length ws) ws ≡ true

-- the clause in front of such a list, and what stands after it
pub record Front (ws clause rest : List ℤ) : Type 0 where
  pub clauses : clauses_of ws ≡ clause ∷ clauses_of rest
  pub proper : Proper clause
  pub cut : Cut rest
  pub shorter : length rest < length ws
