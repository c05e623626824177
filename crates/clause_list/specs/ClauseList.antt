-- A clause list in 32-bit words, number 12, and the assignments that satisfy it
-- (document 01, "Clauses", "The words of demand 3" and "Answers that decline").
use Rattle.std.specs.Prelude.{◌≡◌, Bool, true, false, ◌&&◌, List, [], ◌∷◌, ◌++◌, ℕ, zero, suc, pred, leb, eqb, ℤ, pos, negsuc, nat_abs, length, get_or, take, drop}
use Rattle.prelude.specs.Tests.{between, all, any}
use Rattle.literal.specs.Literals.{is_literal}

-- "The list lies in a lent slice of 32-bit words, each clause headed by its literal count."
-- A clause takes at least the word of its count, so that as many rounds as words cut the whole list.
unfoldable pub cut : ℕ → List ℤ → List (List ℤ)
cut zero ws = []
cut (suc rounds) [] = []
cut (suc rounds) (count ∷ ws) = take (nat_abs count) ws ∷ cut rounds (drop (nat_abs count) ws)

abbrev pub clauses_of : List ℤ → List (List ℤ)
clauses_of ws = cut (length ws) ws

-- the words of a list of clauses, which the cut takes apart again
unfoldable pub words_of : List (List ℤ) → List ℤ
words_of [] = []
words_of (clause ∷ clauses) = pos (length clause) ∷ (clause ++ words_of clauses)

-- a count is at least 1, and its literals are among the words left
abbrev pub is_count : ℕ → ℤ → Bool
is_count left (pos n) = between 1 left n
is_count left (negsuc n) = false

-- no "count below 1 or past the end", no "literal 0 or beyond v"
unfoldable pub well_cut : ℕ → ℕ → List ℤ → Bool
well_cut v zero ws = true
well_cut v (suc rounds) [] = true
well_cut v (suc rounds) (count ∷ ws) =
    is_count (length ws) count
    && (all (is_literal v) (take (nat_abs count) ws) && well_cut v rounds (drop (nat_abs count) ws))

-- number 12, LIST, does not apply: "v outside 1 to 16,000, more than 2^31 - 1 words, a count below 1 or past the end, a literal 0 or beyond v"
unfoldable pub is_list : ℕ → List ℤ → Bool
is_list v ws = between 1 16000 v && (leb (length ws) 2147483647 && well_cut v (length ws) ws)

-- a literal's truth under an assignment, which has one byte for each variable, in variable order
abbrev pub is_true : List ℕ → ℤ → Bool
is_true a (pos n) = eqb (get_or a (pred n) 2) 1
is_true a (negsuc n) = eqb (get_or a n 2) 0

-- "An assignment gives each of the v variables 0 or 1, in variable order; it is satisfying when every clause holds a true literal."
pub record Satisfying (v : ℕ) (clauses : List (List ℤ)) (a : List ℕ) : Type 0 where
  pub size : length a ≡ v
  pub bits : all (λ b. leb b 1) a ≡ true
  pub holds : all (any (is_true a)) clauses ≡ true
