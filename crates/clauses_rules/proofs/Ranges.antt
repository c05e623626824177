-- Every literal of the clauses is a literal of the variables 1 to n - 1.
use mathlib.Core.Bool.{Bool, true, false, cond}
use mathlib.Core.List.{List, [], ◌∷◌, ◌++◌, map, map-append}
use Prim.Native.Nat.{ℕ, zero, suc, ◌+◌, ◌≤◌}
use native.Mathlib.Omega.{arith}
use lib.ListN.{length, get_or}
use Rattle.literal.specs.Literals.{Literal, positive, negative, opposite}
use Rattle.sheet_rules.specs.Blocks.{Sheet, is_bounded, relation_count, multiplicity, first_sort, second_sort}
use Rattle.relational.specs.Cells.{is_set, row_count, row_length, member_cell, cell}
use Rattle.relational.specs.Matrices.{from, pairs}
use Rattle.clauses_rules.specs.Builder.{Gate}
use Rattle.clauses_rules.specs.Gates.{Clause, input_clauses, gate_clauses, gates_clauses}
use Rattle.clauses_rules.specs.Translation.{Two, absent, literal_at}
use Rattle.clauses_rules.specs.Whole.{series, pair_clause, row_clauses, row_literals, member_literals, row_members}
use Rattle.clauses_rules.specs.Whole.{mark_clauses, cell_members, member_clauses}
use Rattle.clauses_rules.proofs.Values.{In, AllIn, ClausesIn, in-opposite, all-in-grows, clauses-in-append}
use Rattle.clauses_rules.proofs.Gate.{Scoped}

-- ---- gates
inputs_in : (n g : ℕ) (ls : List Literal) → In n (positive g) → AllIn n ls → ClausesIn n (input_clauses g ls)
unfolding input_clauses
inputs_in n g [] i h = tt
inputs_in n g (l ∷ ls) i h = ((i, (in-opposite l h.0, tt)), inputs_in n g ls i h.1)

gate-in : (n g : ℕ) (ls : Gate) → In n (positive g) → AllIn n ls → ClausesIn n (gate_clauses g ls)
gate-in n g ls i h =
    clauses-in-append n (input_clauses g ls) ((negative g ∷ ls) ∷ []) (inputs_in n g ls i h) ((in-opposite (positive g) i, h), tt)

pub gates-in : (n g : ℕ) (gates : List Gate) → 1 ≤ g → g + length gates ≤ n → Scoped g gates → ClausesIn n (gates_clauses g gates)
unfolding gates_clauses
gates-in n g [] p q s = tt
gates-in n g (ls ∷ gates) p q s =
    clauses-in-append n (gate_clauses g ls) (gates_clauses (suc g) gates)
    (gate-in n g ls (record { low = p; high = omega arith }) (all-in-grows ls (omega arith) s.0))
    (gates-in n (suc g) gates (omega arith) (omega arith) s.1)

-- ---- rows
with-each-in : (n : ℕ) (l : Literal) (ks : List Literal) → In n l → AllIn n ks → ClausesIn n (map pair_clause (map {B = Two} (λ k. (l, k)) ks))
with-each-in n l [] i h = tt
with-each-in n l (k ∷ ks) i h = ((in-opposite l i, (in-opposite k h.0, tt)), with-each-in n l ks i h.1)

pairs-in : (n : ℕ) (ls : List Literal) → AllIn n ls → ClausesIn n (map pair_clause (pairs ls))
pairs-in n [] h = tt
pairs-in n (l ∷ ls) h =
    rw (map-append pair_clause (map {B = Two} (λ k. (l, k)) ls) (pairs ls))
    (clauses-in-append n (map pair_clause (map {B = Two} (λ k. (l, k)) ls)) (map pair_clause (pairs ls))
    (with-each-in n l ls h.0 h.1) (pairs-in n ls h.1))

all-in-append : (n : ℕ) (ls ks : List Literal) → AllIn n ls → AllIn n ks → AllIn n (ls ++ ks)
all-in-append n [] ks h k = k
all-in-append n (l ∷ ls) ks h k = (h.0, all-in-append n ls ks h.1 k)

opposites-in : (n : ℕ) (ls : List Literal) → AllIn n ls → AllIn n (map opposite ls)
opposites-in n [] h = tt
opposites-in n (l ∷ ls) h = (in-opposite l h.0, opposites-in n ls h.1)

row_in : (m n : ℕ) (members row : List Literal) → AllIn n members → AllIn n row → ClausesIn n (row_clauses m members row)
row_in zero n members row g h = tt
row_in (suc zero) n members row g h = pairs-in n row h
row_in (suc (suc m)) n members row g h =
    clauses-in-append n (map pair_clause (pairs row)) ((map opposite members ++ row) ∷ []) (pairs-in n row h)
    (all-in-append n (map opposite members) row (opposites-in n members g) h, tt)

implied-in : (n : ℕ) (l : Literal) (ms : List Literal) → In n l → AllIn n ms
    → ClausesIn n (map (λ m. opposite l ∷ m ∷ []) ms)
implied-in n l [] i h = tt
implied-in n l (m ∷ ms) i h = ((in-opposite l i, (h.0, tt)), implied-in n l ms i h.1)

all-in-cond : (n : ℕ) (b : Bool) (ls ks : List Literal) → AllIn n ls → AllIn n ks → AllIn n (cond b ls ks)
all-in-cond n true ls ks h k = h
all-in-cond n false ls ks h k = k

series-in : (n m : ℕ) (f : ℕ → List Clause) → ((i : ℕ) → ClausesIn n (f i)) → ClausesIn n (series m f)
unfolding series
series-in n zero f h = tt
series-in n (suc m) f h = clauses-in-append n (series m f) (f m) (series-in n m f h) (h m)

map-in : (n : ℕ) (f : ℕ → Literal) → ((i : ℕ) → In n (f i)) → (xs : List ℕ) → AllIn n (map f xs)
map-in n f h [] = tt
map-in n f h (x ∷ xs) = (h x, map-in n f h xs)

get_in : (n : ℕ) (ls : List Literal) → 2 ≤ n → AllIn n ls → (i : ℕ) → In n (get_or ls i absent)
get_in n [] p h i = record { low = omega arith; high = omega arith }
get_in n (l ∷ ls) p h zero = h.0
get_in n (l ∷ ls) p h (suc i) = get_in n ls p h.1 i

module _ (sheet : Sheet) (cells : List Literal) (n : ℕ) (p : 2 ≤ n) (h : AllIn n cells) where
  members-in : (k i : ℕ) → AllIn n (member_literals sheet cells k i)
  members-in k i =
      all-in-cond n (is_bounded sheet k) (literal_at sheet cells (member_cell sheet k i) ∷ []) []
      (get_in n cells p h (member_cell sheet k i), tt) tt

  pub marks-in : ClausesIn n (mark_clauses sheet cells)
  unfolding mark_clauses
  marks-in =
      series-in n (relation_count sheet) _ λ r. series-in n (row_count sheet r) _ λ i.
      row_in (multiplicity sheet r) n (row_members sheet cells r i) (row_literals sheet cells r i)
      (all-in-cond n (is_set sheet r) [] (member_literals sheet cells (first_sort sheet r) i) tt
      (members-in (first_sort sheet r) i))
      (map-in n (literal_at sheet cells) (get_in n cells p h) (from (cell sheet r i 0) (row_length sheet r)))

  pub inside-in : ClausesIn n (member_clauses sheet cells)
  unfolding member_clauses
  inside-in =
      series-in n (relation_count sheet) _ λ r. series-in n (row_count sheet r) _ λ i. series-in n (row_length sheet r) _ λ
      j.
      implied-in n (literal_at sheet cells (cell sheet r i j)) (cell_members sheet cells r i j)
      (get_in n cells p h (cell sheet r i j))
      (all-in-cond n (is_set sheet r) (member_literals sheet cells (first_sort sheet r) j)
      (member_literals sheet cells (first_sort sheet r) i ++ member_literals sheet cells (second_sort sheet r) j)
      (members-in (first_sort sheet r) j)
      (all-in-append n (member_literals sheet cells (first_sort sheet r) i)
      (member_literals sheet cells (second_sort sheet r) j)
      (members-in (first_sort sheet r) i) (members-in (second_sort sheet r) j)))
