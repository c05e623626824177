-- The search takes the list as it is written: number 12 does not apply to the words of an accepted sheet that fits the limits.
use mathlib.Core.Path.{◌≡◌, refl, sym, ◌∙◌, subst}
use mathlib.Core.Bool.{Bool, true}
use mathlib.Core.List.{List, [], ◌∷◌, ◌++◌, map}
use Prim.Native.Nat.{ℕ, zero, suc, ◌≤◌, ◌<◌}
use native.Mathlib.Omega.{arith}
use lib.Dec.{leb}
use lib.ListN.{length, length-map, length-append}
use borrow.Author.Tests.{le-leb}
use Rattle.prelude.specs.Tests.{all}
use Rattle.prelude.proofs.Laws.{and_both, all_append, all_map}
use Rattle.literal.specs.Literals.{Literal, negative, opposite, word_of}
use Rattle.clause_list.specs.ClauseList.{is_list}
use Rattle.clause_list.proofs.Laws.{has_literal, words-list}
use Rattle.sheet_rules.specs.Blocks.{Sheet, relation_count, multiplicity}
use Rattle.relational.specs.Cells.{row_count, row_length, cell}
use Rattle.relational.specs.Matrices.{from, pairs}
use Rattle.relational.proofs.Places.{length_from}
use Rattle.clauses_rules.specs.Builder.{Gate}
use Rattle.clauses_rules.specs.Gates.{Clause, input_clauses, gate_clauses, gates_clauses}
use Rattle.clauses_rules.specs.Translation.{Two, literal_at}
use Rattle.clauses_rules.specs.Whole.{series, pair_clause, row_clauses, row_literals, row_members, mark_clauses}
use Rattle.clauses_rules.specs.Whole.{cell_members, member_clauses, cell_literals, first_gate}
use Rattle.clauses_rules.specs.Whole.{root_walk, clauses}
use Rattle.clauses_rules.specs.Whole.{words, variable_total, word_total}
use Rattle.clauses_rules.proofs.Bytes.{clauses-literals}
use Rattle.clauses_rules.proofs.Match.{clauses-in, some-variable}

abbrev is_some : Clause → Bool
is_some c = leb 1 (length c)

some-cons : (l : Literal) (c : Clause) → is_some (l ∷ c) ≡ true
some-cons l c = le-leb 1 (suc (length c)) (omega arith)

append-some : (cs ds : List Clause) → all is_some cs ≡ true → all is_some ds ≡ true → all is_some (cs ++ ds) ≡ true
append-some cs ds h k = all_append is_some cs ds ∙ and_both (all is_some cs) (all is_some ds) h k

cons-some : (c : Clause) (cs : List Clause) → is_some c ≡ true → all is_some cs ≡ true → all is_some (c ∷ cs) ≡ true
unfolding all
cons-some c cs h k = and_both (is_some c) (all is_some cs) h k

inputs-some : (g : ℕ) (ls : List Literal) → all is_some (input_clauses g ls) ≡ true
unfolding input_clauses all
inputs-some g [] = refl
inputs-some g (l ∷ ls) = inputs-some g ls

gates-some : (g : ℕ) (gates : List Gate) → all is_some (gates_clauses g gates) ≡ true
unfolding gates_clauses all
gates-some g [] = refl
gates-some g (ls ∷ gates) =
    append-some (gate_clauses g ls) (gates_clauses (suc g) gates)
    (append-some (input_clauses g ls) _ (inputs-some g ls) (cons-some (negative g ∷ ls) [] (some-cons (negative g) ls) refl))
    (gates-some (suc g) gates)

pairs-some : (ts : List Two) → all is_some (map pair_clause ts) ≡ true
unfolding all
pairs-some [] = refl
pairs-some (t ∷ ts) = pairs-some ts

row-some : (m : ℕ) (members row : List Literal) → 1 ≤ length row → all is_some (row_clauses m members row) ≡ true
unfolding all
row-some zero members row h = refl
row-some (suc zero) members row h = pairs-some (pairs row)
row-some (suc (suc m)) members row h =
    let whole : List Literal = map opposite members ++ row in
    append-some (map pair_clause (pairs row)) (whole ∷ []) (pairs-some (pairs row))
    (cons-some whole [] (le-leb 1 (length whole) (omega (arith, length-append (map opposite members) row))) refl)

implied-some : (l : Literal) (ms : List Literal) → all is_some (map (λ m. opposite l ∷ m ∷ []) ms) ≡ true
unfolding all
implied-some l [] = refl
implied-some l (m ∷ ms) = implied-some l ms

series-some : (n : ℕ) (f : ℕ → List Clause) → ((i : ℕ) → i < n → all is_some (f i) ≡ true) → all is_some (series n f) ≡ true
unfolding series all
series-some zero f h = refl
series-some (suc n) f h = append-some (series n f) (f n) (series-some n f (λ i l. h i (omega arith))) (h n (omega arith))

same_some : (cs : List Clause) → all (λ c. has_literal (map word_of c)) cs ≡ all is_some cs
unfolding all
same_some [] = refl
same_some (c ∷ cs) = rw (length-map c word_of, same_some cs)

module _ (sheet : Sheet) (rows : (r : ℕ) → r < relation_count sheet → 1 ≤ row_length sheet r) where
  row-length : (r i : ℕ) → length (row_literals sheet (cell_literals sheet) r i) ≡ row_length sheet r
  row-length r i =
      length-map (from (cell sheet r i 0) (row_length sheet r)) (literal_at sheet (cell_literals sheet))
      ∙ length_from (cell sheet r i 0) (row_length sheet r)

  marks-some : all is_some (mark_clauses sheet (cell_literals sheet)) ≡ true
  unfolding mark_clauses
  marks-some =
      series-some (relation_count sheet) _ λ r l. series-some (row_count sheet r) _ λ i k.
      row-some (multiplicity sheet r) (row_members sheet (cell_literals sheet) r i)
      (row_literals sheet (cell_literals sheet) r i) (subst (λ (n : ℕ). 1 ≤ n) (sym (row-length r i)) (rows r l))

  inside-some : all is_some (member_clauses sheet (cell_literals sheet)) ≡ true
  unfolding member_clauses
  inside-some =
      series-some (relation_count sheet) _ λ r l. series-some (row_count sheet r) _ λ i k. series-some (row_length sheet r)
      _ λ j m.
      implied-some (literal_at sheet (cell_literals sheet) (cell sheet r i j))
      (cell_members sheet (cell_literals sheet) r i j)

  clauses-some : all is_some (clauses sheet) ≡ true
  unfolding clauses all
  clauses-some =
      append-some (member_clauses sheet (cell_literals sheet)) _ inside-some
      (append-some (mark_clauses sheet (cell_literals sheet)) _ marks-some
      (append-some (gates_clauses (first_gate sheet) (root_walk sheet).gates) _
      (gates-some (first_gate sheet) (root_walk sheet).gates) refl))

  words-some : all has_literal (map (map word_of) (clauses sheet)) ≡ true
  words-some = all_map has_literal (map word_of) (clauses sheet) ∙ same_some (clauses sheet) ∙ clauses-some

  pub words-listed : variable_total sheet ≤ 16000 → word_total sheet ≤ 2147483647 → is_list (variable_total sheet) (words sheet) ≡ true
  unfolding words
  words-listed h k =
      words-list (variable_total sheet) (map (map word_of) (clauses sheet)) (some-variable sheet) h k words-some
      (clauses-literals (variable_total sheet) (clauses sheet) (clauses-in sheet))
