-- A walk over the clauses of a list, and what is counted on it.
use mathlib.Core.Path.{◌≡◌, refl, sym, ap, ◌∙◌}
use mathlib.Core.Bool.{◌&&◌, true, false}
use mathlib.Core.List.{List, [], ◌∷◌}
use Prim.Native.Nat.{ℕ, ◌+◌, ◌≤◌}
use native.Mathlib.Omega.{arith}
use lib.IntN.{ℤ, pos, negsuc, nat_abs}
use lib.ListN.{length, get_or, take, drop, length-append, length-drop}
use Rattle.prelude.specs.Tests.{all}
use Rattle.prelude.proofs.Laws.{clash, and_left, and_right, all-at}
use Rattle.literal.specs.Literals.{is_literal}
use Rattle.literal.specs.Words.{count_of}
use Rattle.literal.proofs.Words.{literal-low}
use Rattle.clause_list.specs.ClauseList.{clauses_of, is_count}
use Rattle.clause_list.proofs.Laws.{well_cut_words, well-cut-cons, list-well-cut, clauses-cons, clauses-nil, count-high}
use Rattle.dimacs.specs.Text.{clause_line, clause_lines}
use Rattle.dimacs.specs.Private.{Listed, Proper, Cut, Front}
use Rattle.dimacs.proofs.Lines.{lines_none, lines_more}

pub cut_listed : {ws : List ℤ} → Listed ws → Cut ws
cut_listed {ws} l = record { variables = l.variables; cut = list-well-cut l.variables ws l.passes }

pub proper : (v : ℕ) (clause : List ℤ) → all (is_literal v) clause ≡ true → Proper clause
proper v clause e i h = literal-low v (get_or clause i (pos 0)) (all-at (is_literal v) clause e i (pos 0) h)

counted-words : (left : ℕ) (w : ℤ) → is_count left w ≡ true → count_of w ≡ nat_abs w
counted-words left (pos n) e = refl
counted-words left (negsuc n) e = clash false e refl

-- the clause that the first word counts
module _ {ws words : List ℤ} {head : ℤ} {n : ℕ} (k : Cut ws) (e : ws ≡ head ∷ words) (c : n ≡ count_of head) where
  tests : (is_count (length words) head
      && (all (is_literal k.variables) (take (nat_abs head) words) && well_cut_words k.variables (drop (nat_abs head) words))) ≡ true
  tests = sym (well-cut-cons k.variables head words) ∙ ap (well_cut_words k.variables) (sym e) ∙ k.cut

  number : n ≡ nat_abs head
  number = c ∙ counted-words (length words) head (and_left _ _ tests)

  pub front-within : n ≤ length words
  front-within = omega (arith, number, count-high (length words) head (and_left _ _ tests))

  pub front : Front ws (take n words) (drop n words)
  front =
      let r = and_right (is_count (length words) head) _ tests in
      let m = number in
      rw m
      record {
        clauses = ap clauses_of e ∙ clauses-cons head words;
        proper = proper k.variables (take (nat_abs head) words) (and_left (all (is_literal k.variables) (take (nat_abs head) words)) _ r);
        cut = record { variables = k.variables; cut = and_right (all (is_literal k.variables) (take (nat_abs head) words)) _ r };
        shorter = omega (arith, ap length e, length-drop (nat_abs head) words);
      }

-- the clauses before those that are left, and the bytes of their lines, were counted
pub record Counted (ws left : List ℤ) (clauses lines : ℕ) : Type 0 where
  pub cut : Cut left
  pub clauses_left : clauses + length (clauses_of left) ≡ length (clauses_of ws)
  pub lines_left : lines + length (clause_lines (clauses_of left)) ≡ length (clause_lines (clauses_of ws))

pub counted_none : (ws : List ℤ) → Cut ws → Counted ws ws 0 0
counted_none ws k = record { cut = k; clauses_left = omega arith; lines_left = omega arith }

module _ {ws left : List ℤ} {clauses lines : ℕ} (k : Counted ws left clauses lines) where
  -- with the clause in front
  pub counted_next : {clause rest : List ℤ} {b : ℕ} → Front left clause rest → b ≡ length (clause_line clause)
      → Counted ws rest (clauses + 1) (lines + b)
  counted_next {clause} {rest} {b} f e =
      record {
        cut = f.cut;
        clauses_left = omega (arith, k.clauses_left, ap length f.clauses);
        lines_left =
            omega (
              arith,
              k.lines_left,
              ap (λ cs. length (clause_lines cs)) f.clauses,
              ap length (lines_more clause (clauses_of rest)),
              length-append (clause_line clause) (clause_lines (clauses_of rest)),
            );
      }

  -- no clause is left
  pub counted-all : left ≡ [] → (clauses ≡ length (clauses_of ws)) × (lines ≡ length (clause_lines (clauses_of ws)))
  counted-all e =
      let none : clauses_of left ≡ [] = ap clauses_of e ∙ clauses-nil in (
        omega (arith, k.clauses_left, ap length none),
        omega (arith, k.lines_left, ap (λ cs. length (clause_lines cs)) none, ap length lines_none),
      )
