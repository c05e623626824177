-- Closure at scope 1, for every matrix (K6 of document 01), and "r equal r", computed from the bytes of the sheet.
use mathlib.Core.Path.{◌≡◌, refl, ap}
use mathlib.Core.List.{List, [], ◌∷◌}
use Prim.Native.Nat.{ℕ}
use Rattle.prelude.specs.Tests.{each, any}
use Rattle.kinds.specs.Kinds.{row_of}
use Rattle.literal.specs.Literals.{Literal, positive}
use Rattle.clause_list.specs.ClauseList.{words_of}
use Rattle.sheet_rules.specs.Blocks.{sheet_of}
use Rattle.sheet_rules.specs.Tables.{table, shape_step, free_step, visits_step}
use Rattle.sheet_rules.specs.Reading.{counted, scoped, declared, nodes_fine, shaped, rooted, walkable, reading}
use Rattle.relational.specs.Trees.{symbol_of, tree_step}
use Rattle.relational.specs.declared.Unary.TheVariants.{Closure as closure}
use Rattle.relational.specs.Cells.{first_member, first_cell}
use Rattle.relational.specs.Matrices.{Matrix, rounds}
use Rattle.clauses_rules.specs.Builder as b
use Rattle.clauses_rules.specs.Builder.{return}
use Rattle.clauses_rules.specs.Gates.{remaining, or, input_clauses, gates_clauses}
use Rattle.clauses_rules.specs.Translation.{after_rounds, translate, translate_unary}
use Rattle.clauses_rules.specs.Whole.{member_clauses, series, mark_clauses, root_walk, clauses, words, variable_total}
use Rattle.clauses.specs.Answers.{fits, count_answer}

-- K6: "closure at scope 1: the matrix itself"
pub k6 : (p : Matrix Literal) → p.rows ≡ 1 → translate_unary closure p ≡ return p
unfolding after_rounds rounds
k6 p e = ap (λ (n : ℕ). after_rounds (rounds n) p) e

-- one sort of two atoms, one free set, "r equal r": each OR has a variable with both signs, and the formula is the literal 1
abbrev pub equal-itself : List ℕ
equal-itself = 1 ∷ 0 ∷ 1 ∷ 2 ∷ 0 ∷ 0 ∷ 0 ∷ 4 ∷ 1 ∷ 0 ∷ 0 ∷ 0 ∷ 0 ∷ 6 ∷ 1 ∷ 0 ∷ 0 ∷ 20 ∷ 0 ∷ 0 ∷ []

pub equal-itself-clauses : clauses (sheet_of equal-itself) ≡ (positive 1 ∷ []) ∷ (positive 1 ∷ []) ∷ []
unfolding clauses member_clauses mark_clauses root_walk series translate table tree_step symbol_of first_member first_cell
    b.each or remaining any
    input_clauses gates_clauses
equal-itself-clauses = refl

pub equal-itself-answer : count_answer equal-itself ≡ fits 3 2 4
unfolding count_answer reading counted scoped declared nodes_fine shaped rooted walkable each row_of shape_step free_step visits_step
    variable_total words words_of clauses member_clauses mark_clauses root_walk series translate table tree_step symbol_of
    first_member first_cell
    b.each or remaining any input_clauses gates_clauses
equal-itself-answer = refl
