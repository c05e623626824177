-- K1 to K10 of document 01: the definitions give every row of the joint table, by computation.
use mathlib.Core.Path.{refl}
use Rattle.prelude.specs.Order.{Each}
use Rattle.prelude.specs.Tests.{each, all, any}
use Rattle.text.specs.Texts.{digits, decimal}
use Rattle.clause_list.specs.ClauseList.{cut, words_of, well_cut, is_list}
use Rattle.kinds.specs.Kinds.{row_of}
use Rattle.sheet_rules.specs.Tables as tables
use Rattle.sheet_rules.specs.Tables.{shape_step, free_step, visits_step}
use Rattle.sheet_rules.specs.Reading.{counted, scoped, declared, nodes_fine, shaped, rooted, walkable, reading}
use Rattle.relational.specs.Trees.{symbol_of, tree_step}
use Rattle.relational.specs.Cells.{first_member, first_cell, has_cells}
use Rattle.relational.specs.Matrices.{rounds}
use Rattle.relational.specs.Evaluation as evaluation
use Rattle.relational.specs.Evaluation.{value_of, marks_hold, cells_inside, holds}
use Rattle.instance.specs.Held.{held_answer, check_answer}
use Rattle.clauses_rules.specs.Builder as builder
use Rattle.clauses_rules.specs.Gates.{remaining, or, input_clauses, gates_clauses}
use Rattle.clauses_rules.specs.Translation.{after_rounds, translate}
use Rattle.clauses_rules.specs.Whole.{series, member_clauses, mark_clauses, root_walk, clauses, words, variable_total}
use Rattle.clauses.specs.Answers.{count_answer, write_answer, list_after}
use Rattle.dimacs.specs.Text.{literal_text, clause_line, clause_lines, header, text_of}
use Rattle.dimacs.specs.Answers as text
use Rattle.search_rules.specs.Rules.{truth_of, negated, literal, is_falsified, is_satisfied, conflict, open_of, same_literal, only, unit_of}
use Rattle.search_rules.specs.Rules.{first_unit, lowest_open, word_of, byte_of, place_of, values_of, trail_of, turn, decide, next}
use Rattle.search_rules.specs.Run.{total, count, run}
use Rattle.search.specs.Answers.{answer_at, values_at, trail_at, outcome}
use Rattle.solve_rules.specs.Answers.{read_back_answer, instance_after}
use Rattle.solve_rules.specs.Finding.{finding}
use Rattle.report.specs.Printed.{relation_lines, member_lines, finding_text, slices_after}
use Rattle.cnf_text.specs.Printed.{clause_text, list_left}
use Rattle.marked.specs.Shown.{Marked}

pub cases : Marked
unfolding Each row_of each all any digits decimal tables.table shape_step free_step visits_step
    counted scoped declared nodes_fine shaped rooted walkable reading symbol_of tree_step first_member first_cell has_cells
    rounds
    value_of evaluation.truth_of marks_hold cells_inside holds held_answer check_answer builder.each remaining or input_clauses
    gates_clauses after_rounds translate
    series member_clauses mark_clauses root_walk clauses words words_of variable_total count_answer write_answer list_after cut
    well_cut is_list
    literal_text clause_line clause_lines header text_of text.size_answer text.write_answer text.text_after
    truth_of negated literal is_falsified is_satisfied conflict open_of same_literal only unit_of first_unit lowest_open
    word_of byte_of place_of values_of trail_of turn decide next total count run answer_at values_at trail_at outcome
    read_back_answer instance_after finding relation_lines member_lines finding_text slices_after clause_text list_left
cases = (refl, (refl, (refl, (refl, (refl, (refl, (refl, (refl, (refl, (refl, (refl, tt)))))))))))
