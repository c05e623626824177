-- `put_clauses` meets its contract: clause by clause.
use Rattle.std.proofs.Common.{◌∙◌, ap}
use Rattle.text.proofs.Puts.{room-first, left-all, left_as, left-room, left-put, left-none}
use Rattle.clause_list.specs.ClauseList.{clauses_of}
use Rattle.clause_list.proofs.Laws.{clauses-nil}
use Rattle.dimacs.specs.Text.{clause_line, clause_lines}
use Rattle.dimacs.proofs.Lines.{lines_none, lines_more}
use Rattle.dimacs.proofs.Walks.{cut_listed}
use Rattle.dimacs.proofs.put_clauses.Goals as goal

pub loop-clause-init : goal.loop-clause-init
loop-clause-init c =
    (cut_listed c.requires.listed, left-all c.args.text.now c.args.at (clause_lines (clauses_of c.args.list.now)))

pub put_clause-end-requires-clause-room : goal.put_clause-end-requires-clause-room
put_clause-end-requires-clause-room c =
    let f = c.in-Some.ensures in
    let l = left_as (ap clause_lines f.clauses ∙ lines_more _ _) c.loop-clause.invariant.1 in
    room-first _ _ (clause_line c.in-Some.clause.now) _ (left-room c.requires.room l)

pub loop-clause-preserved : goal.loop-clause-preserved
loop-clause-preserved c =
    let f = c.in-Some.ensures in
    let l = left_as (ap clause_lines f.clauses ∙ lines_more _ _) c.loop-clause.invariant.1 in
    (f.cut, left-put l c.put_clause-end.ensures)

pub returns : goal.returns
returns c =
    let none = ap (λ ws. clause_lines (clauses_of ws)) c.in_default.ensures ∙ ap clause_lines clauses-nil ∙ lines_none in
    left-none (left_as none c.loop-clause.invariant.1)
