-- `dimacs::write` meets its contract: the text is the header and then the lines, and its length was measured.
use mathlib.Core.Path.{◌≡◌, sym, ap, ◌∙◌}
use mathlib.Core.Bool.{true}
use mathlib.Core.List.{◌++◌}
use native.Mathlib.Omega.{arith}
use Rattle.text.specs.Puts.{Put, Room}
use Rattle.text.proofs.Puts.{put_both, put_as, room-first, put-length, Left, left-all, left_as, left-put, left-room}
use Rattle.clause_list.specs.ClauseList.{clauses_of, is_list}
use Rattle.dimacs.specs.Text.{header, clause_lines, text_of}
use Rattle.dimacs.proofs.Answers.{write-no-list, after-no-list, write-short, after-short, write-put}
use Rattle.dimacs.proofs.Lines.{text-parts}
use Rattle.dimacs.proofs.write.Goals as goal
use Rattle.dimacs.proofs.write.Lts as lts
use Rattle.dimacs.proofs.write.Tie as tie
use Rattle.dimacs.proofs.write.Reads as reads

abbrev At-After-put_clauses : Type 0
At-After-put_clauses = lts.After-put_clauses tie.the-claims reads.Pre reads.Post tie.handed_clauses

abbrev At-Else1 : Type 0
At-Else1 = lts.Else1 tie.the-claims reads.Pre reads.Post tie.handed_clauses

abbrev At-Else2 : Type 0
At-Else2 = lts.Else2 tie.the-claims reads.Pre reads.Post tie.handed_clauses

abbrev At-Start : Type 0
At-Start = lts.Start tie.the-claims reads.Pre reads.Post tie.handed_clauses

pub returns-then-not-is_list : goal.returns-then-not-is_list
returns-then-not-is_list c =
    let a = c.args in
    let f = sym c.before.is_list.ensures ∙ c.if-not-is_list.true in record {
      result_value = sym (write-no-list a.v a.list.now a.text.now f);
      text_after = sym (after-no-list a.v a.list.now a.text.now f);
    }

-- the list is one
passed : (c : At-Else1) → is_list c.args.v c.args.list.now ≡ true
passed c = sym c.before.is_list.ensures ∙ c.if-not-is_list.false

pub measure-measured-requires : goal.measure-measured-requires
measure-measured-requires c = passed c.before

pub returns-then-text-measured : goal.returns-then-text-measured
returns-then-text-measured c =
    let a = c.args in
    let e = passed c.before.before.before.before in record {
      result_value =
          sym (write-short a.v a.list.now a.text.now e
          (omega (arith, c.if-text-measured.true, c.measure-measured.ensures.bytes_value)));
      text_after =
          sym (after-short a.v a.list.now a.text.now e
          (omega (arith, c.if-text-measured.true, c.measure-measured.ensures.bytes_value)));
    }

-- there is room for the whole text
abbrev taken : At-Else2 → At-Start
taken c = c.before.before.before.before.before.before

roomy : (c : At-Else2) → Room (taken c).args.text.now 0 (text_of (taken c).args.v (taken c).args.list.now)
roomy c = omega (arith, c.if-text-measured.false, c.measure-measured.ensures.bytes_value)

-- the header for the clauses that were counted, and then the lines
headed : (c : At-Else2)
    → header (taken c).args.v c.measure-measured.result.clauses ++ clause_lines (clauses_of (taken c).args.list.now)
    ≡ text_of (taken c).args.v (taken c).args.list.now
headed c =
    let a = (taken c).args in
    ap (λ n. header a.v n ++ clause_lines (clauses_of a.list.now)) c.measure-measured.ensures.clauses_value
    ∙ text-parts a.v a.list.now

to-put : (c : At-Else2)
    → Left (taken c).args.text.now 0 (text_of (taken c).args.v (taken c).args.list.now) (taken c).args.text.now 0
    (header (taken c).args.v c.measure-measured.result.clauses ++ clause_lines (clauses_of (taken c).args.list.now))
to-put c =
    let a = (taken c).args in
    left_as (sym (headed c)) (left-all a.text.now 0 (text_of a.v a.list.now))

pub put_header-start-requires : goal.put_header-start-requires
put_header-start-requires c =
    let k = c.before in
    let a = (taken k).args in
    room-first a.text.now 0 (header a.v k.measure-measured.result.clauses) (clause_lines (clauses_of a.list.now))
    (left-room (roomy k) (to-put k))

pub put_clauses-end-requires : goal.put_clauses-end-requires
put_clauses-end-requires c =
    let k = c.before.before.before.before.before in record {
      listed = record { variables = (taken k).args.v; passes = passed k.before.before.before };
      room = left-room (roomy k) (left-put (to-put k) c.put_header-start.ensures);
    }

-- the branch, seen from the end
abbrev branch : At-After-put_clauses → At-Else2
branch c = c.before.before.before.before.before.before

whole : (c : At-After-put_clauses)
    → Put (taken (branch c)).args.text.now 0 (text_of (taken (branch c)).args.v (taken (branch c)).args.list.now)
    c.put_clauses-end.new.text
    c.put_clauses-end.result
whole c = put_as (headed (branch c)) (put_both c.put_header-start.ensures c.put_clauses-end.ensures)

pub shape_of-text : goal.shape_of-text
shape_of-text c = put-length (whole c.before.before.before)

pub returns : goal.returns
returns c =
    let k = branch c.before.before.before in
    let a = (taken k).args in
    let d = write-put a.v a.list.now a.text.now (passed k.before.before.before) (omega (arith, roomy k))
    (whole c.before.before.before) in
    record { result_value = d.0; text_after = d.1 }
