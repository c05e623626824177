-- `dimacs::size` meets its contract.
use mathlib.Core.Path.{◌≡◌, sym, ap, ◌∙◌}
use mathlib.Core.Bool.{true}
use Rattle.clause_list.specs.ClauseList.{is_list}
use Rattle.dimacs.specs.Answers.{bytes}
use Rattle.dimacs.proofs.Answers.{size-refused, size-bytes}
use Rattle.dimacs.proofs.size.Goals as goal
use Rattle.dimacs.proofs.size.Lts as lts
use Rattle.dimacs.proofs.size.Tie as tie
use Rattle.dimacs.proofs.size.Reads as reads

abbrev At-Else1 : Type 0
At-Else1 = lts.Else1 tie.the-claims reads.Pre reads.Post tie.handed_clauses

pub returns-then-not-is_list : goal.returns-then-not-is_list
returns-then-not-is_list c =
    let a = c.args in
    sym (size-refused a.v a.list.now (sym c.before.is_list.ensures ∙ c.if-not-is_list.true))

passed : (c : At-Else1) → is_list c.args.v c.args.list.now ≡ true
passed c = sym c.before.is_list.ensures ∙ c.if-not-is_list.false

pub measure-measured-requires : goal.measure-measured-requires
measure-measured-requires c = passed c

pub returns : goal.returns
returns c =
    let a = c.args in
    ap bytes c.measure-measured.ensures.bytes_value ∙ sym (size-bytes a.v a.list.now (passed c.before))
