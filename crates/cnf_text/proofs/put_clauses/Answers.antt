-- `put_clauses` meets its contract: a list that is one has a figure, and a slice of as many bytes is filled.
use mathlib.Core.Path.{sym, ap, ◌∙◌}
use native.Mathlib.Omega.{arith}
use lib.ListN.{take}
use lib.Seq.{length-take-le}
use Rattle.clause_list.proofs.Laws.{list-most-variables}
use Rattle.dimacs.specs.Answers.{answer_of}
use Rattle.cnf_text.proofs.Texts.{not_refused, part-inside, part-printed}
use Rattle.cnf_text.proofs.put_clauses.Goals as goal

pub overflow_cast-v : goal.overflow_cast-v
overflow_cast-v c =
    let ws = take c.args.size.words c.args.list.now in
    omega (arith, list-most-variables c.args.size.variables ws c.requires.list_value)

pub returns-in_default : goal.returns-in_default
returns-in_default c =
    let a = ap answer_of (sym c.in_default.is) ∙ c.size-sized.ensures in
    absurd (not_refused c.args.size.variables (take c.args.size.words c.args.list.now) c.requires.list_value _ a)

pub slice_bounds-write-end : goal.slice_bounds-write-end
slice_bounds-write-end c =
    part-inside c.args.size.variables (take c.args.size.words c.args.list.now) c.args.text.now
    c.requires.list_in_bounds _ (sym c.size-sized.ensures ∙ ap answer_of c.in-Ok.is)

pub slice_bounds-write-end-2 : goal.slice_bounds-write-end-2
slice_bounds-write-end-2 c =
    sym
    (length-take-le _ _
    (part-inside c.args.size.variables (take c.args.size.words c.args.list.now) c.args.text.now
    c.requires.list_in_bounds _ (sym c.size-sized.ensures ∙ ap answer_of c.in-Ok.is)))

pub returns : goal.returns
returns c =
    rw c.write.ensures.text_after
    (part-printed c.args.size.variables (take c.args.size.words c.args.list.now) c.args.text.now
    c.requires.list_in_bounds _ (sym c.size-sized.ensures ∙ ap answer_of c.in-Ok.is))
