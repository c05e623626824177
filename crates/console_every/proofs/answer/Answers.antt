-- What `answer` comes to: the refusal that `begin` put, or the cases of the list and the v that it gave, whose numbers fit.
use Rattle.std.proofs.Common.{rules, arith, sym, ◌∙◌, ap, take, length-take-le}
use Rattle.listing.proofs.Beginning.{sized, cases_fit}
use Rattle.console_every.specs.Listed.{BeginGives, listing}
use Rattle.console_every.proofs.Opening.{refusal-put}
use Rattle.console_every.proofs.Told.{told}
use Rattle.console_every.proofs.answer.Goals as goal

pub slice_bounds-list-end : goal.slice_bounds-list-end
slice_bounds-list-end c =
    let e = c.begin-begun.ensures in
    let f = cases_fit c.args.input.now _ c.in-Ok.size (sym c.in-Ok.is ∙ e.value) in
    rw e.list_after f.0

pub slice_bounds-list_cases-end : goal.slice_bounds-list_cases-end
slice_bounds-list_cases-end c =
    let e = c.begin-begun.ensures in
    let f = cases_fit c.args.input.now _ c.in-Ok.size (sym c.in-Ok.is ∙ e.value) in
    sym (length-take-le _ c.begin-begun.new.list (rw e.list_after f.0))

pub overflow_cast-size : goal.overflow_cast-size
overflow_cast-size c =
    let f = cases_fit c.args.input.now _ c.in-Ok.size (sym c.in-Ok.is ∙ c.begin-begun.ensures.value) in
    let h = f.1 in search rules

pub list_cases-requires : goal.list_cases-requires
list_cases-requires c =
    let size = c.in-Ok.size in
    let e = c.begin-begun.ensures in
    record {
      clauses = size.clauses;
      words = size.words;
      numbers = sized _ size (sym c.in-Ok.is ∙ e.value);
      list_is = ap (take size.words) e.list_after;
    }

pub returns-in-Err : goal.returns-in-Err
returns-in-Err c =
    let e = c.begin-begun.ensures in
    refusal-put c.begin-begun.result _ c.in-Err.is e.value e.prints

pub returns-in-Ok : goal.returns-in-Ok
returns-in-Ok c =
    let size = c.in-Ok.size in
    let e = c.begin-begun.ensures in
    let g : BeginGives c.args.input.now (take size.words c.begin-begun.new.list) size.variables = record {
      clauses = size.clauses;
      words = size.words;
      numbers = sized _ size (sym c.in-Ok.is ∙ e.value);
      list_is = ap (take size.words) e.list_after;
    } in
    listing g c.list_cases.ensures (told g c.list_cases.ensures)
