-- `put_found` meets its contract: the line of `found`, and then the lines of the instance.
use Rattle.std.proofs.Common.{◌≡◌, ap, sym}
use Rattle.text.specs.Texts.{bytes_of, end_line}
use Rattle.text.proofs.Puts.{put_as, put_both}
use Rattle.sheet_rules.specs.Blocks.{sheet_of}
use Rattle.sheet_rules.specs.Reading.{Answer, accepted, reading}
use Rattle.report.specs.Printed.{lines_of}
use Rattle.report.proofs.finder.put_found.Goals as goal

pub returns-in-Ok-clause-put : goal.returns-in-Ok-clause-put
returns-in-Ok-clause-put c =
    let f = ap (end_line (bytes_of "found ")) c.step_figure.ensures in
    let taken : reading c.args.input.now ≡ accepted c.in-Ok.sheet.layout = rw c.in-Ok.ensures.same_bytes at c.in-Ok.sheet.taken in
    let g = ap (λ (x : Answer). lines_of x (sheet_of c.args.input.now) c.args.instance.now) (sym taken) in
    let lines = rw c.in-Ok.ensures.same_bytes at c.put_lines.ensures.put in
    put_both (put_as f c.put_end-at.ensures.put) (put_as g lines)
