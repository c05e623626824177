-- The version, the blocks' end, and then the blocks decide.
use Rattle.std.proofs.Common.{◌∙◌, ap, length}
use borrow.Author.Tests.{eq-eqb, ne_eqb}
use Rattle.sheet_rules.specs.Blocks.{byte, blocks_end}
use Rattle.sheet_rules.specs.Reading.{reading, whole_judged}
use Rattle.sheet.proofs.Parts.{end_is, parts_are}
use Rattle.sheet.proofs.Verdicts.{refuse-false, pass-true}
use Rattle.sheet.proofs.read.Goals as goal

pub returns-then-byte-ne1 : goal.returns-then-byte-ne1
unfolding reading
returns-then-byte-ne1 c = refuse-false _ 1 _ (ne_eqb _ 1 (λ q. c.if-byte-ne1.true (c.byte.ensures.0 ∙ q)))

pub returns-then-end-sheet : goal.returns-then-end-sheet
unfolding reading
returns-then-end-sheet c =
    let s = c.args.sheet.now in
    let e = end_is s _ _ _ _ c.after-variables_head.ensures.0 c.after-relations_head.ensures.0
    c.after-nodes_head.ensures.0 c.after-end.ensures.0 in
    pass-true _ 1 _ _ (eq-eqb (byte s 0) 1 cc) (refuse-false _ 2 _ (ne_eqb _ _ (λ q. c.if-end-sheet.true (e ∙ q))))

pub returns : goal.returns
unfolding reading
returns c =
    let s = c.args.sheet.now in
    let v = c.after-variables_head.ensures.0 in
    let r = c.after-relations_head.ensures.0 in
    let n = c.after-nodes_head.ensures.0 in
    let e = c.after-end.ensures.0 in
    let end = end_is s _ _ _ _ v r n e in
    pass-true _ 1 _ _ (eq-eqb (byte s 0) 1 cc) (pass-true _ 2 _ _ (eq-eqb (blocks_end s) (length s) cc)
    (c.judge_blocks.ensures ∙ ap whole_judged (parts_are s _ _ _ _ v r n e)))
