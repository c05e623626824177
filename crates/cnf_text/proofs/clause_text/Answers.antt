-- `clause_text` meets its contract: what writing ensures, as text.
use mathlib.Core.Path.{sym, ap, ◌∙◌, subst}
use Prim.Native.Nat.{◌≤◌}
use native.Mathlib.Omega.{arith}
use lib.ListN.{length, take}
use Rattle.text.specs.Texts.{bytes_of, end_line}
use Rattle.text.proofs.Puts.{put_as, prints, counts}
use Rattle.sheet_rules.specs.Blocks.{sheet_of}
use Rattle.clauses.specs.Answers.{answer_of}
use Rattle.dimacs.specs.Text.{text_of}
use Rattle.cnf_text.specs.Private.{PrintsText}
use Rattle.cnf_text.specs.Printed.{text_as}
use Rattle.cnf_text.proofs.Texts.{long-clauses, long-list, short-clauses, short-list, text-counts}
use Rattle.cnf_text.proofs.Texts.{written-inside, written_listed, written-fits, written-text}
use Rattle.cnf_text.proofs.clause_text.Goals as goal

pub returns-then-input-gt4096 : goal.returns-then-input-gt4096
returns-then-input-gt4096 c =
    let h = c.if-input-gt4096.true in
    let p = put_as (sym (long-clauses c.args.input.now c.args.list.now h)) c.put_end.ensures.put in
    let l : c.put_end.result ≤ length c.args.text.now = omega (arith, c.put_end.ensures.upper_bound) in record {
      upper_bound = counts p l;
      prints = prints p l;
      list_after = sym (long-list c.args.input.now c.args.list.now h);
    }

pub put_clauses-requires : goal.put_clauses-requires
put_clauses-requires c =
    let input = c.args.input.now in
    let list = c.args.list.now in
    let e = sym c.write-written.ensures.result_value ∙ ap answer_of c.in-Ok.is in record {
      words_in_bounds = rw c.write-written.ensures.list_after (written-inside input list _ _ _ e);
      list_value = rw c.write-written.ensures.list_after
          (written_listed input list _ _ _ e (omega (arith, c.told-list)));
      list_in_bounds = rw c.write-written.ensures.list_after
          (omega (arith, written-fits input list _ _ _ e (omega (arith, c.told-list)), c.told-text));
    }

pub returns-in-Err : goal.returns-in-Err
returns-in-Err c =
    let input = c.args.input.now in
    let list = c.args.list.now in
    let h = c.if-input-gt4096.false in
    let a = ap answer_of (sym c.in-Err.is) ∙ c.write-written.ensures.result_value in
    let e =
    ap (end_line (bytes_of "refused ")) c.number.ensures
    ∙ ap (λ x. text_as x (sheet_of input)) a
    ∙ sym (short-clauses input list h)
    in
    let p = put_as e c.put_end-in-Err.ensures.put in
    let l : c.put_end-in-Err.result ≤ length c.args.text.now =
    omega (arith, c.put_end-in-Err.ensures.upper_bound)
    in record {
      upper_bound = counts p l;
      prints = prints p l;
      list_after = c.write-written.ensures.list_after ∙ sym (short-list input list h);
    }

pub returns-in-Ok : goal.returns-in-Ok
returns-in-Ok c =
    let input = c.args.input.now in
    let list = c.args.list.now in
    let h = c.if-input-gt4096.false in
    let z = c.in-Ok.size in
    let a = sym c.write-written.ensures.result_value ∙ ap answer_of c.in-Ok.is in
    let e =
    ap (λ x. text_of z.variables (take z.words x)) c.write-written.ensures.list_after
    ∙ written-text input list _ _ _ a h
    in
    let p = subst (λ x. PrintsText x c.args.text.now c.put_clauses.new.text c.put_clauses.result) e
    c.put_clauses.ensures
    in record {
      upper_bound = text-counts p;
      prints = p.prints;
      list_after = c.write-written.ensures.list_after ∙ sym (short-list input list h);
    }
