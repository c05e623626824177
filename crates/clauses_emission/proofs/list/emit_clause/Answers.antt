use Rattle.std.proofs.Common.{length, refl, sym, ap, ◌∙◌, arith}
use Rattle.prelude.specs.Stores.{put_all}
use Rattle.literal.proofs.Signs.{back}
use Rattle.clauses_emission.proofs.Writes.{words-one}
use Rattle.clauses_emission.proofs.list.emit_clause.Goals as goal

pub returns : goal.returns
returns c =
    let e = words-one c.args.first c.args.others.now in
    record {
      next = refl;
      writes = record {
        clauses = refl;
        words = omega (arith, ap length e);
        list =
            (rw (back c.args.first c.ranges.first) at c.write_at.ensures)
            ∙ ap (put_all c.args.list.now c.args.tape.now.words) (sym e);
      };
    }
