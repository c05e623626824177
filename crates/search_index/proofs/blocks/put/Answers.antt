-- `search_index::blocks::put` meets its contract. Assumes nothing.
use mathlib.Core.Path.{sym, ◌∙◌}
use lib.ListN.{length-set}
use Rattle.search_index.proofs.WeightCode.{note-asks, put-noted, put_same}
use Rattle.search_index.proofs.blocks.put.Goals as goal

pub note_status-requires : goal.note_status-requires
note_status-requires c =
    let s = c.before.before.before.before.before.before in record {
      weights_len =
          (length-set s.args.weights.now s.args.c s.args.w ∙ s.requires.weights_len.0, s.requires.weights_len.1);
      weights_bound =
          note-asks s.args.weights.now _ s.args.w s.requires.weights_len.0 s.requires.weights_len.1 _ _
          c.status-old.ensures
          s.requires.c_bound.0 s.requires.c_bound.1 c.if-new-old.true;
    }

pub returns-then-new-old : goal.returns-then-new-old
returns-then-new-old c =
    let s = c.before.before.before.before.before.before.before.before.before.before in
    put-noted _ _ _ s.requires.weights_len.0 s.requires.weights_len.1 _ _ _ c.status-old.ensures
    c.status-new.ensures c.note_status.ensures

pub returns-else-new-old : goal.returns-else-new-old
returns-else-new-old c =
    let s = c.before.before.before.before.before in
    put_same _ _ _ s.requires.weights_len.0 s.requires.weights_len.1
    (sym c.status-new.ensures ∙ c.if-new-old.false ∙ c.status-old.ensures)
