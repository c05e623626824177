-- `search_index::blocks::note_status` meets its contract. Assumes nothing.
use mathlib.Core.Path.{◌∙◌}
use lib.ListN.{length-set}
use Rattle.search_index.proofs.WeightCode.{Follows, follow, leave, noted}
use Rattle.search_index.proofs.blocks.note_status.Goals as goal
use Rattle.search_index.proofs.blocks.note_status.Goals.{then-new-eq2, else-new-eq2}
use Rattle.search_index.proofs.blocks.note_status.Lts as lts
use Rattle.search_index.proofs.blocks.note_status.Tie as tie
use Rattle.search_index.proofs.blocks.note_status.Reads as reads

abbrev At-Joined1 : Type 0
At-Joined1 = lts.Joined1 tie.the-claims reads.Pre reads.Post tie.handed_clauses

-- the weights behind the branch
follows : (c : At-Joined1) → Follows c.args.weights.now c.args.c
    c.args.new c.if-new-eq2.weights
follows c = elim c.if-new-eq2.branch [
  | then-new-eq2 w ↦ rw w.weights-is (follow _ _ _ _ w.raise.ensures)
  | else-new-eq2 w ↦ leave _ _ _ _ w.if-new-eq2.false w.weights-is
]

pub shape_of-weights : goal.shape_of-weights
shape_of-weights c = length-set c.if-new-eq2.weights 17408 c.recount.result ∙ (follows c.before.before).long

pub returns : goal.returns
returns c =
    let s = c.before.before.before.before in
    noted _ _ _ _ _ _ s.requires.weights_len.0 s.requires.weights_len.1 (follows c.before.before) c.recount.ensures
