-- `search_index::blocks::first_unit` meets its contract. Assumes nothing.
use mathlib.Core.Path.{◌∙◌}
use native.Mathlib.Omega.{arith}
use lib.ListN.{length-set}
use Rattle.search_index.proofs.Flags.{begins-there}
use Rattle.search_index.proofs.blocks.first_unit.Goals as goal

pub shape_of-weights : goal.shape_of-weights
shape_of-weights c =
    length-set c.walk_blocks-c.new.weights 17409 _ ∙ c.walk_blocks-c.ensures.same.0.long

pub returns : goal.returns
returns c =
    let e = c.walk_blocks-c.ensures in
    let small = c.requires.m_le_limit in record {
      stopped = e.stopped;
      same = begins-there _ _ _ _ _ small e.stopped (omega arith) e.same.0 e.same.1;
    }
