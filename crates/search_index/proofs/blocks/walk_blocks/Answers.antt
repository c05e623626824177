use Rattle.search_index.proofs.Flags.{least-of, long-enough, search-down, search-lowered}
use Rattle.search_index.proofs.blocks.walk_blocks.Goals as goal
use Rattle.search_index.proofs.blocks.walk_blocks.Goals.{then-weights-b-eq1+else-c-end, else-weights-b-eq1}

pub bounds-weights-b : goal.bounds-weights-b
bounds-weights-b c =
    long-enough _ _ _ _ _ c.requires.m_le_limit c.loop-at.invariant c.loop-at-test.true

pub bounds-weights-b-then-weights-b-eq1 : goal.bounds-weights-b-then-weights-b-eq1
bounds-weights-b-then-weights-b-eq1 c =
    long-enough _ _ _ _ _ c.requires.m_le_limit
    c.loop-at.invariant c.loop-at-test.true

pub loop-at-preserved : goal.loop-at-preserved
loop-at-preserved c =
    let few = c.requires.m_le_limit in
    let inv = c.loop-at.invariant in
    let inside = c.loop-at-test.true in
    elim c.if-weights-b-eq1.branch [
      | then-weights-b-eq1+else-c-end w ↦
          let le = least-of _ _ _ w.min-end.ensures in
          search-lowered _ _ _ _ _ few inv inside _ _ le.0 le.1 le.2 w.unit_within-c.ensures _ w.weights-is
          w.if-c-end.false
      | else-weights-b-eq1 w ↦ rw w.weights-is (search-down _ _ _ _ _ few inv inside w.if-weights-b-eq1.false)
    ]
