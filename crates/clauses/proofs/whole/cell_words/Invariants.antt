-- The words of the cells passed stand there.
use Rattle.clauses.specs.Translating.{CellWords}
use Rattle.clauses.proofs.whole.cell_words.Given as goal

abbrev pub invariant-loop-i : goal.invariant-loop-i
invariant-loop-i l = CellWords l.i l.words
