-- `search_scan::scan` meets its contract. Assumes nothing.
use Prim.Native.Nat.{◌-◌}
use lib.ListN.{length}
use Rattle.search_scan.proofs.ScanLoops.{Outer, Inner}
use Rattle.search_scan.proofs.scan.Given as goal

abbrev pub invariant-loop-i : goal.invariant-loop-i
invariant-loop-i l = Inner l.list l.values l.initial.i l.at l.i l.open l.unit

abbrev pub decreases-loop-i : goal.decreases-loop-i
decreases-loop-i l = l.at - l.i

abbrev pub invariant-clauses : goal.invariant-clauses
invariant-clauses l = Outer l.list l.values l.at l.unit

abbrev pub decreases-clauses : goal.decreases-clauses
decreases-clauses l = length l.list - l.at
