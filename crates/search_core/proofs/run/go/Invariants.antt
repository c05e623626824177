-- `search_core::run::go` meets its contract. Assumes nothing.
use mathlib.Core.Path.{◌≡◌}
use Prim.Native.Nat.{◌-◌}
use lib.ListN.{length}
use Rattle.clause_list.specs.ClauseList.{clauses_of}
use Rattle.search_index.specs.Index.{Watched}
use Rattle.search_core.proofs.RunCode.{Loop}
use Rattle.search_core.proofs.run.go.Given as goal

abbrev pub invariant-loop : goal.invariant-loop
invariant-loop l =
    Loop (clauses_of l.list) l.budget l.initial.values l.initial.trail l.initial.position l.values l.trail l.position
    (l.budget - l.counter)
    × Watched (clauses_of l.list) l.values l.chains l.weights × (length l.weights ≡ length l.initial.weights)
