-- `search_core::steps::back` meets its contract. The loop's invariant: for every state that the slices held at first, they hold one
-- with the same turn. Assumes nothing.
use mathlib.Core.Path.{◌≡◌}
use lib.ListN.{length}
use Rattle.clause_list.specs.ClauseList.{clauses_of}
use Rattle.search_rules.specs.Held.{Stored}
use Rattle.search_index.specs.Index.{Watched}
use Rattle.search_rules.specs.Rules.{State}
use Rattle.search_core.proofs.Slices.{Went}
use Rattle.search_core.proofs.steps.back.Given as goal

abbrev pub invariant-loop-n : goal.invariant-loop-n
invariant-loop-n l =
    ((state : State) → Stored (length l.initial.values) state l.initial.values l.initial.trail l.used
    → Went (length l.initial.values) state l.values l.trail l.n)
    × Watched (clauses_of l.list) l.values l.chains l.weights × (length l.weights ≡ length l.initial.weights)

abbrev pub decreases-loop-n : goal.decreases-loop-n
decreases-loop-n l = l.n
