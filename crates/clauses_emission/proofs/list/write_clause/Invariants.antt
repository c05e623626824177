-- The invariant: what is still to be put are the others from the next one on.
use Rattle.std.proofs.Common.{◌≡◌, ◌+◌, drop}
use Rattle.prelude.specs.Stores.{put_all}
use Rattle.clauses_emission.proofs.list.write_clause.Given as goal

abbrev pub invariant-loop-k : goal.invariant-loop-k
invariant-loop-k l = put_all l.rest (2 + l.k) (drop l.k l.others) ≡ put_all l.initial.rest 2 l.others
