-- The calls made so far lead from the start to where the loop stands; each round leaves one call fewer.
use Prim.Native.Nat.{◌-◌}
use Rattle.search.specs.Resuming.{start}
use Rattle.listing.specs.Printed.{standing}
use Rattle.console_every.proofs.Looping.{Loop}
use Rattle.console_every.proofs.print_cases.Given as goal

abbrev pub invariant-loop : goal.invariant-loop
invariant-loop l =
    Loop l.list l.v (standing l.initial.values l.initial.trail start) (standing l.values l.trail l.at) (18446744073709 - l.counter)
