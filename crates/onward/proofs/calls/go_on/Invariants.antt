-- The calls made so far, with any that take up what they left, are a chain from the start.
use Prim.Native.Nat.{◌-◌}
use Rattle.onward.proofs.CallByCall.{Loop, most-calls}
use Rattle.onward.proofs.calls.go_on.Given as goal

abbrev pub invariant-loop-done : goal.invariant-loop-done
invariant-loop-done l = Loop l.list l.v l.initial.values l.initial.trail l.values l.trail l.position (most-calls - l.done)
