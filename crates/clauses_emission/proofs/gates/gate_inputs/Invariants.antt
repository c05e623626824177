-- The invariant: the clauses of the inputs passed are written.
use Rattle.std.proofs.Common.{take}
use Rattle.clauses_rules.specs.Gates.{input_clauses}
use Rattle.clauses_emission.specs.Emission.{literals_of, Appends}
use Rattle.clauses_emission.proofs.gates.gate_inputs.Given as goal

abbrev pub invariant-loop-l : goal.invariant-loop-l
invariant-loop-l l =
    Appends (input_clauses l.initial.tape.next (literals_of (take l.l-index l.inputs))) l.initial.list l.initial.tape l.list l.tape
