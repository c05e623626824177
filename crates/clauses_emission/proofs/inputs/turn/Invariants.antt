-- The invariant: before the index stand the opposites, behind it what was there.
use Rattle.std.proofs.Common.{◌≡◌, map, take, drop}
use Rattle.literal.specs.Literals.{opposite}
use Rattle.clauses_emission.specs.Emission.{literals_of}
use Rattle.clauses_emission.proofs.inputs.turn.Given as goal

abbrev pub invariant-loop-l : goal.invariant-loop-l
invariant-loop-l l = record {
  turned : literals_of (take l.l-index l.inputs) ≡ map opposite (literals_of (take l.l-index l.initial.inputs));
  rest : drop l.l-index l.inputs ≡ drop l.l-index l.initial.inputs;
}
