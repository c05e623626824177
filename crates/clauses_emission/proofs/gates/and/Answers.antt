use Rattle.std.proofs.Common.{arith}
use Rattle.clauses_emission.specs.Emission.{literals_of}
use Rattle.clauses_emission.proofs.Ranges.{all-opposites}
use Rattle.clauses_emission.proofs.gates.and.Goals as goal

pub or-requires-clause-inputs : goal.or-requires-clause-inputs
or-requires-clause-inputs c = record {
  few = omega (arith, c.requires.inputs.few, c.turn.auto);
  inside = rw c.turn.ensures
      (all-opposites (literals_of c.args.inputs.now) c.requires.bounded.first c.requires.inputs.inside);
}
