-- The invariant: what is seen from the index on is what is seen among all.
use Rattle.std.proofs.Common.{◌≡◌, ◌∷◌, drop}
use Rattle.literal.specs.Words.{literal_of}
use Rattle.clauses_rules.specs.Translation.{absent}
use Rattle.clauses_emission.specs.Emission.{literals_of}
use Rattle.clauses_emission.specs.Settling.{seen_in}
use Rattle.clauses_emission.proofs.inputs.look.Given as goal

abbrev pub invariant-loop-m : goal.invariant-loop-m
invariant-loop-m l =
    seen_in (literals_of (drop l.m-index l.kept)) (literal_of l.l) ≡ seen_in (absent ∷ literals_of l.kept) (literal_of l.l)
