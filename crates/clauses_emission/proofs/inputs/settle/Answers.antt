use Rattle.std.proofs.Common.{◌≡◌, ℕ, List, ◌∷◌, get_or, take, sym, ◌∙◌, ℤ, pos, rules}
use mir.Syntax.{w32}
use mir.Val.{SFits}
use Rattle.literal.specs.Words.{literal_of}
use Rattle.literal.proofs.Signs.{read, back}
use Rattle.clauses_rules.specs.Translation.{absent}
use Rattle.clauses_emission.specs.declared.Seen.{Seen}
use Rattle.clauses_emission.specs.Emission.{literals_of}
use Rattle.clauses_emission.specs.Settling.{seen_in}
use Rattle.clauses_emission.proofs.Ranges.{literal-at}
use Rattle.clauses_emission.proofs.Rests.{rest_at}
use Rattle.clauses_emission.proofs.InPlace.{settling-new, settling-old, settling-true, settling-done}
use Rattle.clauses_emission.proofs.inputs.settle.Goals as goal
use Rattle.clauses_emission.proofs.inputs.settle.Goals.{in-Nothing, in-Itself}

-- what is seen of the next input
saw : (out : List ℤ) (w : ℤ) (n : ℕ) (s t : Seen) → SFits w32 w → t ≡ s
    → t ≡ seen_in (absent ∷ literals_of (take n out)) (literal_of (read w))
    → seen_in (absent ∷ literals_of (take n out)) (literal_of w) ≡ s
saw out w n s t f g e = sym (rw (back w f) at e) ∙ g

pub look-requires : goal.look-requires
look-requires c =
    let loop = c.loop-k in
    let ws = c.args.inputs.now in
    rw (back (get_or loop.inputs loop.k (pos 0)) (search rules), rest_at loop.inputs ws loop.k loop.invariant.rest)
    (rw (literal-at ws loop.k c.loop-k-test.true) at (c.requires loop.k))

pub returns-in-Opposite : goal.returns-in-Opposite
returns-in-Opposite c =
    let loop = c.loop-k in
    settling-true c.args.inputs.now loop.inputs loop.n loop.k c.loop-k-test.true loop.invariant
    (saw loop.inputs (get_or loop.inputs loop.k (pos 0)) loop.n _ _ (search rules) c.in-Opposite.is c.look.ensures)

pub loop-k-preserved : goal.loop-k-preserved
loop-k-preserved c =
    let loop = c.loop-k in
    let ws = c.args.inputs.now in
    let h = c.loop-k-test.true in
    let w = get_or loop.inputs loop.k (pos 0) in
    let f : SFits w32 w = search rules in
    elim c.match-look.branch [
      | in-Nothing v ↦ rw (v.inputs-is, v.n-is, back w f)
          (settling-new ws loop.inputs loop.n loop.k h loop.invariant
          (saw loop.inputs w loop.n _ _ f v.in-Nothing.is c.look.ensures))
      | in-Itself v ↦ rw (v.inputs-is, v.n-is)
          (settling-old ws loop.inputs loop.n loop.k h loop.invariant
          (saw loop.inputs w loop.n _ _ f v.in-Itself.is c.look.ensures))
    ]

pub returns : goal.returns
returns c = settling-done c.args.inputs.now c.loop-k.inputs c.loop-k.n c.loop-k.k c.loop-k-test.false c.loop-k.invariant
