use Rattle.std.proofs.Common.{◌≡◌, get_or, sym, ap, ◌∙◌, ℤ, pos, add-one, arith, rules}
use mir.Syntax.{w32}
use mir.Val.{SFits, of_z}
use Rattle.literal.specs.Literals.{opposite}
use Rattle.literal.specs.Words.{literal_of, opposite_word}
use Rattle.literal.proofs.Signs.{read, back, same_word, same-as}
use Rattle.literal.proofs.Same.{one_word}
use Rattle.clauses_emission.specs.Emission.{Inside}
use Rattle.clauses_emission.proofs.Ranges.{opposite-read}
use Rattle.clauses_emission.proofs.Looks.{look-itself, look-opposite, look-past, look-end, look-absent, look_one}
use Rattle.clauses_emission.proofs.Looks.{look-further}
use Rattle.clauses_emission.proofs.inputs.look.Goals as goal

-- the word of the opposite literal
turned : (l r : ℤ) → SFits w32 l → SFits w32 r → Inside 16002 (literal_of l) → r ≡ opposite_word (read l)
    → literal_of r ≡ opposite (literal_of l)
turned l r f g i e = ap literal_of (sym (back r g)) ∙ opposite-read 16002 l r (omega arith) f i e g

pub returns-then-l-eqminus1 : goal.returns-then-l-eqminus1
returns-then-l-eqminus1 c = sym (look-absent c.args.l _ (same-as c.args.l c.ranges.l c.if-l-eqminus1.true))

pub returns-then-l-eq1 : goal.returns-then-l-eq1
returns-then-l-eq1 c = sym (look_one c.args.l _ (same-as c.args.l c.ranges.l c.if-l-eq1.true))

pub loop-m-init : goal.loop-m-init
loop-m-init c =
    let l = c.args.l in
    rw (back l c.ranges.l)
    (sym (look-further l _ (λ e. c.if-l-eqminus1.false (ap (of_z w32) e)) (λ e. c.if-l-eq1.false (ap (of_z w32) e))))

pub returns-then-m-l : goal.returns-then-m-l
returns-then-m-l c =
    let ws = c.args.kept.now in
    let l = c.args.l in
    let k = c.loop-m.m-index in
    let e = same_word (get_or ws k (pos 0)) l (search rules) c.ranges.l c.if-m-l.true in
    sym (look-itself ws k c.loop-m-test.true l e) ∙ (rw (back l c.ranges.l) at c.loop-m.invariant)

pub returns-then-m-other : goal.returns-then-m-other
returns-then-m-other c =
    let ws = c.args.kept.now in
    let l = c.args.l in
    let k = c.loop-m.m-index in
    let o = c.opposite-other in
    let g : SFits w32 o.result = record { sfits = o.type_inv } in
    let e = same_word (get_or ws k (pos 0)) o.result (search rules) g c.if-m-other.true in
    sym
    (look-opposite ws k c.loop-m-test.true l (λ f. c.if-m-l.false (ap (of_z w32) f))
    (ap literal_of e ∙ turned l o.result c.ranges.l g c.requires o.ensures))
    ∙ (rw (back l c.ranges.l) at c.loop-m.invariant)

pub loop-m-preserved : goal.loop-m-preserved
loop-m-preserved c =
    let ws = c.args.kept.now in
    let l = c.args.l in
    let k = c.loop-m.m-index in
    let o = c.opposite-other in
    let t = turned l o.result c.ranges.l (record { sfits = o.type_inv }) c.requires o.ensures in
    let past = look-past ws k c.loop-m-test.true l (λ f. c.if-m-l.false (ap (of_z w32) f))
    (λ f. c.if-m-other.false (ap (of_z w32) (one_word (get_or ws k (pos 0)) o.result (f ∙ sym t)))) in
    rw (add-one k, back l c.ranges.l) (sym past ∙ (rw (back l c.ranges.l) at c.loop-m.invariant))

pub returns : goal.returns
returns c =
    let l = c.args.l in
    sym (look-end c.args.kept.now c.loop-m.m-index (literal_of l) c.loop-m-test.false)
    ∙ (rw (back l c.ranges.l) at c.loop-m.invariant)
