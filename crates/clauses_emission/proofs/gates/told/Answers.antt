-- Each way in which OR is told, and that else it is a gate.
use Rattle.std.proofs.Common.{◌≡◌, sym, ap, ◌∙◌, ℤ, pos, negsuc, arith}
use mathlib.Core.Logic.{⊎_elim}
use mir.Syntax.{w32}
use mir.Val.{SFits, of_z}
use Rattle.literal.specs.Literals.{opposite}
use Rattle.literal.specs.Words.{literal_of, opposite_word}
use Rattle.literal.proofs.Signs.{read, back, same-as, same_word}
use Rattle.literal.proofs.Same.{one_word}
use Rattle.clauses_rules.specs.Translation.{absent}
use Rattle.clauses_emission.specs.Emission.{Inside}
use Rattle.clauses_emission.proofs.Ranges.{opposite-read, inside_one}
use Rattle.clauses_emission.proofs.Twos.{or-absent-first, or-absent-second, or-repeat, or-one-first, or-one-second}
use Rattle.clauses_emission.proofs.Twos.{or-opposites}
use Rattle.clauses_emission.proofs.gates.told.Goals as goal

-- a word that is no constant
not-absent : (w : ℤ) → (of_z w32 w ≡ 4294967295 → ⊥) → literal_of w ≡ absent → ⊥
not-absent w n e = n (ap (of_z w32) (one_word w (negsuc 0) e))

pub returns-then-p-eqminus1 : goal.returns-then-p-eqminus1
returns-then-p-eqminus1 c =
    let p = c.args.p in
    let q = c.args.q in
    rw (back q c.ranges.q)
    (record {
      value = λ g. or-absent-first (literal_of p) (literal_of q) g (ap literal_of (same-as p c.ranges.p c.if-p-eqminus1.true));
      inside = λ h i j. j;
    })

pub returns-then-p-q : goal.returns-then-p-q
returns-then-p-q c =
    let p = c.args.p in
    let q = c.args.q in
    let n = not-absent p c.if-p-eqminus1.false in
    rw (back p c.ranges.p)
    (record {
      value = λ g.
          ⊎_elim
          (λ e. or-absent-second (literal_of p) (literal_of q) g n (ap literal_of (same-as q c.ranges.q e)))
          (λ e. or-repeat (literal_of p) (literal_of q) g n (not-absent q e.0) (ap literal_of (same_word p q c.ranges.p c.ranges.q e.1)))
          c.if-p-q.either;
      inside = λ h i j. i;
    })

-- the word of the opposite literal
turned : (q r : ℤ) → SFits w32 q → Inside 16002 (literal_of q) → SFits w32 r → r ≡ opposite_word (read q)
    → literal_of r ≡ opposite (literal_of q)
turned q r f i g e = ap literal_of (sym (back r g)) ∙ opposite-read 16002 q r (omega arith) f i e g

pub returns-then-p-other : goal.returns-then-p-other
returns-then-p-other c =
    let p = c.args.p in
    let q = c.args.q in
    let o = c.opposite-other in
    let f : SFits w32 o.result = record { sfits = o.type_inv } in
    record {
      value = λ g.
          ⊎_elim
          (λ e. or-one-first (literal_of p) (literal_of q) g (ap literal_of (same-as p c.ranges.p e)))
          (λ s.
          ⊎_elim
          (λ e. or-one-second (literal_of p) (literal_of q) g (ap literal_of (same-as q c.ranges.q e.1)))
          (λ e. or-opposites (literal_of p) (literal_of q) g
          (ap literal_of (same_word p o.result c.ranges.p f e.2) ∙ turned q o.result c.ranges.q c.requires.inside_2 f o.ensures))
          s)
          c.if-p-other.either;
      inside = λ {n} h i j. inside_one n h;
    }

pub returns-else-p-other : goal.returns-else-p-other
returns-else-p-other c =
    let p = c.args.p in
    let q = c.args.q in
    let o = c.opposite-other in
    let t = turned q o.result c.ranges.q c.requires.inside_2 (record { sfits = o.type_inv }) o.ensures in
    record {
      first_absent = not-absent p c.if-p-eqminus1.false;
      second_absent = not-absent q c.if-p-q.false.0;
      repeat = λ e. c.if-p-q.false.1 (ap (of_z w32) (one_word p q e));
      first_one = λ e. c.if-p-other.false.0 (ap (of_z w32) (one_word p (pos 1) e));
      second_one = λ e. c.if-p-other.false.1 (ap (of_z w32) (one_word q (pos 1) e));
      opposites = λ e. c.if-p-other.false.2 (ap (of_z w32) (one_word p o.result (e ∙ sym t)));
    }
