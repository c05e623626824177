use Rattle.std.proofs.Common.{◌≡◌, ℕ, ◌*◌, ◌≤◌, ◌<◌, length, get_or, refl, sym, pos, arith, rules}
use lib.Seq.{length-take-le}
use Rattle.literal.proofs.Signs.{back}
use Rattle.relational.specs.Matrices as matrices
use Rattle.clauses_rules.specs.Builder.{◌>>=◌, each}
use Rattle.clauses_rules.specs.Gates.{or}
use Rattle.clauses_rules.specs.Translation.{both}
use Rattle.clauses_emission.specs.declared.Pairing.TheVariants.{Both}
use Rattle.clauses_emission.proofs.Ranges.{inside-grows}
use Rattle.clauses_emission.proofs.Ors.{emits-negated}
use Rattle.clauses_emission.proofs.Steps.{regular-each, regular-pairing, regular-or, emits-bind, emits-as}
use Rattle.clauses_matrix.specs.Matrices.{Literals, matrix_of, Operand}
use Rattle.clauses_matrix.proofs.Fills.{operand_at, operand-inside, cells-length}
use Rattle.clauses_matrix.proofs.Pairs.{passed_start, passed-room, passed-right, passed_down, passed-all, passed-few, passed-inputs, never_both}
use Rattle.clauses_matrix.proofs.truths.lone.Goals as goal

module _ {n : ℕ} {p : Literals} (o : Operand n p) where
  size_of : length (matrix_of p).cells ≡ p.rows * p.columns
  size_of = cells-length (p.rows * p.columns) n p.cells o.cells

  few : length (matrix_of p).cells ≤ 64
  few = rw size_of o.cells.small

  inner : {j : ℕ} → j < p.rows * p.columns → j < length (matrix_of p).cells
  inner h = rw size_of h

  below : {j : ℕ} → j < p.rows * p.columns → j < 64
  below h = omega (arith, inner h, few)

pub loop-i-init : goal.loop-i-init
loop-i-init c = passed_start (matrix_of c.args.p).cells c.args.list.now c.args.tape.now c.requires.bounded

pub meet-requires-clause-inside : goal.meet-requires-clause-inside
meet-requires-clause-inside c =
    let p = c.args.p in
    let o = c.requires.operand in
    rw (back (get_or p.cells c.loop-i.i (pos 0)) (search rules))
    (inside-grows c.loop-j.invariant.emits.grows
    (operand-inside c.args.tape.now.next p c.loop-i.i o (below o c.loop-i-test.true)))

pub meet-requires-clause-inside_2 : goal.meet-requires-clause-inside_2
meet-requires-clause-inside_2 c =
    let p = c.args.p in
    let o = c.requires.operand in
    rw (back (get_or p.cells c.loop-j.j (pos 0)) (search rules))
    (inside-grows c.loop-j.invariant.emits.grows
    (operand-inside c.args.tape.now.next p c.loop-j.j o (below o c.loop-j-test.true)))

pub bounds-pairs-t : goal.bounds-pairs-t
bounds-pairs-t c =
    let o = c.requires.operand in
    passed-room (matrix_of c.args.p).cells c.loop-j.t c.loop-i.i c.loop-j.j c.loop-j.pairs c.loop-j.invariant
    (inner o c.loop-j-test.true) (few o)

pub offset_bounds-pairs-t : goal.offset_bounds-pairs-t
offset_bounds-pairs-t c = record { fits = omega (arith, bounds-pairs-t c) }

pub overflow_add-t : goal.overflow_add-t
overflow_add-t c =
    let o = c.requires.operand in
    let room = passed-room (matrix_of c.args.p).cells c.loop-j.t c.loop-i.i c.loop-j.j c.loop-j.pairs c.loop-j.invariant
    (inner o c.loop-j-test.true) (few o) in
    record { fits = omega (arith, room) }

pub loop-j-preserved : goal.loop-j-preserved
loop-j-preserved c =
    let p = c.args.p in
    let o = c.requires.operand in
    let i = c.loop-i.i in
    let j = c.loop-j.j in
    let w = c.meet.result in
    let e = rw (
      back (get_or p.cells i (pos 0)) (search rules),
      back (get_or p.cells j (pos 0)) (search rules),
      operand_at c.args.tape.now.next p i o (below o c.loop-i-test.true),
      operand_at c.args.tape.now.next p j o (below o c.loop-j-test.true),
    ) at c.meet.ensures in
    rw (back w (search rules))
    (passed-right (matrix_of p).cells c.loop-j.t i j c.loop-j.pairs c.loop-j.invariant (inner o c.loop-j-test.true) (few o) w e)

pub loop-i-preserved : goal.loop-i-preserved
loop-i-preserved c =
    passed_down (matrix_of c.args.p).cells c.loop-j.t c.loop-i.i c.loop-j.j c.loop-j.pairs c.loop-j.invariant
    (rw (size_of c.requires.operand) c.loop-j-test.false)

pub slice_bounds-pairs-end : goal.slice_bounds-pairs-end
slice_bounds-pairs-end c =
    let loop = c.loop-i in
    omega (
      arith,
      loop.invariant.room,
      passed-few (matrix_of c.args.p).cells loop.t loop.i _ loop.pairs loop.invariant (few c.requires.operand),
    )

pub slice_bounds-or-end : goal.slice_bounds-or-end
slice_bounds-or-end c =
    let loop = c.loop-i in
    let f = passed-few (matrix_of c.args.p).cells loop.t loop.i _ loop.pairs loop.invariant (few c.requires.operand) in
    sym (length-take-le loop.t loop.pairs (omega (arith, loop.invariant.room, f)))

pub or-requires-clause-inputs : goal.or-requires-clause-inputs
or-requires-clause-inputs c =
    passed-inputs (matrix_of c.args.p).cells c.loop-i.t c.loop-i.i _ c.loop-i.pairs c.loop-i.invariant

pub returns : goal.returns
returns c =
    let cells = (matrix_of c.args.p).cells in
    let loop = c.loop-i in
    let ts = matrices.pairs cells in
    emits-as (never_both ts c.args.tape.now.next) refl
    (emits-negated (each both ts >>= or)
    (emits-bind (each both ts) or (regular-each both (regular-pairing Both) ts) regular-or
    (passed-all cells loop.t loop.i _ loop.pairs loop.invariant (rw (size_of c.requires.operand) c.loop-i-test.false) refl)
    c.or.ensures)
    (search rules) c.opposite.ensures (record { sfits = c.opposite.type_inv }))
