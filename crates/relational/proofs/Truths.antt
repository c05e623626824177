-- 2.2.6 Quantifiers and logical connectives: comparisons, tests, connectives and quantifiers say what the meaning says.
use mathlib.Core.Path.{◌≡◌, refl, sym, ap, ◌∙◌}
use mathlib.Core.Logic.{◌↔◌}
use mathlib.Core.Bool.{Bool, true, false, false≢true}
use mathlib.Core.List.{List, [], ◌∷◌, map}
use Prim.Native.Nat.{ℕ, zero, suc, ◌<◌}
use native.Mathlib.Omega.{arith}
use lib.ListN.{get_or, length}
use Rattle.prelude.specs.Tests.{all}
use Rattle.relational.specs.declared.Comparison.{Comparison}
use Rattle.relational.specs.declared.Test.{Test}
use Rattle.relational.specs.declared.Connective.{Connective}
use Rattle.relational.specs.declared.Quantifier.{Quantifier}
use Rattle.relational.specs.declared.Binary.TheVariants.{Intersection as intersection}
use Rattle.relational.specs.declared.Comparison.TheVariants.{Equal as equal, Within as within}
use Rattle.relational.specs.declared.Test.TheVariants.{Some as some, None as none, Lone as lone}
use Rattle.relational.specs.declared.Connective.TheVariants.{Conjunction as conjunction, Disjunction as disjunction}
use Rattle.relational.specs.declared.Connective.TheVariants.{Implication as implication, Equivalence as equivalence}
use Rattle.relational.specs.declared.Quantifier.TheVariants.{All as for-all, Some as for_some}
use Rattle.relational.specs.Meaning.{Atom, Tuple, one, two, Tuples, Combined, Compared, Tested, Connected}
use Rattle.relational.specs.Meaning.{Quantified}
use Rattle.relational.specs.Matrices.{upto, Matrix, set_of, matched}
use Rattle.relational.specs.Evaluation.{implies, same, truth_comparison, truth_test, truth_connective, truth_quantifier}
use Rattle.relational.proofs.Flags.{Is, recast, is-or, is-and, is-implies, is_same, is_all}
use Rattle.relational.proofs.Counts as counts
use Rattle.relational.proofs.Stands.{Size, line, table, matrix_of, total, Fits, place, place-lt, place-injective, tuple_at}
use Rattle.relational.proofs.Stands.{Cells, Stands, cells-line}
use Rattle.relational.proofs.Basic.{cell_pair, matched-is, Decides, stands-intersection}

-- ---- comparisons: all pairs of cells together
module _ {z : Size} {m k : Matrix Bool} {P Q : Tuples} (a : Stands z m P) (b : Stands z k Q) where
  truth-matched : (R : Tuples) (o : Bool × Bool → Bool) → Decides P Q R o
      → Is (all o (matched false m k)) ((t : Tuple) → Fits z t → R t)
  truth-matched R o d =
      rw (a.1, b.1, matched-is z p q) (recast (is_all o (cell_pair p q) (total z) Place-at at) (forth, λ f i l t g e. f t g))
    where
      p : List Bool
      p = a.0

      q : List Bool
      q = b.0

      Place-at : ℕ → Type 0
      Place-at i = (t : Tuple) → Fits z t → place z t ≡ i → R t

      tell : (t : Tuple) → Fits z t → Is (o (cell_pair p q (place z t))) (R t)
      tell t h = d t (get_or p (place z t) false) (get_or q (place z t) false) (a.2.cell t h) (b.2.cell t h)

      at : (i : ℕ) → i < total z → Is (o (cell_pair p q i)) (Place-at i)
      at i l =
          let u = tuple_at z i l in
          ((λ e t g r. (tell t g).0 (rw r e)), λ f. rw (← u.2) ((tell u.0 u.1).1 (f u.0 u.1 u.2)))

      forth : ((i : ℕ) → i < total z → Place-at i) → (t : Tuple) → Fits z t → R t
      forth f t g = f (place z t) (place-lt z t g) t g refl

  pub truth-comparison : (o : Comparison) → Is (truth_comparison o m k) (Compared o P Q)
  truth-comparison equal =
      recast (truth-matched (λ t. P t ↔ Q t) same (λ t x y h g. is_same x y h g))
      ((λ f t. ((λ x. (f t (a.2.fits t x)).0 x), λ y. (f t (b.2.fits t y)).1 y)), λ f t g. f t)
  truth-comparison within =
      recast (truth-matched (λ t. P t → Q t) implies (λ t x y h g. is-implies x y h g))
      ((λ f t x. f t (a.2.fits t x) x), λ f t g. f t)

-- ---- tests of one expression, by the number of true cells
pub beyond : (bs : List Bool) (k : ℕ) → get_or bs k false ≡ true → k < length bs
beyond [] k e = absurd (false≢true e)
beyond (b ∷ bs) zero e = omega arith
beyond (b ∷ bs) (suc k) e = omega (arith, beyond bs k e)

module _ {z : Size} {p : List Bool} {P : Tuples} (a : Cells z p P) where
  -- a true cell is that of a tuple, and a tuple's cell is true
  true-cell : (k : ℕ) → get_or p k false ≡ true → (t : Tuple) × P t × (place z t ≡ k)
  true-cell k e =
      let u = tuple_at z k (omega (arith, beyond p k e, a.size)) in
      (u.0, (a.cell u.0 u.1).0 (rw u.2 e), u.2)

  cell-true : (t : Tuple) → P t → get_or p (place z t) false ≡ true
  cell-true t x = (a.cell t (a.fits t x)).1 x

  test-cells : (o : Test) → Is (truth_test o p) (Tested o P)
  test-cells some =
      recast (counts.is_some p) ((λ x. let u = true-cell x.0 x.1 in (u.0, u.1)), λ x. (place z x.0, cell-true x.0 x.1))
  test-cells none =
      recast (counts.is_none p)
      ((λ f t x. f (place z t) (cell-true t x)), λ f k e. let u = true-cell k e in f u.0 u.1)
  test-cells lone =
      recast (counts.is-lone p) (
        (λ f t u x y. place-injective z t u (a.fits t x) (a.fits u y) (f (place z t) (place z u) (cell-true t x) (cell-true u y))),
        λ f i j h g. let u = true-cell i h in let w = true-cell j g in sym u.2 ∙ ap (place z) (f u.0 w.0 u.1 w.1) ∙ w.2,
      )

cells_of : (z : Size) (bs : List Bool) → (matrix_of z bs).cells ≡ bs
cells_of (line n) bs = refl
cells_of (table r c) bs = refl

pub truth-test : {z : Size} {m : Matrix Bool} {P : Tuples} → Stands z m P → (o : Test) → Is (truth_test o m.cells) (Tested o P)
truth-test {z} {m} {P} a o = rw (a.1, cells_of z a.0) (test-cells a.2 o)

-- ---- connectives
pub truth-connective : {P Q : Type 0} (o : Connective) (a b : Bool) → Is a P → Is b Q → Is (truth_connective o a b) (Connected o P Q)
truth-connective conjunction a b p q = is-and a b p q
truth-connective disjunction a b p q = is-or a b p q
truth-connective implication a b p q = is-implies a b p q
truth-connective equivalence a b p q = is_same a b p q

-- ---- quantifiers: over the atoms of a set
-- those for which the body holds, and fit
abbrev pub Body : ℕ → (Atom → Type 0) → Tuples
Body n P (one v) = (v < n) × P v
Body n P (two i j) = ⊥

pub stands-body : (n : ℕ) (f : ℕ → Bool) (P : Atom → Type 0) → ((v : ℕ) → v < n → Is (f v) (P v))
    → Stands (line n) (set_of n (map f (upto n))) (Body n P)
stands-body n f P h = (
  map f (upto n),
  refl,
  cells-line (Body n P) n f fits (λ i l. recast (h i l) ((λ e. (l, e)), λ e. e.1)),
)
  where
    fits : (t : Tuple) → Body n P t → Fits (line n) t
    fits (one i) e = e.0
    fits (two i j) e = absurd e

pub truth-quantifier : (q : Quantifier) (n : ℕ) {m k : Matrix Bool} {R : Tuples} {P : Atom → Type 0}
    → Stands (line n) m R → Stands (line n) k (Body n P)
    → Is (truth_quantifier q m k) (Quantified q (λ v. R (one v)) P)
truth-quantifier for-all n {R} {P} a b = recast (truth-comparison a b within) ((λ f v r. (f (one v) r).1), back)
  where
    back : ((v : Atom) → R (one v) → P v) → (t : Tuple) → R t → Body n P t
    back f (one v) r = (a.2.fits (one v) r, f v r)
    back f (two i j) r = absurd (a.2.fits (two i j) r)
truth-quantifier for_some n {R} {P} a b = recast (truth-test (stands-intersection a b) some)
    (forth, λ x. (one x.0, (x.1, (a.2.fits (one x.0) x.1, x.2))))
  where
    forth : Tested some (Combined intersection R (Body n P)) → (v : Atom) × R (one v) × P v
    forth x = go x.0 x.1.0 x.1.1
      where
        go : (t : Tuple) → R t → Body n P t → (v : Atom) × R (one v) × P v
        go (one v) r p = (v, r, p.1)
        go (two i j) r p = absurd p
