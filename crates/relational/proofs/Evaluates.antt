-- 2.2.1 to 2.2.6 The evaluation agrees with the meaning: for every well-shaped tree,
-- and every environment that gives each variable an atom of its sort.
use mathlib.Core.Path.{◌≡◌, refl}
use mathlib.Core.Logic.{◌↔◌}
use mathlib.Core.List.{List}
use Prim.Native.Nat.{ℕ, ◌<◌}
use native.Mathlib.Decide.{ℕ_discrete}
use borrow.Author.Tests.{eq-eqb, ne_eqb}
use Rattle.shapes.specs.declared.Shape.{Shape}
use Rattle.sheet_rules.specs.Blocks.{Sheet, scope, variable_count, sort_of}
use Rattle.relational.specs.Trees.{Expression, comprehension, Formula}
use Rattle.relational.specs.declared.Leaf.TheVariants.{Atoms as atoms}
use Rattle.relational.specs.declared.Binary.TheVariants.{Intersection as intersection}
use Rattle.relational.specs.Meaning.{Tuple, one, two, Environment, bind, Combined, CanBe, Denoted, Member, Holds}
use Rattle.relational.specs.Evaluation.{value_of, truth_of}
use Rattle.relational.proofs.Flags.{Is, is-not}
use Rattle.relational.proofs.Stands.{line, Stands, stands_same}
use Rattle.relational.proofs.Basic.{stands_set, stands-relation, stands-variable, stands-sort, stands-identity}
use Rattle.relational.proofs.Basic.{stands-union, stands-intersection, stands-difference}
use Rattle.relational.proofs.Joins.{stands-image, stands-preimage, stands-join}
use Rattle.relational.proofs.Products.{stands-product}
use Rattle.relational.proofs.Inverses.{stands-inverse}
use Rattle.relational.proofs.Closures.{stands-closure}
use Rattle.relational.proofs.Truths.{truth-comparison, truth-test, truth-connective, Body, stands-body}
use Rattle.relational.proofs.Truths.{truth-quantifier}
use Rattle.relational.proofs.Typing.{size_of, Shaped, of-set, of-relation, of-variable, of-sort, of-identity, of-union}
use Rattle.relational.proofs.Typing.{of-intersection, of-difference, of_image, of_preimage, of-join, of-product, of-inverse}
use Rattle.relational.proofs.Typing.{of-closure, of-comprehension}
use Rattle.relational.proofs.Typing.{Formed, of-comparison, of_test, of-negation, of-connective, of-quantified}

module _ (sheet : Sheet) where
  -- the environments that a walk meets
  abbrev pub InRange : Environment → Type 0
  InRange env = (x : ℕ) → x < variable_count sheet → CanBe sheet (sort_of sheet x) (env x)

  pub in-range-bind : (env : Environment) (x v : ℕ) → CanBe sheet (sort_of sheet x) v → InRange env
      → InRange (bind env x v)
  in-range-bind env x v h r y l = go (ℕ_discrete y x)
    where
      go : Dec (y ≡ x) → bind env x v y < scope sheet (sort_of sheet y)
      go (yes p) = rw (p, eq-eqb x x refl) h
      go (no d) = rw (ne_eqb y x d) (r y l)

module _ (sheet : Sheet) (instance : List ℕ) where
  -- ---- comprehension: a binder, as the quantifiers of 2.2.6
  stands-comprehension : (x : ℕ) (f : Formula) (env : Environment)
      → ((v : ℕ) → CanBe sheet (sort_of sheet x) v
      → Is (truth_of sheet instance f (bind env x v)) (Holds sheet instance f (bind env x v)))
      → Stands (line (scope sheet (sort_of sheet x))) (value_of sheet instance (comprehension x f) env)
      (Member sheet instance (comprehension x f) env)
  unfolding value_of
  stands-comprehension x f env h =
      stands_same (stands-intersection (stands-sort sheet instance (sort_of sheet x) env)
      (stands-body (scope sheet (sort_of sheet x)) (λ v. truth_of sheet instance f (bind env x v))
      (λ v. Holds sheet instance f (bind env x v)) h)) same
    where
      same : (t : Tuple) → Combined intersection (Denoted sheet instance atoms (sort_of sheet x) env)
          (Body (scope sheet (sort_of sheet x)) (λ v. Holds sheet instance f (bind env x v))) t ↔ Member sheet instance
          (comprehension x f) env t
      same (one v) = ((λ e. (e.0, e.1.1)), λ e. (e.0, (e.0.0, e.1)))
      same (two i j) = ((λ e. e.0), λ e. absurd e)

  -- ---- all trees
  mutual
    unfolding value_of truth_of

    pub evaluates-expression : {e : Expression} {z : Shape} → Shaped sheet e z → (env : Environment) → InRange sheet env
        → Stands (size_of sheet z) (value_of sheet instance e env) (Member sheet instance e env)
    evaluates-expression (of-set r s c es) env g = rw es (stands_set sheet instance r env c)
    evaluates-expression (of-relation r s t c es et) env g = rw (es, et) (stands-relation sheet instance r env c)
    evaluates-expression (of-variable x s l es) env g = rw es (stands-variable sheet instance x env (g x l))
    evaluates-expression (of-sort s) env g = stands-sort sheet instance s env
    evaluates-expression (of-identity s) env g = stands-identity sheet instance s env
    evaluates-expression (of-union p q) env g = stands-union (evaluates-expression p env g) (evaluates-expression q env g)
    evaluates-expression (of-intersection p q) env g = stands-intersection (evaluates-expression p env g) (evaluates-expression q env g)
    evaluates-expression (of-difference p q) env g = stands-difference (evaluates-expression p env g) (evaluates-expression q env g)
    evaluates-expression (of_image p q) env g = stands-image (evaluates-expression p env g) (evaluates-expression q env g)
    evaluates-expression (of_preimage p q) env g = stands-preimage (evaluates-expression p env g) (evaluates-expression q env g)
    evaluates-expression (of-join p q) env g = stands-join (evaluates-expression p env g) (evaluates-expression q env g)
    evaluates-expression (of-product p q) env g = stands-product (evaluates-expression p env g) (evaluates-expression q env g)
    evaluates-expression (of-inverse p) env g = stands-inverse (evaluates-expression p env g)
    evaluates-expression (of-closure p) env g = stands-closure (evaluates-expression p env g)
    evaluates-expression (of-comprehension {f} x s l es p) env g =
        rw es (stands-comprehension x f env (λ v h. evaluates p (bind env x v) (in-range-bind sheet env x v h g)))

    pub evaluates : {f : Formula} → Formed sheet f → (env : Environment) → InRange sheet env
        → Is (truth_of sheet instance f env) (Holds sheet instance f env)
    evaluates (of-comparison o p q) env g = truth-comparison (evaluates-expression p env g) (evaluates-expression q env g) o
    evaluates (of_test o p) env g = truth-test (evaluates-expression p env g) o
    evaluates (of-negation {f} p) env g = is-not (truth_of sheet instance f env) (evaluates p env g)
    evaluates (of-connective {f} {g = h} o p q) env g =
        truth-connective o (truth_of sheet instance f env) (truth_of sheet instance h env) (evaluates p env g) (evaluates q env g)
    evaluates (of-quantified {f} q x l p) env g =
        truth-quantifier q (scope sheet (sort_of sheet x)) (stands-sort sheet instance (sort_of sheet x) env)
        (stands-body (scope sheet (sort_of sheet x)) (λ v. truth_of sheet instance f (bind env x v))
        (λ v. Holds sheet instance f (bind env x v))
        (λ v h. evaluates p (bind env x v) (in-range-bind sheet env x v h g)))
