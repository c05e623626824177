-- Two instances with the same atoms and tuples, of sheets that differ in scopes alone: both satisfy the same.
use mathlib.Core.Path.{◌≡◌, refl}
use mathlib.Core.Logic.Iff
use mathlib.Core.Logic.{inl, inr, ⊎_elim, ◌↔◌}
use mathlib.Core.List.{List}
use Prim.Native.Nat.{ℕ}
use Rattle.sheet_rules.specs.Blocks.{Sheet, four_blocks, sort_of, multiplicity, first_sort}
use Rattle.relational.specs.Trees.{Expression, leaf, binary, unary, comprehension, Formula, comparison, test}
use Rattle.relational.specs.Trees.{negation, connective, quantified, Tree, expression, formula, broken, tree_step}
use Rattle.relational.specs.Trees.{root_tree}
use Rattle.relational.specs.declared.Leaf.{Leaf}
use Rattle.relational.specs.declared.Binary.{Binary}
use Rattle.relational.specs.declared.Unary.{Unary}
use Rattle.relational.specs.declared.Comparison.{Comparison}
use Rattle.relational.specs.declared.Test.{Test}
use Rattle.relational.specs.declared.Connective.{Connective}
use Rattle.relational.specs.declared.Quantifier.{Quantifier}
use Rattle.relational.specs.declared.Leaf.TheVariants.{Relation as relation, Variable as variable, Atoms as atoms}
use Rattle.relational.specs.declared.Leaf.TheVariants.{Identity as identity}
use Rattle.relational.specs.declared.Binary.TheVariants.{Union as union, Intersection as intersection}
use Rattle.relational.specs.declared.Binary.TheVariants.{Difference as difference, Join as join, Product as product}
use Rattle.relational.specs.declared.Unary.TheVariants.{Inverse as inverse, Closure as closure}
use Rattle.relational.specs.declared.Comparison.TheVariants.{Equal as equal, Within as within}
use Rattle.relational.specs.declared.Test.TheVariants.{Some as some, None as none, Lone as lone}
use Rattle.relational.specs.declared.Connective.TheVariants.{Conjunction as conjunction, Disjunction as disjunction}
use Rattle.relational.specs.declared.Connective.TheVariants.{Implication as implication, Equivalence as equivalence}
use Rattle.relational.specs.declared.Quantifier.TheVariants.{All as for-all, Some as for_some}
use Rattle.relational.specs.Meaning.{Atom, Tuple, one, two, Tuples, Environment, bind, Combined, Converted}
use Rattle.relational.specs.Meaning.{Compared, Tested, Connected, Quantified, IsAtom, Given, Denoted, Member}
use Rattle.relational.specs.Meaning.{Holds, Marks, OfAtoms, IsTrue, Satisfies}
use Rattle.relational.proofs.Closures.{path-map}
use Rattle.relational.proofs.Multiplicities.{marked-same}

-- ---- each operator, from statements to equivalent ones
abbrev pub Alike : Tuples → Tuples → Type 0
Alike P Q = (t : Tuple) → P t ↔ Q t

combined : (o : Binary) {P P' Q Q' : Tuples} → Alike P P' → Alike Q Q'
    → (t : Tuple) → Combined o P Q t → Combined o P' Q' t
combined union p q t x = ⊎_elim (λ y. inl ((p t).0 y)) (λ y. inr ((q t).0 y)) x
combined intersection p q t x = ((p t).0 x.0, (q t).0 x.1)
combined difference p q t x = ((p t).0 x.0, λ y. x.1 ((q t).1 y))
combined join p q (one i) x =
    ⊎_elim (λ y. inl (y.0, (p (one y.0)).0 y.1, (q (two y.0 i)).0 y.2))
    (λ y. inr (y.0, (p (two i y.0)).0 y.1, (q (one y.0)).0 y.2)) x
combined join p q (two i j) x = (x.0, (p (two i x.0)).0 x.1, (q (two x.0 j)).0 x.2)
combined product p q (one i) x = x
combined product p q (two i j) x = ((p (one i)).0 x.0, (q (one j)).0 x.1)

converted : (o : Unary) {P P' : Tuples} → Alike P P' → (t : Tuple) → Converted o P t → Converted o P' t
converted inverse p (one i) x = x
converted inverse p (two i j) x = (p (two j i)).0 x
converted closure p (one i) x = x
converted closure p (two i j) x = path-map (λ i j. (p (two i j)).0) x

compared : (o : Comparison) {P P' Q Q' : Tuples} → Alike P P' → Alike Q Q' → Compared o P Q → Compared o P' Q'
compared equal p q x = λ t. ((λ y. (q t).0 ((x t).0 ((p t).1 y))), λ y. (p t).0 ((x t).1 ((q t).1 y)))
compared within p q x = λ t y. (q t).0 (x t ((p t).1 y))

tested : (o : Test) {P P' : Tuples} → Alike P P' → Tested o P → Tested o P'
tested some p x = (x.0, (p x.0).0 x.1)
tested none p x = λ t y. x t ((p t).1 y)
tested lone p x = λ t u y z. x t u ((p t).1 y) ((p u).1 z)

connected : (o : Connective) {P P' Q Q' : Type 0} → P ↔ P' → Q ↔ Q' → Connected o P Q → Connected o P' Q'
connected conjunction p q x = (p.0 x.0, q.0 x.1)
connected disjunction p q x = ⊎_elim (λ y. inl (p.0 y)) (λ y. inr (q.0 y)) x
connected implication p q x = λ y. q.0 (x (p.1 y))
connected equivalence p q x = ((λ y. q.0 (x.0 (p.1 y))), λ y. p.0 (x.1 (q.1 y)))

quantified-over : (o : Quantifier) {A A' P P' : Atom → Type 0} → ((v : Atom) → A v ↔ A' v) → ((v : Atom) → P v ↔ P' v)
    → Quantified o A P → Quantified o A' P'
quantified-over for-all a p x = λ v y. (p v).0 (x v ((a v).1 y))
quantified-over for_some a p x = (x.0, (a x.0).0 x.1, (p x.0).0 x.2)

-- ---- trees and marks, over all blocks but the sorts
module _ (variables relations nodes sorts sorts' : List ℕ) where
  abbrev sheet : Sheet
  sheet = four_blocks sorts variables relations nodes

  abbrev other : Sheet
  other = four_blocks sorts' variables relations nodes

  same-root : root_tree sheet ≡ root_tree other
  unfolding tree_step
  same-root = refl

  -- the same atoms and tuples
  module _ (I J : List ℕ) where
    pub record SameModel : Type 0 where
      pub atoms : (k : ℕ) (i : Atom) → IsAtom sheet I k i ↔ IsAtom other J k i
      pub given : (r : ℕ) → Alike (Given sheet I r) (Given other J r)

  module _ (I J : List ℕ) (same : SameModel I J) where
    denoted : (l : Leaf) (a : ℕ) (env : Environment) → Alike (Denoted sheet I l a env) (Denoted other J l a env)
    denoted relation r env t = same.given r t
    denoted variable x env (one i) = Iff.rfl
    denoted variable x env (two i j) = Iff.rfl
    denoted atoms k env (one i) = same.atoms k i
    denoted atoms k env (two i j) = Iff.rfl
    denoted identity k env (one i) = Iff.rfl
    denoted identity k env (two i j) = Iff.and (same.atoms k i) Iff.rfl

    mutual
      member : (e : Expression) (env : Environment) → Alike (Member sheet I e env) (Member other J e env)
      member (leaf l a) env t = denoted l a env t
      member (binary o p q) env t = (
        combined o (λ u. member p env u) (λ u. member q env u) t,
        combined o (λ u. Iff.symm (member p env u)) (λ u. Iff.symm (member q env u)) t,
      )
      member (unary o p) env t = (converted o (λ u. member p env u) t, converted o (λ u. Iff.symm (member p env u)) t)
      member (comprehension x f) env (one v) = Iff.and (same.atoms (sort_of sheet x) v) (holds f (bind env x v))
      member (comprehension x f) env (two i j) = Iff.rfl

      holds : (f : Formula) (env : Environment) → Holds sheet I f env ↔ Holds other J f env
      holds (comparison o p q) env = (
        compared o (λ t. member p env t) (λ t. member q env t),
        compared o (λ t. Iff.symm (member p env t)) (λ t. Iff.symm (member q env t)),
      )
      holds (test o p) env = (tested o (λ t. member p env t), tested o (λ t. Iff.symm (member p env t)))
      holds (negation f) env = Iff.not (holds f env)
      holds (connective o f g) env =
          (connected o (holds f env) (holds g env), connected o (Iff.symm (holds f env)) (Iff.symm (holds g env)))
      holds (quantified q x f) env = (
        quantified-over q (λ v. same.atoms (sort_of sheet x) v) (λ v. holds f (bind env x v)),
        quantified-over q (λ v. Iff.symm (same.atoms (sort_of sheet x) v)) (λ v. Iff.symm (holds f (bind env x v))),
      )

    is_true_lem : (t : Tree) → IsTrue sheet I t → IsTrue other J t
    is_true_lem (expression e) x = x
    is_true_lem (formula f) x = (holds f (λ x. 0)).0 x
    is_true_lem broken x = x

    pub of_atoms : (r : ℕ) → OfAtoms sheet I r → OfAtoms other J r
    of_atoms r x =
        record {
          set = λ i y. (same.atoms _ i).0 (x.set i ((same.given r (one i)).1 y));
          rows = λ i j y.
              let z = x.rows i j ((same.given r (two i j)).1 y) in
              ((same.atoms _ i).0 z.0, (same.atoms _ j).0 z.1);
        }

    marks : (r : ℕ) → Marks sheet I r → Marks other J r
    marks r x =
        record {
          set = λ e. marked-same (multiplicity sheet r) _ _ (λ j. same.given r (one j)) (x.set e);
          rows = λ e i a.
              marked-same (multiplicity sheet r) _ _ (λ j. same.given r (two i j))
              (x.rows e i ((same.atoms (first_sort sheet r) i).1 a));
        }

    pub satisfies : Satisfies sheet I → Satisfies other J
    satisfies x =
        record {
          marks = λ r l. marks r (x.marks r l);
          root = rw (← same-root) (is_true_lem (root_tree sheet) x.root);
        }
