-- What expressions and formulas mean in an instance, in the order of section 2.2 of source document 001, and what
-- satisfies a sheet.
use Rattle.std.specs.Prelude.{◌≡◌, ◌⊎◌, ◌↔◌, true, cond, List, ℕ, zero, suc, ◌<◌, eqb}
use Rattle.sheet_rules.specs.Blocks.{Sheet, byte, scope, is_bounded, sort_of, relation_count, columns, multiplicity}
use Rattle.sheet_rules.specs.Blocks.{first_sort, second_sort}
use Rattle.relational.specs.Trees.{Expression, leaf, binary, unary, comprehension, Formula, comparison, test}
use Rattle.relational.specs.Trees.{negation, connective, quantified, Tree, expression, formula, broken, root_tree}
use Rattle.relational.specs.declared.Leaf.{Leaf}
use Rattle.relational.specs.declared.Binary.{Binary}
use Rattle.relational.specs.declared.Unary.{Unary}
use Rattle.relational.specs.declared.Comparison.{Comparison}
use Rattle.relational.specs.declared.Test.{Test}
use Rattle.relational.specs.declared.Connective.{Connective}
use Rattle.relational.specs.declared.Quantifier.{Quantifier}
use Rattle.relational.specs.declared.Leaf.TheVariants.{Relation as relation, Variable as variable, Atoms as atoms}
use Rattle.relational.specs.declared.Leaf.TheVariants.{Identity as identity}
use Rattle.relational.specs.declared.Binary.TheVariants.{Union as union, Intersection as intersection}
use Rattle.relational.specs.declared.Binary.TheVariants.{Difference as difference, Join as join, Product as product}
use Rattle.relational.specs.declared.Unary.TheVariants.{Inverse as inverse, Closure as closure}
use Rattle.relational.specs.declared.Comparison.TheVariants.{Equal as equal, Within as within}
use Rattle.relational.specs.declared.Test.TheVariants.{Some as some, None as none, Lone as lone}
use Rattle.relational.specs.declared.Connective.TheVariants.{Conjunction as conjunction, Disjunction as disjunction}
use Rattle.relational.specs.declared.Connective.TheVariants.{Implication as implication, Equivalence as equivalence}
use Rattle.relational.specs.declared.Quantifier.TheVariants.{All as for-all, Some as for_some}
use Rattle.relational.specs.Cells.{member_cell, cell, has_cells}

-- "Every expression in Alloy denotes a relation, i.e. a set of tuples of atoms." Here a tuple has one atom (in a set)
-- or two.
abbrev pub Atom : Type 0
Atom = ℕ

pub data Tuple : Type 0 where
  one : Atom → Tuple
  two : Atom → Atom → Tuple

abbrev pub Tuples : Type 1
Tuples = Tuple → Type 0

-- every variable has an atom, and a binder replaces just its own: "the innermost binder of a variable counts"
abbrev pub Environment : Type 0
Environment = ℕ → Atom

abbrev pub bind : Environment → ℕ → Atom → Environment
bind env x v y = cond (eqb y x) v (env y)

module _ (sheet : Sheet) where
  -- i is one of the atoms that sort k can have
  abbrev pub CanBe : ℕ → Atom → Type 0
  CanBe k i = i < scope sheet k

module _ (sheet : Sheet) (instance : List ℕ) where
  -- i is an atom of sort k: "All atoms of a sort exist.", of a bounded sort (Change 8) those whose membership cell is 1
  abbrev pub IsAtom : ℕ → Atom → Type 0
  IsAtom k i = CanBe sheet k i × (is_bounded sheet k ≡ true → byte instance (member_cell sheet k i) ≡ 1)

  -- the tuples of relation r: those whose byte is 1
  abbrev pub Given : ℕ → Tuples
  Given r (one i) = (columns sheet r ≡ 1) × CanBe sheet (first_sort sheet r) i × (byte instance (cell sheet r 0 i) ≡ 1)
  Given r (two i j) =
      (columns sheet r ≡ 2) × CanBe sheet (first_sort sheet r) i × CanBe sheet (second_sort sheet r) j
      × (byte instance (cell sheet r i j) ≡ 1)

  -- "1 relation a; 2 variable a (its one atom); 3 all atoms of sort a; 4 identity on sort a"
  abbrev pub Denoted : Leaf → ℕ → Environment → Tuples
  Denoted relation r env t = Given r t
  Denoted variable x env (one i) = i ≡ env x
  Denoted variable x env (two i j) = ⊥
  Denoted atoms k env (one i) = IsAtom k i
  Denoted atoms k env (two i j) = ⊥
  Denoted identity k env (one i) = ⊥
  Denoted identity k env (two i j) = IsAtom k i × (i ≡ j)

-- 2.2.1 union, intersection, difference; 2.2.2 join: "if and only if there exists" a middle atom; 2.2.3 product
abbrev pub Combined : Binary → Tuples → Tuples → Tuples
Combined union P Q t = P t ⊎ Q t
Combined intersection P Q t = P t × Q t
Combined difference P Q t = P t × (Q t → ⊥)
Combined join P Q (one i) = ((k : Atom) × P (one k) × Q (two k i)) ⊎ ((k : Atom) × P (two i k) × Q (one k))
Combined join P Q (two i j) = (k : Atom) × P (two i k) × Q (two k j)
Combined product P Q (one i) = ⊥
Combined product P Q (two i j) = P (one i) × Q (one j)

-- "pairs joined by a path of one or more steps" (the source's sum p.p + p.p.p + ... starts at two; document 01 counts
-- from one)
pub data Path (R : Atom → Atom → Type 0) : Atom → Atom → Type 0 where
  last : {i j : Atom} → R i j → Path R i j
  next : {i k j : Atom} → R i k → Path R k j → Path R i j

-- 2.2.4 inverse, 2.2.5 closure
abbrev pub Converted : Unary → Tuples → Tuples
Converted inverse P (one i) = ⊥
Converted inverse P (two i j) = P (two j i)
Converted closure P (one i) = ⊥
Converted closure P (two i j) = Path (λ x y. P (two x y)) i j

-- 2.2.6 inclusion and equality; some, no, at most one element
abbrev pub Compared : Comparison → Tuples → Tuples → Type 0
Compared equal P Q = (t : Tuple) → P t ↔ Q t
Compared within P Q = (t : Tuple) → P t → Q t

abbrev pub Tested : Test → Tuples → Type 0
Tested some P = (t : Tuple) × P t
Tested none P = (t : Tuple) → P t → ⊥
Tested lone P = (t u : Tuple) → P t → P u → t ≡ u

-- 2.2.6 the connectives; all and some over the atoms that the variable ranges over
abbrev pub Connected : Connective → Type 0 → Type 0 → Type 0
Connected conjunction P Q = P × Q
Connected disjunction P Q = P ⊎ Q
Connected implication P Q = P → Q
Connected equivalence P Q = P ↔ Q

abbrev pub Quantified : Quantifier → (Atom → Type 0) → (Atom → Type 0) → Type 0
Quantified for-all Range P = (v : Atom) → Range v → P v
Quantified for_some Range P = (v : Atom) × Range v × P v

-- "Mark 0 is free, 1 at most one value, 2 exactly one."
abbrev pub AtMostOne : (Atom → Type 0) → Type 0
AtMostOne P = (i j : Atom) → P i → P j → i ≡ j

abbrev pub Marked : ℕ → (Atom → Type 0) → Type 0
Marked zero P = Unit {0}
Marked (suc zero) P = AtMostOne P
Marked (suc (suc m)) P = AtMostOne P × ((i : Atom) × P i)

module _ (sheet : Sheet) (instance : List ℕ) where
  -- a tuple is a member of an expression; a formula holds
  abbrev mutual
    pub Member : Expression → Environment → Tuples
    Member (leaf l a) env t = Denoted sheet instance l a env t
    Member (binary o p q) env t = Combined o (λ u. Member p env u) (λ u. Member q env u) t
    Member (unary o p) env t = Converted o (λ u. Member p env u) t
    Member (comprehension x f) env (one v) = IsAtom sheet instance (sort_of sheet x) v × Holds f (bind env x v)
    Member (comprehension x f) env (two i j) = ⊥

    pub Holds : Formula → Environment → Type 0
    Holds (comparison o p q) env = Compared o (λ t. Member p env t) (λ t. Member q env t)
    Holds (test o p) env = Tested o (λ t. Member p env t)
    Holds (negation f) env = Holds f env → ⊥
    Holds (connective o f g) env = Connected o (Holds f env) (Holds g env)
    Holds (quantified q x f) env = Quantified q (IsAtom sheet instance (sort_of sheet x)) (λ v. Holds f (bind env x v))

  -- "For a relation the mark holds for each atom of the first sort" (Change 8: members); "a set is a single row."
  pub record Marks (r : ℕ) : Type 0 where
    pub set : columns sheet r ≡ 1 → Marked (multiplicity sheet r) (λ j. Given sheet instance r (one j))
    pub rows : columns sheet r ≡ 2 → (i : Atom) → IsAtom sheet instance (first_sort sheet r) i
        → Marked (multiplicity sheet r) (λ j. Given sheet instance r (two i j))

  -- the tuples of relation r are of atoms: "a cell of a non-member is 1; such an instance isn't within the scopes"
  pub record OfAtoms (r : ℕ) : Type 0 where
    pub set : (i : Atom) → Given sheet instance r (one i) → IsAtom sheet instance (first_sort sheet r) i
    pub rows : (i j : Atom) → Given sheet instance r (two i j)
        → IsAtom sheet instance (first_sort sheet r) i × IsAtom sheet instance (second_sort sheet r) j

  -- "An instance is within the scopes when it has one byte for each cell, each 0 or 1", and its tuples are of atoms
  pub record WithinScopes : Type 0 where
    pub bytes : has_cells sheet instance ≡ true
    pub of_atoms : (r : ℕ) → r < relation_count sheet → OfAtoms r

  -- the root; no variable is free in it, so its environment does not matter (any-environment of proofs/Satisfaction)
  abbrev pub IsTrue : Tree → Type 0
  IsTrue (expression e) = ⊥
  IsTrue (formula f) = Holds f (λ x. 0)
  IsTrue broken = ⊥

  -- "it satisfies marks and formula when every mark holds in it and the root is true by the kinds' meanings"
  pub record Satisfies : Type 0 where
    pub marks : (r : ℕ) → r < relation_count sheet → Marks r
    pub root : IsTrue (root_tree sheet)

-- an instance within the scopes that satisfies marks and formula
pub record Solution (sheet : Sheet) (instance : List ℕ) : Type 0 where
  pub within : WithinScopes sheet instance
  pub satisfies : Satisfies sheet instance
