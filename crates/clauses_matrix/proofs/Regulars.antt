-- The steps of the operators never let the next variable fall; and steps that make nothing.
use mathlib.Core.Path.{◌≡◌, refl, ap}
use mathlib.Core.List.{List, [], ◌∷◌}
use Prim.Native.Nat.{ℕ, zero, suc}
use Rattle.literal.specs.Literals.{Literal, opposite}
use Rattle.relational.specs.declared.Binary.{Binary}
use Rattle.relational.specs.declared.Unary.{Unary}
use Rattle.relational.specs.declared.Comparison.{Comparison}
use Rattle.relational.specs.declared.Test.{Test}
use Rattle.relational.specs.declared.Connective.{Connective}
use Rattle.relational.specs.declared.Quantifier.{Quantifier}
use Rattle.relational.specs.declared.Binary.TheVariants.{Union as union, Intersection as intersection}
use Rattle.relational.specs.declared.Binary.TheVariants.{Difference as difference, Join as join, Product as product}
use Rattle.relational.specs.declared.Unary.TheVariants.{Inverse as inverse, Closure as closure}
use Rattle.relational.specs.declared.Comparison.TheVariants.{Equal as equal, Within as within}
use Rattle.relational.specs.declared.Test.TheVariants.{Some as some, None as none, Lone as lone}
use Rattle.relational.specs.declared.Connective.TheVariants.{Conjunction as conjunction, Disjunction as disjunction}
use Rattle.relational.specs.declared.Connective.TheVariants.{Implication as implication, Equivalence as equivalence}
use Rattle.relational.specs.declared.Quantifier.TheVariants.{All as for-all, Some as for_some}
use Rattle.relational.specs.Matrices.{Matrix, rounds, pairs, same_size, join_size, join_places, product_size, matched, middles, crossed}
use Rattle.clauses_rules.specs.Builder.{Built, return, each}
use Rattle.clauses_rules.specs.Gates.{or, and}
use Rattle.clauses_rules.specs.Translation.{Two, absent, both, apart, join_cells, translate_binary, round_of, after_rounds, translate_unary}
use Rattle.clauses_rules.specs.Translation.{translate_comparison, translate_test, translate_connective, translate_quantifier}
use Rattle.clauses_emission.specs.declared.Pairing.{Pairing}
use Rattle.clauses_emission.specs.declared.Pairing.TheVariants.{Either, Both, Without, Implies, Same, Apart}
use Rattle.clauses_matrix.specs.Matrices.{paired, compared, join_cell}
use Rattle.clauses_emission.proofs.Steps.{Regular, regular-return, regular-map, regular-bind, regular-each, regular-or, regular-and}
use Rattle.clauses_emission.proofs.Steps.{regular-pairing}

-- ---- expressions
pub regular-paired : (kind : Pairing) (p q : Matrix Literal) → Regular (paired kind p q)
regular-paired kind p q = regular-each _ (regular-pairing kind) (matched absent p q)

pub regular-join-cell : (met : List Two) → Regular (join_cell met)
regular-join-cell met = regular-bind (each both met) or (regular-each both (regular-pairing Both) met) regular-or

pub regular-binary : (o : Binary) (p q : Matrix Literal) → Regular (translate_binary o p q)
regular-binary union p q = regular-map (same_size p) (paired Either p q) (regular-paired Either p q)
regular-binary intersection p q = regular-map (same_size p) (paired Both p q) (regular-paired Both p q)
regular-binary difference p q = regular-map (same_size p) (paired Without p q) (regular-paired Without p q)
regular-binary join p q =
    regular-map (join_size p q) (join_cells p q)
    (regular-each (λ t. join_cell (middles absent p q t)) (λ t. regular-join-cell (middles absent p q t)) (join_places p q))
regular-binary product p q =
    regular-map (product_size p q) (each both (crossed absent p q)) (regular-each both (regular-pairing Both) (crossed absent p q))

pub regular-round : (p : Matrix Literal) → Regular (round_of p)
regular-round p = regular-bind (translate_binary join p p) (translate_binary union p) (regular-binary join p p) (regular-binary union p)

pub regular-rounds : (k : ℕ) (p : Matrix Literal) → Regular (after_rounds k p)
unfolding after_rounds
regular-rounds zero p = regular-return p
regular-rounds (suc k) p = regular-bind (after_rounds k p) round_of (regular-rounds k p) regular-round

pub regular-unary : (o : Unary) (p : Matrix Literal) → Regular (translate_unary o p)
regular-unary inverse p = regular-return _
regular-unary closure p = regular-rounds (rounds p.rows) p

-- ---- formulas
regular-compared : (kind : Pairing) (p q : Matrix Literal) → Regular (compared kind p q)
regular-compared kind p q = regular-bind (paired kind p q) and (regular-paired kind p q) regular-and

pub regular-comparison : (o : Comparison) (p q : Matrix Literal) → Regular (translate_comparison o p q)
regular-comparison equal = regular-compared Same
regular-comparison within = regular-compared Implies

pub regular-test : (o : Test) (cells : List Literal) → Regular (translate_test o cells)
regular-test some cells = regular-or cells
regular-test none cells = regular-map opposite (or cells) (regular-or cells)
regular-test lone cells =
    regular-bind (each apart (pairs cells)) and (regular-each apart (regular-pairing Apart) (pairs cells)) regular-and

pub regular-connective : (o : Connective) (t : Two) → Regular (translate_connective o t)
regular-connective conjunction = regular-pairing Both
regular-connective disjunction = regular-pairing Either
regular-connective implication = regular-pairing Implies
regular-connective equivalence = regular-pairing Same

pub regular-quantifier : (o : Quantifier) (p q : Matrix Literal) → Regular (translate_quantifier o p q)
regular-quantifier for-all p q = regular-comparison within p q
regular-quantifier for_some p q =
    regular-bind (translate_binary intersection p q) (λ m. translate_test some m.cells)
    (regular-binary intersection p q)
    (λ m. regular-test some m.cells)

-- a list of steps that make nothing
pub each-return : {A : Type 0} (xs : List A) (g : ℕ) → each {A = A} {B = A} (λ x. return x) xs g ≡ return xs g
unfolding each
each-return [] g = refl
each-return {A} (x ∷ xs) g =
    ap (λ (u : Built (List A)). record { value = x ∷ u.value; gates = u.gates; next = u.next }) (each-return xs g)
