-- The value of an expression and the truth of a formula in an instance, as the check computes them, operator by operator.
-- It agrees with specs/Meaning (proofs/Evaluates): it need not be believed.
use Rattle.std.specs.Prelude.{Bool, true, false, not, ◌&&◌, ◌||◌, cond, List, [], ◌∷◌, map, ℕ, zero, suc, eqb, leb}
use Rattle.prelude.specs.Tests.{each, all, any}
use Rattle.sheet_rules.specs.Blocks.{Sheet, byte, scope, sort_of, relation_count, multiplicity, first_sort, second_sort}
use Rattle.relational.specs.Trees.{Expression, leaf, binary, unary, comprehension, Formula, comparison, test}
use Rattle.relational.specs.Trees.{negation, connective, quantified, Tree, expression, formula, broken, root_tree}
use Rattle.relational.specs.declared.Leaf.{Leaf}
use Rattle.relational.specs.declared.Binary.{Binary}
use Rattle.relational.specs.declared.Unary.{Unary}
use Rattle.relational.specs.declared.Comparison.{Comparison}
use Rattle.relational.specs.declared.Test.{Test}
use Rattle.relational.specs.declared.Connective.{Connective}
use Rattle.relational.specs.declared.Quantifier.{Quantifier}
use Rattle.relational.specs.declared.Leaf.TheVariants.{Atoms as atoms}
use Rattle.relational.specs.declared.Binary.TheVariants.{Union as union, Intersection as intersection}
use Rattle.relational.specs.declared.Binary.TheVariants.{Difference as difference, Join as join, Product as product}
use Rattle.relational.specs.declared.Unary.TheVariants.{Inverse as inverse, Closure as closure}
use Rattle.relational.specs.declared.Comparison.TheVariants.{Equal as equal, Within as within}
use Rattle.relational.specs.declared.Test.TheVariants.{Some as some, None as none, Lone as lone}
use Rattle.relational.specs.declared.Connective.TheVariants.{Conjunction as conjunction, Disjunction as disjunction}
use Rattle.relational.specs.declared.Connective.TheVariants.{Implication as implication, Equivalence as equivalence}
use Rattle.relational.specs.declared.Quantifier.TheVariants.{All as for-all, Some as for_some}
use Rattle.relational.specs.Cells.{is_set, row_count, row_length, cell}
use Rattle.relational.specs.Meaning.{Environment, bind}
use Rattle.relational.specs.Matrices.{from, upto, rounds, Matrix, set_of, member, leaf_matrix, same_size, join_places}
use Rattle.relational.specs.Matrices.{join_size, product_size, matched, middles, crossed, inverted}

-- ---- flags
abbrev pub either : Bool × Bool → Bool
either t = t.0 || t.1

abbrev pub both : Bool × Bool → Bool
both t = t.0 && t.1

abbrev pub without : Bool × Bool → Bool
without t = t.0 && not t.1

abbrev pub implies : Bool × Bool → Bool
implies t = not t.0 || t.1

abbrev pub same : Bool × Bool → Bool
same t = implies t && implies (t.1, t.0)

-- ---- expressions, operator by operator
abbrev pub join_cells : Matrix Bool → Matrix Bool → List Bool
join_cells p q = map (λ t. any both (middles false p q t)) (join_places p q)

abbrev pub value_binary : Binary → Matrix Bool → Matrix Bool → Matrix Bool
value_binary union p q = same_size p (map either (matched false p q))
value_binary intersection p q = same_size p (map both (matched false p q))
value_binary difference p q = same_size p (map without (matched false p q))
value_binary join p q = join_size p q (join_cells p q)
value_binary product p q = product_size p q (map both (crossed false p q))

-- "A round works out the whole join of the matrix with itself, then OR of the old and new cell."
abbrev pub round_of : Matrix Bool → Matrix Bool
round_of p = value_binary union p (value_binary join p p)

abbrev pub after_rounds : ℕ → Matrix Bool → Matrix Bool
after_rounds zero p = p
after_rounds (suc k) p = round_of (after_rounds k p)

abbrev pub value_unary : Unary → Matrix Bool → Matrix Bool
value_unary inverse p = inverted false p
value_unary closure p = after_rounds (rounds p.rows) p

-- ---- formulas, operator by operator
abbrev pub truth_comparison : Comparison → Matrix Bool → Matrix Bool → Bool
truth_comparison equal p q = all same (matched false p q)
truth_comparison within p q = all implies (matched false p q)

-- how many flags are true
abbrev pub count : List Bool → ℕ
count [] = 0
count (true ∷ flags) = suc (count flags)
count (false ∷ flags) = count flags

abbrev pub truth_test : Test → List Bool → Bool
truth_test some cells = leb 1 (count cells)
truth_test none cells = eqb (count cells) 0
truth_test lone cells = leb (count cells) 1

abbrev pub truth_connective : Connective → Bool → Bool → Bool
truth_connective conjunction a b = both (a, b)
truth_connective disjunction a b = either (a, b)
truth_connective implication a b = implies (a, b)
truth_connective equivalence a b = same (a, b)

-- over the set of a sort's atoms and the set of those for which the body holds
abbrev pub truth_quantifier : Quantifier → Matrix Bool → Matrix Bool → Bool
truth_quantifier for-all members bodies = truth_comparison within members bodies
truth_quantifier for_some members bodies = truth_test some (value_binary intersection members bodies).cells

module _ (sheet : Sheet) (instance : List ℕ) where
  abbrev pub flag_at : ℕ → Bool
  flag_at i = eqb (byte instance i) 1

  abbrev pub value_leaf : Leaf → ℕ → Environment → Matrix Bool
  value_leaf l a env = leaf_matrix sheet flag_at (λ b. b) l a env

  -- "Binders walk their body for each atom, ascending."
  abbrev pub atoms_of : ℕ → List ℕ
  atoms_of x = upto (scope sheet (sort_of sheet x))

  -- the atoms of variable x's sort
  abbrev pub range : ℕ → Environment → Matrix Bool
  range x env = value_leaf atoms (sort_of sheet x) env

  abbrev pub bodies : ℕ → (ℕ → Bool) → Matrix Bool
  bodies x truth = set_of (scope sheet (sort_of sheet x)) (map truth (atoms_of x))

  unfoldable mutual
    pub value_of : Expression → Environment → Matrix Bool
    value_of (leaf l a) env = value_leaf l a env
    value_of (binary o p q) env = value_binary o (value_of p env) (value_of q env)
    value_of (unary o p) env = value_unary o (value_of p env)
    value_of (comprehension x f) env = value_binary intersection (range x env) (bodies x (λ v. truth_of f (bind env x v)))

    pub truth_of : Formula → Environment → Bool
    truth_of (comparison o p q) env = truth_comparison o (value_of p env) (value_of q env)
    truth_of (test o p) env = truth_test o (value_of p env).cells
    truth_of (negation f) env = not (truth_of f env)
    truth_of (connective o f g) env = truth_connective o (truth_of f env) (truth_of g env)
    truth_of (quantified q x f) env = truth_quantifier q (range x env) (bodies x (λ v. truth_of f (bind env x v)))

  -- ---- multiplicities: 0 any, 1 at most one value in the row, 2 exactly one
  -- (document 02, Change 8: of a row that is not bound, at most one)
  abbrev pub row_holds : ℕ → Bool → List Bool → Bool
  row_holds zero bound cells = true
  row_holds (suc zero) bound cells = leb (count cells) 1
  row_holds (suc (suc m)) bound cells = leb (count cells) 1 && implies (bound, leb 1 (count cells))

  -- the flag of atom i of sort k
  abbrev pub member_at : ℕ → ℕ → Bool
  member_at k i = member sheet flag_at (λ b. b) k i

  -- "binds only rows of members"; "A set's row is bound as before."
  abbrev pub row_bound : ℕ → ℕ → Bool
  row_bound r i = cond (is_set sheet r) true (member_at (first_sort sheet r) i)

  abbrev pub row_cells : ℕ → ℕ → List Bool
  row_cells r i = map flag_at (from (cell sheet r i 0) (row_length sheet r))

  unfoldable pub marks_hold : Bool
  marks_hold = each (relation_count sheet) (λ r. each (row_count sheet r) (λ i. row_holds (multiplicity sheet r) (row_bound r i) (row_cells r i)))

  -- ---- "The check says no where a cell of a non-member is 1"
  abbrev pub cell_inside : ℕ → ℕ → ℕ → Bool
  cell_inside r i j =
      implies (
        flag_at (cell sheet r i j),
        cond (is_set sheet r) (member_at (first_sort sheet r) j) (both (member_at (first_sort sheet r) i, member_at (second_sort sheet r) j)),
      )

  unfoldable pub cells_inside : Bool
  cells_inside = each (relation_count sheet) (λ r. each (row_count sheet r) (λ i. each (row_length sheet r) (cell_inside r i)))

  -- ---- the whole sheet
  abbrev pub truth_of_tree : Tree → Bool
  truth_of_tree (expression e) = false
  truth_of_tree (formula f) = truth_of f (λ x. 0)
  truth_of_tree broken = false

  unfoldable pub holds : Bool
  holds = cells_inside && (marks_hold && truth_of_tree (root_tree sheet))
