-- The walk of every kind: expressions to matrices of literals, formulas to a literal (document 01, "Clauses", the last list).
-- "A walk visits a, then b, then works out its own cells in row order, inner lists before outer, each list's members finished
-- left to right. Nodes are walked anew each time. Binders walk their body for each atom, ascending."
use Rattle.std.specs.Prelude.{Bool, true, false, List, [], ◌∷◌, ℕ, zero, suc, get_or}
use Rattle.literal.specs.Literals.{Literal, positive, negative, opposite}
use Rattle.sheet_rules.specs.Blocks.{Sheet, scope, sort_of}
use Rattle.relational.specs.Trees.{Expression, leaf, binary, unary, comprehension, Formula, comparison, test}
use Rattle.relational.specs.Trees.{negation, connective, quantified, Tree, expression, formula, broken}
use Rattle.relational.specs.declared.Binary.{Binary}
use Rattle.relational.specs.declared.Unary.{Unary}
use Rattle.relational.specs.declared.Comparison.{Comparison}
use Rattle.relational.specs.declared.Test.{Test}
use Rattle.relational.specs.declared.Connective.{Connective}
use Rattle.relational.specs.declared.Quantifier.{Quantifier}
use Rattle.relational.specs.declared.Leaf.TheVariants.{Atoms as atoms}
use Rattle.relational.specs.declared.Binary.TheVariants.{Union as union, Intersection as intersection}
use Rattle.relational.specs.declared.Binary.TheVariants.{Difference as difference, Join as join, Product as product}
use Rattle.relational.specs.declared.Unary.TheVariants.{Inverse as inverse, Closure as closure}
use Rattle.relational.specs.declared.Comparison.TheVariants.{Equal as equal, Within as within}
use Rattle.relational.specs.declared.Test.TheVariants.{Some as some, None as none, Lone as lone}
use Rattle.relational.specs.declared.Connective.TheVariants.{Conjunction as conjunction, Disjunction as disjunction}
use Rattle.relational.specs.declared.Connective.TheVariants.{Implication as implication, Equivalence as equivalence}
use Rattle.relational.specs.declared.Quantifier.TheVariants.{All as for-all, Some as for_some}
use Rattle.relational.specs.Meaning.{Environment, bind}
use Rattle.relational.specs.Matrices.{upto, rounds, pairs, Matrix, set_of, leaf_matrix, same_size, join_places, join_size}
use Rattle.relational.specs.Matrices.{product_size, matched, middles, crossed, inverted}
use Rattle.clauses_rules.specs.Builder.{Builder, return, ◌>>=◌, ◌<$>◌, each}
use Rattle.clauses_rules.specs.Gates.{or, and, iff}

-- "cells are 1 or -1": the literals of true and of false
abbrev pub constant : Bool → Literal
constant true = positive 1
constant false = negative 1

-- a cell that is not there is false
abbrev pub absent : Literal
absent = negative 1

-- ---- two literals
abbrev pub Two : Type 0
Two = Literal × Literal

abbrev pub either : Two → Builder Literal
either t = or (t.0 ∷ t.1 ∷ [])

abbrev pub both : Two → Builder Literal
both t = and (t.0 ∷ t.1 ∷ [])

abbrev pub without : Two → Builder Literal
without t = and (t.0 ∷ opposite t.1 ∷ [])

abbrev pub implies : Two → Builder Literal
implies t = or (opposite t.0 ∷ t.1 ∷ [])

abbrev pub same : Two → Builder Literal
same t = iff t.0 t.1

abbrev pub apart : Two → Builder Literal
apart t = or (opposite t.0 ∷ opposite t.1 ∷ [])

-- ---- expressions, operator by operator
-- "join OR over the middle atoms of AND"
abbrev pub join_cells : Matrix Literal → Matrix Literal → Builder (List Literal)
join_cells p q = each (λ t. each both (middles absent p q t) >>= or) (join_places p q)

-- "Union OR, intersection and product AND, difference AND(p, -q)"
abbrev pub translate_binary : Binary → Matrix Literal → Matrix Literal → Builder (Matrix Literal)
translate_binary union p q = same_size p <$> each either (matched absent p q)
translate_binary intersection p q = same_size p <$> each both (matched absent p q)
translate_binary difference p q = same_size p <$> each without (matched absent p q)
translate_binary join p q = join_size p q <$> join_cells p q
translate_binary product p q = product_size p q <$> each both (crossed absent p q)

-- "A round works out the whole join of the matrix with itself, then OR of the old and new cell."
abbrev pub round_of : Matrix Literal → Builder (Matrix Literal)
round_of p = do
  q ← translate_binary join p p
  translate_binary union p q

unfoldable pub after_rounds : ℕ → Matrix Literal → Builder (Matrix Literal)
after_rounds zero p = return p
after_rounds (suc k) p = after_rounds k p >>= round_of

-- "Inverse transposes its operand's cells." "Closure at scope n: as many rounds as the least k with 2^k at least n."
abbrev pub translate_unary : Unary → Matrix Literal → Builder (Matrix Literal)
translate_unary inverse p = return (inverted absent p)
translate_unary closure p = after_rounds (rounds p.rows) p

-- ---- formulas, operator by operator
-- "Equal: AND of IFF; within: AND of OR(-p, q)"
abbrev pub translate_comparison : Comparison → Matrix Literal → Matrix Literal → Builder Literal
translate_comparison equal p q = each same (matched absent p q) >>= and
translate_comparison within p q = each implies (matched absent p q) >>= and

-- "some: OR of the cells; none: its opposite; at most one: AND over pairs in order of OR(-p, -q)"
abbrev pub translate_test : Test → List Literal → Builder Literal
translate_test some cells = or cells
translate_test none cells = opposite <$> or cells
translate_test lone cells = each apart (pairs cells) >>= and

-- "and, or, iff are AND, OR, IFF of a's and b's literals." "Implies is OR(-p, q)."
abbrev pub translate_connective : Connective → Two → Builder Literal
translate_connective conjunction = both
translate_connective disjunction = either
translate_connective implication = implies
translate_connective equivalence = same

-- "Kind 40 is AND over atoms, 41 OR"; over a limited sort "AND of OR(-member, body)", "OR of AND(member, body)"
-- (document 02, Change 8). Of a full sort each member's literal is 1, and what is left is the body's, with no gate.
abbrev pub translate_quantifier : Quantifier → Matrix Literal → Matrix Literal → Builder Literal
translate_quantifier for-all members bodies = translate_comparison within members bodies
translate_quantifier for_some members bodies = do
  both ← translate_binary intersection members bodies
  translate_test some both.cells

-- ---- the walk, over the literals of the cells: "kind 12 puts the body's literal in the cell" (over a bounded
-- sort "AND(member, body)"), "Not is the opposite literal"
module _ (sheet : Sheet) (cells : List Literal) where
  abbrev pub literal_at : ℕ → Literal
  literal_at i = get_or cells i absent

  -- the atoms of variable x's sort; and the bodies' literals, atom by atom, as a set of it
  abbrev pub range : ℕ → Environment → Matrix Literal
  range x env = leaf_matrix sheet literal_at constant atoms (sort_of sheet x) env

  abbrev pub bodies : ℕ → List Literal → Matrix Literal
  bodies x ls = set_of (scope sheet (sort_of sheet x)) ls

  unfoldable mutual
    pub translate : Expression → Environment → Builder (Matrix Literal)
    translate (leaf l a) env = return (leaf_matrix sheet literal_at constant l a env)
    translate (binary o e f) env = do
      p ← translate e env
      q ← translate f env
      translate_binary o p q
    translate (unary o e) env = do
      p ← translate e env
      translate_unary o p
    translate (comprehension x f) env = do
      ls ← each (λ v. translate_formula f (bind env x v)) (upto (scope sheet (sort_of sheet x)))
      translate_binary intersection (range x env) (bodies x ls)

    pub translate_formula : Formula → Environment → Builder Literal
    translate_formula (comparison o e f) env = do
      p ← translate e env
      q ← translate f env
      translate_comparison o p q
    translate_formula (test o e) env = do
      p ← translate e env
      translate_test o p.cells
    translate_formula (negation f) env = opposite <$> translate_formula f env
    translate_formula (connective o f g) env = do
      p ← translate_formula f env
      q ← translate_formula g env
      translate_connective o (p, q)
    translate_formula (quantified k x f) env = do
      ls ← each (λ v. translate_formula f (bind env x v)) (upto (scope sheet (sort_of sheet x)))
      translate_quantifier k (range x env) (bodies x ls)

  -- the root's walk: no variable is free in it, so that any atoms do
  abbrev pub translate_tree : Tree → Builder Literal
  translate_tree (expression e) = return absent
  translate_tree (formula f) = translate_formula f (λ x. 0)
  translate_tree broken = return absent
