-- A known symbol tells the number of its kind.
use mathlib.Core.Path.{◌≡◌, refl, sym, ap, ◌∙◌}
use mathlib.Core.Bool.{Bool, true, false, cond, true≢false}
use mathlib.Core.List.{List, [], ◌∷◌, map}
use Prim.Native.Nat.{ℕ}
use lib.Dec.{eqb}
use borrow.Author.Tests.{eqb-true}
use Rattle.relational.specs.declared.Symbol.{Symbol}
use Rattle.relational.specs.declared.Leaf.TheVariants.{Relation as relation, Variable as variable, Atoms as atoms}
use Rattle.relational.specs.declared.Leaf.TheVariants.{Identity as identity}
use Rattle.relational.specs.declared.Binary.TheVariants.{Union as union, Intersection as intersection}
use Rattle.relational.specs.declared.Binary.TheVariants.{Difference as difference, Join as join, Product as product}
use Rattle.relational.specs.declared.Unary.TheVariants.{Inverse as inverse, Closure as closure}
use Rattle.relational.specs.declared.Comparison.TheVariants.{Equal as equal, Within as within}
use Rattle.relational.specs.declared.Test.TheVariants.{Some as some, None as none, Lone as lone}
use Rattle.relational.specs.declared.Connective.TheVariants.{Conjunction as conjunction, Disjunction as disjunction}
use Rattle.relational.specs.declared.Connective.TheVariants.{Implication as implication, Equivalence as equivalence}
use Rattle.relational.specs.declared.Quantifier.TheVariants.{All as for-all, Some as for_some}
use Rattle.relational.specs.declared.Symbol.TheVariants.{Leaf as leaf-symbol, Binary as binary-symbol, Unary as unary-symbol}
use Rattle.relational.specs.declared.Symbol.TheVariants.{Comparison as comparison-symbol, Test as test-symbol}
use Rattle.relational.specs.declared.Symbol.TheVariants.{Connective as connective-symbol, Quantifier as quantifier-symbol}
use Rattle.relational.specs.declared.Symbol.TheVariants.{Comprehension as comprehension-symbol, Negation as negation-symbol}
use Rattle.relational.specs.declared.Symbol.TheVariants.{Unknown as unknown-symbol}
use Rattle.relational.specs.Trees.{symbols, symbol_in, symbol_of}

abbrev pub number_of : Symbol → ℕ
number_of (leaf-symbol relation) = 1
number_of (leaf-symbol variable) = 2
number_of (leaf-symbol atoms) = 3
number_of (leaf-symbol identity) = 4
number_of (binary-symbol union) = 5
number_of (binary-symbol intersection) = 6
number_of (binary-symbol difference) = 7
number_of (binary-symbol join) = 8
number_of (binary-symbol product) = 9
number_of (unary-symbol inverse) = 10
number_of (unary-symbol closure) = 11
number_of comprehension-symbol = 12
number_of (comparison-symbol equal) = 20
number_of (comparison-symbol within) = 21
number_of (test-symbol some) = 22
number_of (test-symbol none) = 23
number_of (test-symbol lone) = 24
number_of negation-symbol = 30
number_of (connective-symbol conjunction) = 31
number_of (connective-symbol disjunction) = 32
number_of (connective-symbol implication) = 33
number_of (connective-symbol equivalence) = 34
number_of (quantifier-symbol for-all) = 40
number_of (quantifier-symbol for_some) = 41
number_of unknown-symbol = 0

abbrev is_known : Symbol → Bool
is_known unknown-symbol = false
is_known (leaf-symbol l) = true
is_known (binary-symbol o) = true
is_known (unary-symbol o) = true
is_known (comparison-symbol o) = true
is_known (test-symbol o) = true
is_known (connective-symbol o) = true
is_known (quantifier-symbol o) = true
is_known comprehension-symbol = true
is_known negation-symbol = true

abbrev numbered : ℕ × Symbol → ℕ × Symbol
numbered s = (number_of s.1, s.1)

-- one computed test over all kinds
all-numbered : symbols ≡ map numbered symbols
all-numbered = refl

number_in : (k : ℕ) (ss : List (ℕ × Symbol)) → is_known (symbol_in k (map numbered ss)) ≡ true → k ≡ number_of (symbol_in k (map numbered ss))
number_in k [] e = absurd (true≢false (sym e))
number_in k (s ∷ ss) e = go (eqb k (number_of s.1)) refl (number_in k ss) e
  where
    go : (b : Bool) → eqb k (number_of s.1) ≡ b
        → (is_known (symbol_in k (map numbered ss)) ≡ true → k ≡ number_of (symbol_in k (map numbered ss)))
        → is_known (cond b s.1 (symbol_in k (map numbered ss))) ≡ true → k ≡ number_of (cond b s.1 (symbol_in k (map numbered ss)))
    go true h ih e = eqb-true k (number_of s.1) h
    go false h ih e = ih e

pub number-of : (k : ℕ) (s : Symbol) → symbol_of k ≡ s → is_known s ≡ true → k ≡ number_of s
unfolding symbol_of
number-of k s e h =
    let f : symbol_in k (map numbered symbols) ≡ s = ap (symbol_in k) (sym all-numbered) ∙ e in
    number_in k symbols (ap is_known f ∙ h) ∙ ap number_of f

pub relation-symbol : (k : ℕ) → k ≡ 1 → symbol_of k ≡ leaf-symbol relation
unfolding symbol_of
relation-symbol k e = rw e refl
