-- The constant table of kinds (document 01, "Kinds and meanings").
use Rattle.std.specs.Prelude.{Bool, true, false, cond, List, [], ◌∷◌, ℕ, eqb}
use Rattle.kinds.specs.declared.Field.{Field}
use Rattle.kinds.specs.declared.Field.TheVariants.{Unused, Node, Relation, Variable, Sort}
use Rattle.kinds.specs.declared.Rule.{Rule}
use Rattle.kinds.specs.declared.Rule.TheVariants.{Unknown, OfRelation, OfVariable, OfSort, OfIdentity, Same, Join, Product, Inverse}
use Rattle.kinds.specs.declared.Rule.TheVariants.{Closure, Comprehension, Comparison, Test, Negation, Connective, Quantifier}
use Rattle.kinds.specs.declared.Row.{Row}

abbrev pub row : Field → Field → Rule → Row
row a b rule = record { a = a; b = b; rule = rule }

-- "Each kind has one row in a constant table: which fields are nodes, and what shapes it takes." "A field not named below is 0."
abbrev pub kinds : List (ℕ × Row)
kinds =
    (1, row Relation Unused OfRelation) ∷
    (2, row Variable Unused OfVariable) ∷
    (3, row Sort Unused OfSort) ∷
    (4, row Sort Unused OfIdentity) ∷
    (5, row Node Node Same) ∷
    (6, row Node Node Same) ∷
    (7, row Node Node Same) ∷
    (8, row Node Node Join) ∷
    (9, row Node Node Product) ∷
    (10, row Node Unused Inverse) ∷
    (11, row Node Unused Closure) ∷
    (12, row Variable Node Comprehension) ∷
    (20, row Node Node Comparison) ∷
    (21, row Node Node Comparison) ∷
    (22, row Node Unused Test) ∷
    (23, row Node Unused Test) ∷
    (24, row Node Unused Test) ∷
    (30, row Node Unused Negation) ∷
    (31, row Node Node Connective) ∷
    (32, row Node Node Connective) ∷
    (33, row Node Node Connective) ∷
    (34, row Node Node Connective) ∷
    (40, row Variable Node Quantifier) ∷
    (41, row Variable Node Quantifier) ∷ []

abbrev pub lookup : ℕ → List (ℕ × Row) → Row
lookup kind [] = row Unused Unused Unknown
lookup kind (r ∷ rs) = cond (eqb kind r.0) r.1 (lookup kind rs)

-- a kind's row; an unknown kind has no rule
unfoldable pub row_of : ℕ → Row
row_of kind = lookup kind kinds

abbrev pub is_known : Rule → Bool
is_known Unknown = false
is_known OfRelation = true
is_known OfVariable = true
is_known OfSort = true
is_known OfIdentity = true
is_known Same = true
is_known Join = true
is_known Product = true
is_known Inverse = true
is_known Closure = true
is_known Comprehension = true
is_known Comparison = true
is_known Test = true
is_known Negation = true
is_known Connective = true
is_known Quantifier = true
