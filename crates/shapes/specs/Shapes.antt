-- Shapes, and what shapes a kind takes and gives (document 01, "Kinds and meanings").
use Rattle.std.specs.Prelude.{Bool, true, false, ◌&&◌, ℕ, eqb}
use Rattle.kinds.specs.declared.Rule.{Rule}
use Rattle.kinds.specs.declared.Rule.TheVariants.{Unknown, OfRelation, OfVariable, OfSort, OfIdentity, Same, Join, Product, Inverse}
use Rattle.kinds.specs.declared.Rule.TheVariants.{Closure, Comprehension, Comparison, Test, Negation, Connective, Quantifier}
use Rattle.shapes.specs.declared.Shape.{Shape}
use Rattle.shapes.specs.declared.Shape.TheVariants.{Ill, Formula, SetOf, RelationOf}

-- "An expression is a set of sort S or a relation from S to T"; Ill stands for a shape that the kind does not take.
-- s where the test holds
abbrev pub only : Bool → Shape → Shape
only true s = s
only false s = Ill

abbrev pub is_shaped : Shape → Bool
is_shaped Ill = false
is_shaped Formula = true
is_shaped (SetOf s) = true
is_shaped (RelationOf s t) = true

abbrev pub is_formula : Shape → Bool
is_formula Ill = false
is_formula Formula = true
is_formula (SetOf s) = false
is_formula (RelationOf s t) = false

abbrev pub is_expression : Shape → Bool
is_expression Ill = false
is_expression Formula = false
is_expression (SetOf s) = true
is_expression (RelationOf s t) = true

-- two expressions "of equal shape"
abbrev pub is_set_of : ℕ → Shape → Bool
is_set_of s Ill = false
is_set_of s Formula = false
is_set_of s (SetOf t) = eqb s t
is_set_of s (RelationOf t u) = false

abbrev pub is_relation_of : ℕ → ℕ → Shape → Bool
is_relation_of s t Ill = false
is_relation_of s t Formula = false
is_relation_of s t (SetOf u) = false
is_relation_of s t (RelationOf u w) = eqb s u && eqb t w

abbrev pub equal_shape : Shape → Shape → Bool
equal_shape Ill y = false
equal_shape Formula y = false
equal_shape (SetOf s) y = is_set_of s y
equal_shape (RelationOf s t) y = is_relation_of s t y

-- "8 join a.b: set with relation, relation with set, relation with relation; the touching sorts are equal; set with set is refused."
abbrev pub join_set : ℕ → Shape → Shape
join_set s Ill = Ill
join_set s Formula = Ill
join_set s (SetOf t) = Ill
join_set s (RelationOf t u) = only (eqb s t) (SetOf u)

abbrev pub join_relation : ℕ → ℕ → Shape → Shape
join_relation s t Ill = Ill
join_relation s t Formula = Ill
join_relation s t (SetOf u) = only (eqb t u) (SetOf s)
join_relation s t (RelationOf u w) = only (eqb t u) (RelationOf s w)

abbrev pub join_shape : Shape → Shape → Shape
join_shape Ill y = Ill
join_shape Formula y = Ill
join_shape (SetOf s) y = join_set s y
join_shape (RelationOf s t) y = join_relation s t y

-- "9 product of two sets."
abbrev pub product_set : ℕ → Shape → Shape
product_set s Ill = Ill
product_set s Formula = Ill
product_set s (SetOf t) = RelationOf s t
product_set s (RelationOf t u) = Ill

abbrev pub product_shape : Shape → Shape → Shape
product_shape Ill y = Ill
product_shape Formula y = Ill
product_shape (SetOf s) y = product_set s y
product_shape (RelationOf s t) y = Ill

-- "10 inverse of a relation."
abbrev pub inverse_shape : Shape → Shape
inverse_shape Ill = Ill
inverse_shape Formula = Ill
inverse_shape (SetOf s) = Ill
inverse_shape (RelationOf s t) = RelationOf t s

-- "11 closure of a relation from a sort to itself"
abbrev pub closure_shape : Shape → Shape
closure_shape Ill = Ill
closure_shape Formula = Ill
closure_shape (SetOf s) = Ill
closure_shape (RelationOf s t) = only (eqb s t) (RelationOf s t)

-- the shape that a rule gives, from the node's field a, the shape of relation a, the sort of variable a,
-- and the shapes x and y of the nodes that the fields name
abbrev pub shape_by : Rule → ℕ → Shape → ℕ → Shape → Shape → Shape
shape_by Unknown a relation sort x y = Ill
shape_by OfRelation a relation sort x y = relation
shape_by OfVariable a relation sort x y = SetOf sort
shape_by OfSort a relation sort x y = SetOf a
shape_by OfIdentity a relation sort x y = RelationOf a a
shape_by Same a relation sort x y = only (equal_shape x y) x
shape_by Join a relation sort x y = join_shape x y
shape_by Product a relation sort x y = product_shape x y
shape_by Inverse a relation sort x y = inverse_shape x
shape_by Closure a relation sort x y = closure_shape x
shape_by Comprehension a relation sort x y = only (is_formula y) (SetOf sort)
shape_by Comparison a relation sort x y = only (equal_shape x y) Formula
shape_by Test a relation sort x y = only (is_expression x) Formula
shape_by Negation a relation sort x y = only (is_formula x) Formula
shape_by Connective a relation sort x y = only (is_formula x && is_formula y) Formula
shape_by Quantifier a relation sort x y = only (is_formula y) Formula
