-- When a sheet is refused: numbers 1 to 9 (document 01, "Answers that decline"), one condition for each.
use Rattle.std.specs.Prelude.{Bool, true, false, not, ◌&&◌, cond, List, ℕ, ◌+◌, ◌%◌, eqb, ltb, leb, length, get_or}
use Rattle.prelude.specs.Tests.{between, each}
use Rattle.kinds.specs.declared.Field.{Field}
use Rattle.kinds.specs.declared.Field.TheVariants.{Unused, Node, Relation, Variable, Sort}
use Rattle.shapes.specs.declared.Shape.TheVariants.{Ill}
use Rattle.sheet_rules.specs.declared.Layout.{Layout}
use Rattle.sheet_rules.specs.Blocks.{Sheet, byte, blocks_end, sheet_of, sort_count, scope, variable_count, sort_of}
use Rattle.sheet_rules.specs.Blocks.{relation_count, columns, multiplicity, first_sort, second_sort, node_count, kind, field_a, field_b}
use Rattle.sheet_rules.specs.Blocks.{root}
use Rattle.kinds.specs.Kinds.{row_of, is_known}
use Rattle.shapes.specs.Shapes.{is_formula, is_shaped}
use Rattle.sheet_rules.specs.Tables.{shapes, free, visits}

-- 1 VERSION, unless: "no byte, or byte 0 is not 1" (no byte counts as 0)
abbrev pub versioned : List ℕ → Bool
versioned s = eqb (byte s 0) 1

-- 2 LENGTH, unless: "blocks don't fill the sheet, or a block is no whole count of records"
-- (a length that is cut short or lies past the end leaves the blocks' end past the sheet's)
abbrev pub filled : List ℕ → Bool
filled s = eqb (blocks_end s) (length s)

abbrev pub whole : Sheet → Bool
whole sheet = eqb (length sheet.relations % 4) 0 && eqb (length sheet.nodes % 3) 0

module _ (sheet : Sheet) where
  -- 3 COUNT, unless: "a block's record count is outside its range"
  unfoldable pub counted : Bool
  counted =
      between 1 8 (sort_count sheet)
      && (leb (variable_count sheet) 4 && (between 1 16 (relation_count sheet) && between 1 200 (node_count sheet)))

  -- 4 SCOPE, unless: "a scope is outside 1 to 8"; 129 to 136 are up to 1 to 8, and "4 covers the rest outside 1 to 8"
  unfoldable pub scoped : Bool
  scoped = each (sort_count sheet) (λ k. between 1 8 (scope sheet k))

  -- 5 DECLARATION, unless: "a missing sort, bad columns or mark, or a set's last byte not 0"
  abbrev pub is_sort : ℕ → Bool
  is_sort k = ltb k (sort_count sheet)

  abbrev pub relation_declared : ℕ → Bool
  relation_declared r =
      between 1 2 (columns sheet r)
      && (leb (multiplicity sheet r) 2
      && (is_sort (first_sort sheet r)
      && cond (eqb (columns sheet r) 1) (eqb (second_sort sheet r) 0) (is_sort (second_sort sheet r))))

  unfoldable pub declared : Bool
  declared =
      each (variable_count sheet) (λ x. is_sort (sort_of sheet x)) && each (relation_count sheet) relation_declared

  -- 6 NODE, unless: "unknown kind, filled unused field, missing item, node operand not lower"
  -- field x of node v, by what it names
  abbrev pub field_fine : Field → ℕ → ℕ → Bool
  field_fine Unused v x = eqb x 0
  field_fine Node v x = ltb x v
  field_fine Relation v x = ltb x (relation_count sheet)
  field_fine Variable v x = ltb x (variable_count sheet)
  field_fine Sort v x = ltb x (sort_count sheet)

  abbrev pub node_fine : ℕ → Bool
  node_fine v =
      let row = row_of (kind sheet v) in
      is_known row.rule && (field_fine row.a v (field_a sheet v) && field_fine row.b v (field_b sheet v))

  unfoldable pub nodes_fine : Bool
  nodes_fine = each (node_count sheet) node_fine

  -- 7 SHAPE, unless: "operands of a shape the kind doesn't take"; nodes that the root does not reach too
  unfoldable pub shaped : Bool
  shaped = each (node_count sheet) (λ v. is_shaped (get_or (shapes sheet) v Ill))

  -- 8 ROOT, unless: "the root is no formula, or a variable is unbound on some path down from it"
  unfoldable pub rooted : Bool
  rooted =
      is_formula (get_or (shapes sheet) (root sheet) Ill)
      && each (variable_count sheet) (λ x. not (get_or (free sheet x) (root sheet) false))

  -- 9 WALK, unless: "more than 1,000,000 node visits in the root's walk, the root's own included"
  unfoldable pub walkable : Bool
  walkable = leb (get_or (visits sheet) (root sheet) 0) 1000000

  -- where each block stands and how many records it has: "each headed by its length in bytes (two bytes ..)"
  abbrev pub layout_of : Layout
  layout_of =
      let variables = 3 + length sheet.sorts + 2 in
      let relations = variables + length sheet.variables + 2 in
      let nodes = relations + length sheet.relations + 2 in
      record {
        sorts = record { start = 3; count = sort_count sheet };
        variables = record { start = variables; count = variable_count sheet };
        relations = record { start = relations; count = relation_count sheet };
        nodes = record { start = nodes; count = node_count sheet };
      }

-- what reading answers: accepted, with where the blocks stand, or the number of a refusal
pub data Answer : Type 0 where
  accepted : Layout → Answer
  refused : ℕ → Answer

-- "Tested in this order, each over all of its input"
abbrev pub unless : Bool → ℕ → Answer → Answer
unless true number next = next
unless false number next = refused number

-- 7 to 9
abbrev pub walk_judged : Sheet → Answer
walk_judged sheet = unless (shaped sheet) 7 (unless (rooted sheet) 8 (unless (walkable sheet) 9 (accepted (layout_of sheet))))

-- 6 to 9, 5 to 9, and so on
abbrev pub node_judged : Sheet → Answer
node_judged sheet = unless (nodes_fine sheet) 6 (walk_judged sheet)

abbrev pub declaration_judged : Sheet → Answer
declaration_judged sheet = unless (declared sheet) 5 (node_judged sheet)

abbrev pub scope_judged : Sheet → Answer
scope_judged sheet = unless (scoped sheet) 4 (declaration_judged sheet)

abbrev pub count_judged : Sheet → Answer
count_judged sheet = unless (counted sheet) 3 (scope_judged sheet)

abbrev pub whole_judged : Sheet → Answer
whole_judged sheet = unless (whole sheet) 2 (count_judged sheet)

unfoldable pub reading : List ℕ → Answer
reading s = unless (versioned s) 1 (unless (filled s) 2 (whole_judged (sheet_of s)))
