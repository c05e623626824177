-- Bytes, blocks and records (document 01, "The sheet").
use Rattle.std.specs.Prelude.{Bool, cond, List, ℕ, ◌+◌, ◌*◌, ◌-◌, ◌/◌, leb, length, get_or, take, drop}

-- the byte at i; past the end it counts as 0
abbrev pub byte : List ℕ → ℕ → ℕ
byte s i = get_or s i 0

-- "each headed by its length in bytes (two bytes, big-endian)": the length that stands at a head
abbrev pub length_at : List ℕ → ℕ → ℕ
length_at s head = byte s head * 256 + byte s (head + 1)

-- the block under a head
abbrev pub block_at : List ℕ → ℕ → List ℕ
block_at s head = take (length_at s head) (drop (head + 2) s)

-- where that block ends: the next one's head
abbrev pub after : List ℕ → ℕ → ℕ
after s head = head + 2 + length_at s head

-- "Byte 0 is the version, 1. Four blocks follow": the head of each, and the end of the last
abbrev pub variables_head : List ℕ → ℕ
variables_head s = after s 1

abbrev pub relations_head : List ℕ → ℕ
relations_head s = after s (variables_head s)

abbrev pub nodes_head : List ℕ → ℕ
nodes_head s = after s (relations_head s)

abbrev pub blocks_end : List ℕ → ℕ
blocks_end s = after s (nodes_head s)

-- the four blocks, in bytes
pub record Sheet : Type 0 where
  pub sorts : List ℕ
  pub variables : List ℕ
  pub relations : List ℕ
  pub nodes : List ℕ

abbrev pub four_blocks : List ℕ → List ℕ → List ℕ → List ℕ → Sheet
four_blocks sorts variables relations nodes =
    record { sorts = sorts; variables = variables; relations = relations; nodes = nodes }

abbrev pub sheet_of : List ℕ → Sheet
sheet_of s = four_blocks (block_at s 1) (block_at s (variables_head s)) (block_at s (relations_head s)) (block_at s (nodes_head s))

module _ (sheet : Sheet) where
  -- "Sorts, 1 to 8, one byte each: the scope"
  abbrev pub sort_count : ℕ
  sort_count = length sheet.sorts

  -- a limited sort: "A scope byte of 129 to 136 now means up to that number less 128" (document 02, Change 8)
  abbrev pub is_bounded : ℕ → Bool
  is_bounded k = leb 129 (byte sheet.sorts k)

  -- the atoms that it has, or can have
  abbrev pub scope : ℕ → ℕ
  scope k = cond (is_bounded k) (byte sheet.sorts k - 128) (byte sheet.sorts k)

  -- "Variables, 0 to 4, one byte each: its sort."
  abbrev pub variable_count : ℕ
  variable_count = length sheet.variables

  abbrev pub sort_of : ℕ → ℕ
  sort_of x = byte sheet.variables x

  -- "Relations, 1 to 16, four bytes each: columns (1 a set, 2 a relation), mark, first sort, second sort (0 for a set)."
  abbrev pub relation_count : ℕ
  relation_count = length sheet.relations / 4

  abbrev pub columns : ℕ → ℕ
  columns r = byte sheet.relations (4 * r)

  -- the paper's mark: 0 any, 1 at most one value (lone), 2 exactly one
  abbrev pub multiplicity : ℕ → ℕ
  multiplicity r = byte sheet.relations (4 * r + 1)

  abbrev pub first_sort : ℕ → ℕ
  first_sort r = byte sheet.relations (4 * r + 2)

  abbrev pub second_sort : ℕ → ℕ
  second_sort r = byte sheet.relations (4 * r + 3)

  -- "Nodes, 1 to 200, three bytes each: kind, a, b." "The last node is the root."
  abbrev pub node_count : ℕ
  node_count = length sheet.nodes / 3

  abbrev pub kind : ℕ → ℕ
  kind v = byte sheet.nodes (3 * v)

  abbrev pub field_a : ℕ → ℕ
  field_a v = byte sheet.nodes (3 * v + 1)

  abbrev pub field_b : ℕ → ℕ
  field_b v = byte sheet.nodes (3 * v + 2)

  abbrev pub root : ℕ
  root = node_count - 1
