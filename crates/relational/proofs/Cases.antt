-- Worked sheets, evaluated by computation: one theorem over all rows, on the meaning.
use mathlib.Core.Path.{◌≡◌, refl}
use mathlib.Core.Bool.{Bool, true, false, ◌&&◌, false≢true}
use mathlib.Core.List.{List, [], ◌∷◌, ◌++◌, map}
use Prim.Native.Nat.{ℕ, ◌<◌}
use lib.Dec.{eqb}
use lib.ListN.{get_or, length}
use Rattle.prelude.specs.Tests.{each, all, any}
use Rattle.prelude.proofs.Laws.{and_left, and_right, all-at}
use Rattle.kinds.specs.Kinds.{row_of}
use Rattle.sheet_rules.specs.Blocks.{Sheet, sheet_of, relation_count}
use Rattle.sheet_rules.specs.Tables.{table, shape_step, free_step, visits_step}
use Rattle.sheet_rules.specs.declared.Layout.{Layout}
use Rattle.sheet_rules.specs.Reading.{counted, scoped, declared, nodes_fine, shaped, rooted, walkable, Answer, accepted, refused, reading}
use Rattle.relational.specs.Trees.{symbol_of, tree_step}
use Rattle.relational.specs.Cells.{first_member, first_cell, has_cells}
use Rattle.relational.specs.Matrices.{rounds, Matrix, relation_of}
use Rattle.relational.specs.Meaning.{OfAtoms, Satisfies}
use Rattle.relational.specs.Evaluation.{same, after_rounds, value_of, truth_of, marks_hold, cells_inside, holds}
use Rattle.relational.proofs.Flags.{Is}
use Rattle.relational.proofs.Accepted.{accepted-holds}

record Case : Type 0 where
  sheet : List ℕ
  instance : List ℕ
  satisfied : Bool

-- a block: its length in two bytes, then its bytes
abbrev block : List ℕ → List ℕ
block bytes = 0 ∷ length bytes ∷ bytes

abbrev written : List ℕ → List ℕ → List ℕ → List ℕ → List ℕ
written sorts variables relations nodes = 1 ∷ (block sorts ++ (block variables ++ (block relations ++ block nodes)))

abbrev row : List ℕ → List ℕ → Bool → Case
row sheet instance satisfied = record { sheet = sheet; instance = instance; satisfied = satisfied }

-- for all v0, for some v0, v0 within r0: the inner binder counts
abbrev shadowed : List ℕ
shadowed = written (2 ∷ []) (0 ∷ []) (1 ∷ 0 ∷ 0 ∷ 0 ∷ []) (2 ∷ 0 ∷ 0 ∷ 1 ∷ 0 ∷ 0 ∷ 21 ∷ 0 ∷ 1 ∷ 41 ∷ 0 ∷ 2 ∷ 40 ∷ 0 ∷ 3 ∷ [])

-- for all v0, (for some v0, v0 within r0) and v0 within r0: after the inner binder the outer value is back
abbrev restored : List ℕ
restored =
    written (2 ∷ []) (0 ∷ []) (1 ∷ 0 ∷ 0 ∷ 0 ∷ [])
    (2 ∷ 0 ∷ 0 ∷ 1 ∷ 0 ∷ 0 ∷ 21 ∷ 0 ∷ 1 ∷ 41 ∷ 0 ∷ 2 ∷ 31 ∷ 3 ∷ 2 ∷ 40 ∷ 0 ∷ 4 ∷ [])

-- the closure of r0 is the product of its sort with itself, at a scope
abbrev connected : ℕ → List ℕ
connected scope =
    written (scope ∷ []) [] (2 ∷ 0 ∷ 0 ∷ 0 ∷ []) (1 ∷ 0 ∷ 0 ∷ 11 ∷ 0 ∷ 0 ∷ 3 ∷ 0 ∷ 0 ∷ 9 ∷ 2 ∷ 2 ∷ 20 ∷ 1 ∷ 3 ∷ [])

-- r0 equal r0, under a mark: of a set, of a relation
abbrev marked_set : ℕ → List ℕ
marked_set mark = written (2 ∷ []) [] (1 ∷ mark ∷ 0 ∷ 0 ∷ []) (1 ∷ 0 ∷ 0 ∷ 20 ∷ 0 ∷ 0 ∷ [])

abbrev marked_relation : ℕ → List ℕ
marked_relation mark = written (2 ∷ []) [] (2 ∷ mark ∷ 0 ∷ 0 ∷ []) (1 ∷ 0 ∷ 0 ∷ 20 ∷ 0 ∷ 0 ∷ [])

-- some of (those v0 within r0).r1, where r1 goes from a sort of 2 atoms to one of 3
abbrev imaged : List ℕ
imaged =
    written (2 ∷ 3 ∷ []) (0 ∷ []) (1 ∷ 0 ∷ 0 ∷ 0 ∷ 2 ∷ 0 ∷ 0 ∷ 1 ∷ [])
    (2 ∷ 0 ∷ 0 ∷ 1 ∷ 0 ∷ 0 ∷ 21 ∷ 0 ∷ 1 ∷ 12 ∷ 0 ∷ 2 ∷ 1 ∷ 1 ∷ 0 ∷ 8 ∷ 3 ∷ 4 ∷ 22 ∷ 5 ∷ 0 ∷ [])

-- ---- scopes as upper limits (document 02, Change 8): sort 0 has up to 2 atoms; an instance starts with its members
-- a set of sort 0 and a variable over it, with some nodes
abbrev bounded : List ℕ → List ℕ
bounded nodes = written (130 ∷ []) (0 ∷ []) (1 ∷ 0 ∷ 0 ∷ 0 ∷ []) nodes

-- for all v0, v0 within r0
abbrev all_of : List ℕ
all_of = bounded (2 ∷ 0 ∷ 0 ∷ 1 ∷ 0 ∷ 0 ∷ 21 ∷ 0 ∷ 1 ∷ 40 ∷ 0 ∷ 2 ∷ [])

-- for some v0, v0 equal v0; none of those v0 for which v0 equal v0
abbrev some_of : List ℕ
some_of = bounded (2 ∷ 0 ∷ 0 ∷ 20 ∷ 0 ∷ 0 ∷ 41 ∷ 0 ∷ 1 ∷ [])

abbrev none_of : List ℕ
none_of = bounded (2 ∷ 0 ∷ 0 ∷ 20 ∷ 0 ∷ 0 ∷ 12 ∷ 0 ∷ 1 ∷ 23 ∷ 2 ∷ 0 ∷ [])

-- all atoms of sort 0 equal r0
abbrev atoms_equal : List ℕ
atoms_equal = bounded (3 ∷ 0 ∷ 0 ∷ 1 ∷ 0 ∷ 0 ∷ 20 ∷ 0 ∷ 1 ∷ [])

-- the identity on sort 0 equal r0
abbrev identity_equal : List ℕ
identity_equal = written (130 ∷ []) [] (2 ∷ 0 ∷ 0 ∷ 0 ∷ []) (4 ∷ 0 ∷ 0 ∷ 1 ∷ 0 ∷ 0 ∷ 20 ∷ 0 ∷ 1 ∷ [])

-- r0 equal r0, under a mark: of a set of sort 0; of a relation between sorts 0 and 1, of which sort 1 has 2 atoms
abbrev bounded_set : ℕ → List ℕ
bounded_set mark = written (130 ∷ []) [] (1 ∷ mark ∷ 0 ∷ 0 ∷ []) (1 ∷ 0 ∷ 0 ∷ 20 ∷ 0 ∷ 0 ∷ [])

abbrev bounded_relation : ℕ → ℕ → ℕ → List ℕ
bounded_relation mark first second =
    written (130 ∷ 2 ∷ []) [] (2 ∷ mark ∷ first ∷ second ∷ []) (1 ∷ 0 ∷ 0 ∷ 20 ∷ 0 ∷ 0 ∷ [])

abbrev ring : List ℕ
ring = 0 ∷ 1 ∷ 0 ∷ 0 ∷ 0 ∷ 0 ∷ 0 ∷ 1 ∷ 0 ∷ 0 ∷ 0 ∷ 0 ∷ 0 ∷ 1 ∷ 0 ∷ 0 ∷ 0 ∷ 0 ∷ 0 ∷ 1 ∷ 1 ∷ 0 ∷ 0 ∷ 0 ∷ 0 ∷ []

abbrev line : List ℕ
line = 0 ∷ 1 ∷ 0 ∷ 0 ∷ 0 ∷ 0 ∷ 0 ∷ 1 ∷ 0 ∷ 0 ∷ 0 ∷ 0 ∷ 0 ∷ 1 ∷ 0 ∷ 0 ∷ 0 ∷ 0 ∷ 0 ∷ 1 ∷ 0 ∷ 0 ∷ 0 ∷ 0 ∷ 0 ∷ []

abbrev cases : List Case
cases =
    row shadowed (0 ∷ 1 ∷ []) true ∷
    row shadowed (0 ∷ 0 ∷ []) false ∷
    row restored (0 ∷ 1 ∷ []) false ∷
    row restored (1 ∷ 1 ∷ []) true ∷
    row (connected 5) ring true ∷
    row (connected 5) line false ∷
    row (marked_set 0) (1 ∷ 1 ∷ []) true ∷
    row (marked_set 1) (0 ∷ 0 ∷ []) true ∷
    row (marked_set 1) (1 ∷ 1 ∷ []) false ∷
    row (marked_set 2) (0 ∷ 0 ∷ []) false ∷
    row (marked_set 2) (0 ∷ 1 ∷ []) true ∷
    row (marked_relation 1) (1 ∷ 0 ∷ 0 ∷ 0 ∷ []) true ∷
    row (marked_relation 2) (1 ∷ 0 ∷ 0 ∷ 0 ∷ []) false ∷
    row (marked_relation 2) (1 ∷ 0 ∷ 1 ∷ 0 ∷ []) true ∷
    row imaged (0 ∷ 1 ∷ 1 ∷ 1 ∷ 1 ∷ 0 ∷ 0 ∷ 0 ∷ []) false ∷
    row imaged (0 ∷ 1 ∷ 0 ∷ 0 ∷ 0 ∷ 0 ∷ 0 ∷ 1 ∷ []) true ∷
    -- an atom is not used; there is no atom at all; a 1 of a non-member
    row (bounded_set 0) (1 ∷ 0 ∷ 1 ∷ 0 ∷ []) true ∷
    row (bounded_set 0) (0 ∷ 0 ∷ 0 ∷ 0 ∷ []) true ∷
    row (bounded_set 0) (1 ∷ 0 ∷ 0 ∷ 1 ∷ []) false ∷
    -- a 1 of a member and a full sort's atom; of a non-member in the first column, and in the second
    row (bounded_relation 0 0 1) (1 ∷ 0 ∷ 0 ∷ 1 ∷ 0 ∷ 0 ∷ []) true ∷
    row (bounded_relation 0 0 1) (1 ∷ 0 ∷ 0 ∷ 0 ∷ 1 ∷ 0 ∷ []) false ∷
    row (bounded_relation 0 1 0) (1 ∷ 0 ∷ 0 ∷ 1 ∷ 0 ∷ 0 ∷ []) false ∷
    row (bounded_relation 0 0 0) (1 ∷ 0 ∷ 0 ∷ 1 ∷ 0 ∷ 0 ∷ []) false ∷
    -- mark 2: an empty row of a non-member, of a member, and of a full sort's atom
    row (bounded_relation 2 0 1) (1 ∷ 0 ∷ 0 ∷ 1 ∷ 0 ∷ 0 ∷ []) true ∷
    row (bounded_relation 2 0 1) (1 ∷ 1 ∷ 0 ∷ 1 ∷ 0 ∷ 0 ∷ []) false ∷
    row (bounded_relation 2 1 0) (1 ∷ 0 ∷ 1 ∷ 0 ∷ 0 ∷ 0 ∷ []) false ∷
    -- "A set's row is bound as before.", also where there is no atom
    row (bounded_set 2) (0 ∷ 0 ∷ 0 ∷ 0 ∷ []) false ∷
    row (bounded_set 2) (0 ∷ 1 ∷ 0 ∷ 1 ∷ []) true ∷
    -- for all and for some take members only: with no atom true and false
    row all_of (0 ∷ 0 ∷ 0 ∷ 0 ∷ []) true ∷
    row all_of (1 ∷ 0 ∷ 1 ∷ 0 ∷ []) true ∷
    row all_of (1 ∷ 1 ∷ 1 ∷ 0 ∷ []) false ∷
    row some_of (0 ∷ 0 ∷ 0 ∷ 0 ∷ []) false ∷
    row some_of (0 ∷ 1 ∷ 0 ∷ 0 ∷ []) true ∷
    -- kinds 12, 3 and 4: the members, or nothing
    row none_of (0 ∷ 0 ∷ 0 ∷ 0 ∷ []) true ∷
    row none_of (0 ∷ 1 ∷ 0 ∷ 0 ∷ []) false ∷
    row atoms_equal (0 ∷ 0 ∷ 0 ∷ 0 ∷ []) true ∷
    row atoms_equal (0 ∷ 1 ∷ 0 ∷ 1 ∷ []) true ∷
    row atoms_equal (0 ∷ 1 ∷ 0 ∷ 0 ∷ []) false ∷
    row identity_equal (0 ∷ 0 ∷ 0 ∷ 0 ∷ 0 ∷ 0 ∷ []) true ∷
    row identity_equal (0 ∷ 1 ∷ 0 ∷ 0 ∷ 0 ∷ 1 ∷ []) true ∷
    row identity_equal (0 ∷ 1 ∷ 0 ∷ 0 ∷ 0 ∷ 0 ∷ []) false ∷
    -- closure with up to 3 atoms: of none; of the outer two, each of which leads to the other; of all three
    row (connected 131) (0 ∷ 0 ∷ 0 ∷ 0 ∷ 0 ∷ 0 ∷ 0 ∷ 0 ∷ 0 ∷ 0 ∷ 0 ∷ 0 ∷ []) true ∷
    row (connected 131) (1 ∷ 0 ∷ 1 ∷ 0 ∷ 0 ∷ 1 ∷ 0 ∷ 0 ∷ 0 ∷ 1 ∷ 0 ∷ 0 ∷ []) true ∷
    row (connected 131) (1 ∷ 1 ∷ 1 ∷ 0 ∷ 0 ∷ 1 ∷ 0 ∷ 0 ∷ 0 ∷ 1 ∷ 0 ∷ 0 ∷ []) false ∷ []

abbrev is_accepted : Answer → Bool
is_accepted (accepted l) = true
is_accepted (refused n) = false

has-layout : (a : Answer) → is_accepted a ≡ true → (l : Layout) × (a ≡ accepted l)
has-layout (accepted l) e = (l, refl)
has-layout (refused n) e = absurd (false≢true e)

abbrev computed : Case → Bool
computed c =
    is_accepted (reading c.sheet)
    && (has_cells (sheet_of c.sheet) c.instance && same (holds (sheet_of c.sheet) c.instance, c.satisfied))

all-computed : all computed cases ≡ true
unfolding all any each reading counted scoped declared nodes_fine shaped rooted walkable table shape_step free_step visits_step row_of
    symbol_of tree_step first_cell first_member has_cells rounds value_of truth_of marks_hold cells_inside holds
all-computed = refl

-- every row says what the meaning says
abbrev Verdict : Bool → Type 0 → Type 0
Verdict true P = P
Verdict false P = P → ⊥

abbrev Says : Case → Type 0
Says c = ((r : ℕ) → r < relation_count (sheet_of c.sheet) → OfAtoms (sheet_of c.sheet) c.instance r) × Satisfies
    (sheet_of c.sheet) c.instance

abbrev Meets : Case → Type 0
Meets c = Verdict c.satisfied (Says c)

verdict : (a b : Bool) (P : Type 0) → Is a P → same (a, b) ≡ true → Verdict b P
verdict true true P h e = h.0 refl
verdict true false P h e = absurd (false≢true e)
verdict false true P h e = absurd (false≢true e)
verdict false false P h e = λ p. false≢true (h.1 p)

meets : (c : Case) → computed c ≡ true → Meets c
meets c e =
    let s : Sheet = sheet_of c.sheet in
    let taken : Bool = is_accepted (reading c.sheet) in
    let fits : Bool = has_cells s c.instance in
    let agrees : Bool = same (holds s c.instance, c.satisfied) in
    let layout = has-layout (reading c.sheet) (and_left taken (fits && agrees) e) in
    verdict (holds s c.instance) c.satisfied (Says c)
    (accepted-holds c.sheet layout.0 layout.1 c.instance) (and_right fits agrees (and_right taken (fits && agrees) e))

pub worked : (i : ℕ) → i < length cases → Meets (get_or cases i (row [] [] true))
worked i h = meets (get_or cases i (row [] [] true)) (all-at computed cases all-computed i (row [] [] true) h)

-- at scope 5 it takes three rounds: after two no atom of the ring has come back to itself
abbrev ring_matrix : Matrix Bool
ring_matrix = relation_of 5 5 (map (λ (b : ℕ). eqb b 1) ring)

pub three-rounds : rounds 5 ≡ 3
unfolding rounds
three-rounds = refl

pub two-do-not-reach : get_or (after_rounds 2 ring_matrix).cells 0 true ≡ false
unfolding any
two-do-not-reach = refl

pub three-do : get_or (after_rounds 3 ring_matrix).cells 0 false ≡ true
unfolding any
three-do = refl
