-- The marks' clauses say that the marks hold.
use mathlib.Core.Path.{◌≡◌, refl, sym, ap, ◌∙◌}
use mathlib.Core.Bool.{Bool, true, false, not, ◌&&◌, ◌||◌, cond, or-false, or-true, and-true}
use mathlib.Core.List.{List, [], ◌∷◌, ◌++◌, map}
use Prim.Native.Nat.{ℕ, zero, suc}
use lib.Dec.{leb}
use Rattle.prelude.specs.Tests.{each, all, any}
use Rattle.prelude.proofs.Laws.{each-cong, all_append}
use Rattle.literal.specs.Literals.{Literal, opposite}
use Rattle.sheet_rules.specs.Blocks.{Sheet, is_bounded, relation_count, multiplicity, first_sort, second_sort}
use Rattle.relational.specs.Cells.{is_set, row_count, row_length, member_cell, cell}
use Rattle.relational.specs.Matrices.{from, pairs}
use Rattle.relational.specs.Evaluation.{both, implies, count, flag_at, row_holds, member_at, row_bound, row_cells, marks_hold}
use Rattle.relational.specs.Evaluation.{cells_inside}
use Rattle.relational.proofs.Counts.{not_both, pairs-count, some-count}
use Rattle.clauses_rules.specs.Gates.{Clause}
use Rattle.clauses_rules.specs.Translation.{Two, literal_at}
use Rattle.clauses_rules.specs.Whole.{series, pair_clause, row_clauses, row_literals, member_literals, row_members}
use Rattle.clauses_rules.specs.Whole.{mark_clauses, cell_members, member_clauses}
use Rattle.clauses_rules.proofs.Values.{value, satisfied, satisfied-append}
use Rattle.clauses_rules.proofs.Build.{Means, Pairwise, nothing, more, Mean}
use Rattle.clauses_rules.proofs.Connect.{every, some, means-opposite, mean-some}
use Rattle.clauses_rules.proofs.Operators.{Both, pairwise-maps}
use Rattle.clauses_rules.proofs.Counts.{pairwise_append, pairs-mean}
use Rattle.clauses_rules.proofs.Walk.{Ready, means-cell}

satisfied-series : (a : List Bool) (n : ℕ) (f : ℕ → List Clause) → satisfied a (series n f) ≡ each n (λ i. satisfied a (f i))
unfolding series each all
satisfied-series a zero f = refl
satisfied-series a (suc n) f = satisfied-append a (series n f) (f n) ∙ rw (satisfied-series a n f)

satisfied-pairs : (a : List Bool) {ts : List Two} {us : List (Bool × Bool)} → Pairwise (Both a) ts us
    → satisfied a (map pair_clause ts) ≡ all not_both us
unfolding all any
satisfied-pairs a nothing = refl
satisfied-pairs a (more {x = t} {y = u} h hs) =
    rw ((means-opposite h.left).value, (means-opposite h.right).value, or-false, satisfied-pairs a hs)

-- a clause that starts with the opposites of members
guarded : (a : List Bool) {gs ms : List Bool} {members row : List Literal} → Mean gs a members → Mean ms a row
    → any (value a) (map opposite members ++ row) ≡ implies (every gs, some ms)
unfolding any all
guarded a nothing h = mean-some h
guarded a {ms} (more {x} {y} {xs} g gs) h = rw ((means-opposite g).value, guarded a gs h) (go x)
  where
    go : (x : Bool) → (not x || (not (every xs) || some ms)) ≡ (not (x && every xs) || some ms)
    go true = refl
    go false = refl

satisfied-row : (a : List Bool) {gs ms : List Bool} {members row : List Literal} → Mean gs a members → Mean ms a row
    → satisfied a (map pair_clause (pairs row) ++ ((map opposite members ++ row) ∷ [])) ≡
    (leb (count ms) 1 && implies (every gs, leb 1 (count ms)))
unfolding all
satisfied-row a {gs} {ms} {members} {row} g h =
    satisfied-append a (map pair_clause (pairs row)) ((map opposite members ++ row) ∷ [])
    ∙ rw (satisfied-pairs a (pairs-mean h), pairs-count ms, guarded a g h, some-count ms, and-true)

-- (-cell, member) for each member
implied : (a : List Bool) {c : Bool} {l : Literal} {ms : List Bool} {members : List Literal} → Means c a l
    → Mean ms a members
    → satisfied a (map (λ m. opposite l ∷ m ∷ []) members) ≡ implies (c, every ms)
unfolding any all
implied a {c} p nothing = sym (or-true (not c))
implied a {c} {l} p (more {x} {y} {xs} m ms) = rw ((means-opposite p).value, m.value, or-false, implied a p ms) (go c x)
  where
    go : (c x : Bool) → ((not c || x) && (not c || every xs)) ≡ (not c || (x && every xs))
    go true true = refl
    go true false = refl
    go false x = refl

module _ (sheet : Sheet) (instance : List ℕ) where
  row-mean : (m : ℕ) (a : List Bool) {gs ms : List Bool} {members row : List Literal} → Mean gs a members
      → Mean ms a row
      → satisfied a (row_clauses m members row) ≡ row_holds sheet instance m (every gs) ms
  unfolding all
  row-mean zero a g h = refl
  row-mean (suc zero) a {ms} g h = satisfied-pairs a (pairs-mean h) ∙ pairs-count ms
  row-mean (suc (suc m)) a g h = satisfied-row a g h

  -- the flags of members
  abbrev member_flags : ℕ → ℕ → List Bool
  member_flags k i = cond (is_bounded sheet k) (flag_at sheet instance (member_cell sheet k i) ∷ []) []

  member-flags : (k i : ℕ) → every (member_flags k i) ≡ member_at sheet instance k i
  unfolding all
  member-flags k i = go (is_bounded sheet k)
    where
      go : (b : Bool) → every (cond b (flag_at sheet instance (member_cell sheet k i) ∷ []) []) ≡ cond b
          (flag_at sheet instance (member_cell sheet k i)) true
      go true = and-true (flag_at sheet instance (member_cell sheet k i))
      go false = refl

  abbrev row_flags : ℕ → ℕ → List Bool
  row_flags r i = cond (is_set sheet r) [] (member_flags (first_sort sheet r) i)

  row-flags : (r i : ℕ) → every (row_flags r i) ≡ row_bound sheet instance r i
  unfolding all
  row-flags r i = go (is_set sheet r)
    where
      go : (b : Bool) → every (cond b [] (member_flags (first_sort sheet r) i)) ≡ cond b true
          (member_at sheet instance (first_sort sheet r) i)
      go true = refl
      go false = member-flags (first_sort sheet r) i

  abbrev cell_flags : ℕ → ℕ → ℕ → List Bool
  cell_flags r i j = cond (is_set sheet r) (member_flags (first_sort sheet r) j)
      (member_flags (first_sort sheet r) i ++ member_flags (second_sort sheet r) j)

  cell-flags : (r i j : ℕ) → every (cell_flags r i j)
      ≡ cond (is_set sheet r) (member_at sheet instance (first_sort sheet r) j)
      (both (member_at sheet instance (first_sort sheet r) i, member_at sheet instance (second_sort sheet r) j))
  cell-flags r i j = go (is_set sheet r)
    where
      go : (b : Bool) → every (cond b (member_flags (first_sort sheet r) j)
          (member_flags (first_sort sheet r) i ++ member_flags (second_sort sheet r) j))
          ≡ cond b (member_at sheet instance (first_sort sheet r) j)
          (both (member_at sheet instance (first_sort sheet r) i, member_at sheet instance (second_sort sheet r) j))
      go true = member-flags (first_sort sheet r) j
      go false =
          all_append (λ (b : Bool). b) (member_flags (first_sort sheet r) i) (member_flags (second_sort sheet r) j)
          ∙ rw (member-flags (first_sort sheet r) i, member-flags (second_sort sheet r) j)

  module _ (cells : List Literal) (a : List Bool) (ready : Ready sheet instance cells a) where
    row-literals : (r i : ℕ) → Mean (row_cells sheet instance r i) a (row_literals sheet cells r i)
    row-literals r i = pairwise-maps _ _ (λ k. means-cell sheet instance cells ready k) (from (cell sheet r i 0) (row_length sheet r))

    members-mean : (k i : ℕ) → Mean (member_flags k i) a (member_literals sheet cells k i)
    members-mean k i = go (is_bounded sheet k)
      where
        go : (b : Bool) → Mean (cond b (flag_at sheet instance (member_cell sheet k i) ∷ []) []) a
            (cond b (literal_at sheet cells (member_cell sheet k i) ∷ []) [])
        go true = more (means-cell sheet instance cells ready (member_cell sheet k i)) nothing
        go false = nothing

    row-members : (r i : ℕ) → Mean (row_flags r i) a (row_members sheet cells r i)
    row-members r i = go (is_set sheet r)
      where
        go : (b : Bool) → Mean (cond b [] (member_flags (first_sort sheet r) i)) a
            (cond b [] (member_literals sheet cells (first_sort sheet r) i))
        go true = nothing
        go false = members-mean (first_sort sheet r) i

    cell-members : (r i j : ℕ) → Mean (cell_flags r i j) a (cell_members sheet cells r i j)
    cell-members r i j = go (is_set sheet r)
      where
        go : (b : Bool) → Mean (cond b (member_flags (first_sort sheet r) j)
            (member_flags (first_sort sheet r) i ++ member_flags (second_sort sheet r) j)) a
            (cond b (member_literals sheet cells (first_sort sheet r) j)
            (member_literals sheet cells (first_sort sheet r) i ++ member_literals sheet cells (second_sort sheet r) j))
        go true = members-mean (first_sort sheet r) j
        go false = pairwise_append (members-mean (first_sort sheet r) i) (members-mean (second_sort sheet r) j)

    pub inside-mean : satisfied a (member_clauses sheet cells) ≡ cells_inside sheet instance
    unfolding member_clauses cells_inside
    inside-mean =
        satisfied-series a (relation_count sheet) _
        ∙ each-cong _ _ (relation_count sheet) (λ r below.
        satisfied-series a (row_count sheet r) _
        ∙ each-cong _ _ (row_count sheet r) (λ i low.
        satisfied-series a (row_length sheet r) _
        ∙ each-cong _ _ (row_length sheet r) (λ j under.
        implied a (means-cell sheet instance cells ready (cell sheet r i j)) (cell-members r i j)
        ∙ ap (λ (b : Bool). implies (flag_at sheet instance (cell sheet r i j), b)) (cell-flags r i j))))

    pub marks-mean : satisfied a (mark_clauses sheet cells) ≡ marks_hold sheet instance
    unfolding mark_clauses marks_hold
    marks-mean =
        satisfied-series a (relation_count sheet) _
        ∙ each-cong _ _ (relation_count sheet) (λ r below.
        satisfied-series a (row_count sheet r) _
        ∙ each-cong _ _ (row_count sheet r) (λ i low.
        row-mean (multiplicity sheet r) a (row-members r i) (row-literals r i)
        ∙ ap (λ (b : Bool). row_holds sheet instance (multiplicity sheet r) b (row_cells sheet instance r i))
        (row-flags r i)))
