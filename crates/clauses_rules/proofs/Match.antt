-- The match for the clauses of a sheet, against the boolean evaluation.
use mathlib.Core.Path.{◌≡◌, refl, sym, ap, ◌∙◌, subst, subst₂}
use mathlib.Core.Bool.{Bool, true, false, ◌&&◌}
use mathlib.Core.List.{List, [], ◌∷◌, ◌++◌, map, append_assoc}
use Prim.Native.Nat.{ℕ, suc, pred, ◌+◌, ◌≤◌}
use native.Mathlib.Omega.{arith}
use lib.Dec.{eqb}
use lib.ListN.{length, get_or, take, drop, length-append, length-map}
use borrow.Author.Tests.{eq-eqb}
use Rattle.prelude.specs.Tests.{all, any}
use Rattle.prelude.proofs.Laws.{and_left, and_right, and_both}
use Rattle.literal.specs.Literals.{Literal, positive, word_of}
use Rattle.clause_list.specs.ClauseList.{clauses_of, is_true}
use Rattle.clause_list.proofs.Laws.{clauses-words}
use Rattle.sheet_rules.specs.Blocks.{Sheet}
use Rattle.relational.specs.Trees.{root_tree}
use Rattle.relational.specs.Cells.{cell_count, has_cells}
use Rattle.relational.specs.Matrices.{from, upto}
use Rattle.relational.specs.Evaluation.{marks_hold, cells_inside, truth_of_tree, holds}
use Rattle.relational.proofs.Scopes.{within-size, within-bits}
use Rattle.clauses_rules.specs.Builder.{return, ◌<$>◌}
use Rattle.clauses_rules.specs.Gates.{Clause, gates_clauses}
use Rattle.clauses_rules.specs.Translation.{translate_tree}
use Rattle.clauses_rules.specs.Whole.{cell_literals, member_clauses, mark_clauses, root_walk, clauses, words}
use Rattle.clauses_rules.specs.Whole.{variable_total, read_back}
use Rattle.clauses_rules.specs.Matching.{Assignment, ReadBackOnce}
use Rattle.clauses_rules.proofs.Values.{satisfied, satisfied-append, ClausesIn, clauses-in-append}
use Rattle.clauses_rules.proofs.Gate.{get-here}
use Rattle.clauses_rules.proofs.Build.{Means, nothing, more, Mean, One, right-return, right-map}
use Rattle.clauses_rules.proofs.Walk.{flags, Ready, right-tree}
use Rattle.clauses_rules.proofs.Rows.{inside-mean, marks-mean}
use Rattle.clauses_rules.proofs.Ranges.{inside-in, marks-in}
use Rattle.clauses_rules.proofs.Bytes.{is_bit, byte_of, bytes, flags-bytes, bytes-flags, bytes_bits, take-bits, drop_bits, take-flags}
use Rattle.clauses_rules.proofs.Bytes.{drop-flags, clauses-value}
use Rattle.clauses_rules.proofs.Parts.{Parts, Demand, Meets, Solves, Stores, parts_clauses, parts_variables, start, parts_in}
use Rattle.clauses_rules.proofs.Parts.{parts-variables, reads-meet, once}

two : (n : ℕ) → 2 + n ≡ suc (suc n)
two n = omega arith

-- the literals of the cells mean the cells
cells-mean : (x front : List Bool) (s : ℕ) → length front ≡ suc (suc s)
    → Mean x (front ++ x) (map (λ (i : ℕ). positive (2 + i)) (from s (length x)))
cells-mean [] front s e = nothing
cells-mean (b ∷ x) front s e =
    more {y = positive (2 + s)}
    (record {
      inside = record { low = omega arith; high = omega (arith, length-append front (b ∷ x), e) };
      value = ap (λ (i : ℕ). get_or (front ++ (b ∷ x)) i false) (two s ∙ sym e) ∙ get-here front b x;
    })
    (subst (λ (a : List Bool). Mean x a (map (λ (i : ℕ). positive (2 + i)) (from (suc s) (length x)))) (append_assoc front (b ∷ []) x)
    (cells-mean x (front ++ (b ∷ [])) (suc s) (length-append front (b ∷ []) ∙ omega (arith, e))))

module _ (sheet : Sheet) where
  -- the parts of a sheet's clauses, and what is asked of an instance
  abbrev pub sheet_parts : Parts
  sheet_parts =
      record {
        free = cell_count sheet;
        cells = return (cell_literals sheet);
        rules = λ ls. member_clauses sheet ls ++ mark_clauses sheet ls;
        walk = λ ls. (λ l. l ∷ []) <$> translate_tree sheet ls (root_tree sheet);
        fixed = λ ls. [];
      }

  abbrev pub sheet_demand : Demand
  sheet_demand =
      record {
        size = cell_count sheet;
        marks = λ x. cells_inside sheet (bytes x) && marks_hold sheet (bytes x);
        agrees = λ x. true;
        facts = λ x. truth_of_tree sheet (bytes x) (root_tree sheet) ∷ [];
      }

  start-cells : (x : List Bool) → length x ≡ cell_count sheet → Mean x (start x) (cell_literals sheet)
  start-cells x e =
      subst (λ (n : ℕ). Mean x (start x) (map (λ (i : ℕ). positive (2 + i)) (upto n))) e (cells-mean x (false ∷ true ∷ []) 0 refl)

  ready : (x a : List Bool) (ls : List Literal) → One a → Mean x a ls → Ready sheet (bytes x) ls a
  ready x a ls o h = record { one = o; given = subst (λ (y : List Bool). Mean y a ls) (sym (flags-bytes x)) h }

  pub sheet-stores : Stores sheet_parts sheet_demand
  unfolding all
  sheet-stores =
      record {
        decode = λ x. x;
        encode = λ x. x;
        allowed = λ x. cells_inside sheet (bytes x) && marks_hold sheet (bytes x);
        right_cells = λ x e. right-return (start x) (cell_literals sheet) (Mean x) (start-cells x e);
        right_rules = λ x a ls e f o h.
            satisfied-append a (member_clauses sheet ls) (mark_clauses sheet ls)
            ∙ rw (
              inside-mean sheet (bytes x) ls a (ready x a ls o h),
              marks-mean sheet (bytes x) ls a (ready x a ls o h),
            );
        right_walk = λ x a ls o h.
            right-map a (λ l. l ∷ []) (translate_tree sheet ls (root_tree sheet)) (Means (truth_of_tree sheet (bytes x) (root_tree sheet)))
            (Mean (truth_of_tree sheet (bytes x) (root_tree sheet) ∷ []))
            (right-tree sheet (bytes x) ls (root_tree sheet) a (ready x a ls o h)) λ b e l m. more m nothing;
        right_fixed = λ x a ls o h. refl;
        rules_in = λ n ls f h.
            clauses-in-append n (member_clauses sheet ls) (mark_clauses sheet ls)
            (inside-in sheet ls n (omega (arith, f)) h)
            (marks-in sheet ls n (omega (arith, f)) h);
        fixed_in = λ n ls f h. tt;
        into = λ x e h. (e, h, refl);
        onto = λ x e h. (e, h, refl);
      }

  -- the list, by the variable of its first gate
  whole : ℕ → List Clause
  whole g =
      let r = translate_tree sheet (cell_literals sheet) (root_tree sheet) g in
      (positive 1 ∷ []) ∷ (member_clauses sheet (cell_literals sheet)
      ++ (mark_clauses sheet (cell_literals sheet) ++ (gates_clauses g r.gates ++ ((r.value ∷ []) ∷ []))))

  clauses-are : clauses sheet ≡ parts_clauses sheet_parts
  unfolding clauses root_walk gates_clauses whole
  clauses-are =
      ap whole (two (cell_count sheet))
      ∙ ap (λ (cs : List Clause). (positive 1 ∷ []) ∷ cs)
      (sym (append_assoc (member_clauses sheet (cell_literals sheet)) (mark_clauses sheet (cell_literals sheet)) _))

  variables-are : variable_total sheet ≡ parts_variables sheet_parts
  unfolding variable_total root_walk
  variables-are = ap (λ (g : ℕ). pred (translate_tree sheet (cell_literals sheet) (root_tree sheet) g).next) (two (cell_count sheet))

  pub clauses-in : ClausesIn (suc (variable_total sheet)) (clauses sheet)
  clauses-in =
      subst₂ (λ (n : ℕ) (cs : List Clause). ClausesIn (suc n) cs) (sym variables-are) (sym clauses-are)
      (parts_in sheet_parts sheet_demand sheet-stores)

  pub some-variable : 1 ≤ variable_total sheet
  some-variable = omega (arith, variables-are, parts-variables sheet_parts sheet_demand sheet-stores)

  -- variable 1 and one for each cell
  pub cells-variables : suc (cell_count sheet) ≤ variable_total sheet
  cells-variables = omega (arith, variables-are, parts-variables sheet_parts sheet_demand sheet-stores)

  pub clauses-of-words : clauses_of (words sheet) ≡ map (map word_of) (clauses sheet)
  unfolding words
  clauses-of-words = clauses-words (map (map word_of) (clauses sheet))

  -- ---- assignments, in bytes and in bits
  same-clauses : (a : List ℕ) → all is_bit a ≡ true → length a ≡ variable_total sheet
      → all (any (is_true a)) (clauses_of (words sheet)) ≡ satisfied (false ∷ flags a) (parts_clauses sheet_parts)
  same-clauses a h e =
      ap (all (any (is_true a))) clauses-of-words
      ∙ clauses-value a h (clauses sheet) (subst (λ (n : ℕ). ClausesIn (suc n) (clauses sheet)) (sym e) clauses-in)
      ∙ ap (satisfied (false ∷ flags a)) clauses-are

  solves : (a : List ℕ) → Assignment sheet a → Solves sheet_parts (flags a)
  solves a h =
      record {
        size = length-map a (λ (b : ℕ). eqb b 1) ∙ h.size ∙ variables-are;
        holds = sym (same-clauses a h.bits h.size) ∙ h.holds;
      }

  solved : (b : List Bool) → Solves sheet_parts b → Assignment sheet (bytes b)
  solved b h =
      let e : length (bytes b) ≡ variable_total sheet = length-map b byte_of ∙ h.size ∙ sym variables-are in
      record {
        size = e;
        bits = bytes_bits b;
        holds =
            same-clauses (bytes b) (bytes_bits b) e
            ∙ ap (λ (x : List Bool). satisfied (false ∷ x) (parts_clauses sheet_parts)) (flags-bytes b) ∙ h.holds;
      }

  -- ---- read-back, in bytes and in bits
  abbrev read_bits : List Bool → List Bool
  read_bits b = take (cell_count sheet) (drop 1 b)

  read_flags : (a : List ℕ) → read_bits (flags a) ≡ flags (read_back sheet a)
  read_flags a = ap (take (cell_count sheet)) (drop-flags 1 a) ∙ take-flags (cell_count sheet) (drop 1 a)

  read-bytes : (a : List ℕ) → all is_bit a ≡ true → bytes (read_bits (flags a)) ≡ read_back sheet a
  read-bytes a h = ap bytes (read_flags a) ∙ bytes-flags (read_back sheet a) (take-bits (cell_count sheet) (drop 1 a) (drop_bits 1 a h))

  -- ---- instances, in bytes and in bits
  pub record Instance (i : List ℕ) : Type 0 where
    pub within : has_cells sheet i ≡ true
    pub holds : holds sheet i ≡ true

  instance-of : (x : List Bool) → Meets sheet_demand x → Instance (bytes x)
  unfolding has_cells holds all
  instance-of x m =
      let inside : Bool = cells_inside sheet (bytes x) in
      let marked : Bool = marks_hold sheet (bytes x) in
      let true-root : Bool = truth_of_tree sheet (bytes x) (root_tree sheet) in
      record {
        within =
            and_both (eqb (length (bytes x)) (cell_count sheet)) (all is_bit (bytes x))
            (eq-eqb (length (bytes x)) (cell_count sheet) (length-map x byte_of ∙ m.size)) (bytes_bits x);
        holds =
            and_both inside (marked && true-root) (and_left inside marked m.marks)
            (and_both marked true-root (and_right inside marked m.marks) (and_left true-root true m.facts));
      }

  meets-of : (i : List ℕ) → Instance i → Meets sheet_demand (flags i)
  unfolding holds all
  meets-of i h =
      let b : all is_bit i ≡ true = within-bits sheet i h.within in
      let inside : Bool = cells_inside sheet i in
      let marked : Bool = marks_hold sheet i in
      let true-root : Bool = truth_of_tree sheet i (root_tree sheet) in
      let rest : (marked && true-root) ≡ true = and_right inside (marked && true-root) h.holds in
      record {
        size = length-map i (λ (b : ℕ). eqb b 1) ∙ within-size sheet i h.within;
        marks = rw (bytes-flags i b) (and_both inside marked (and_left inside (marked && true-root) h.holds)
            (and_left marked true-root rest));
        agrees = refl;
        facts =
            rw (bytes-flags i b)
            (and_both true-root true (and_right marked true-root rest) refl);
      }

  -- ---- the match
  pub reads-instance : (a : List ℕ) → Assignment sheet a → Instance (read_back sheet a)
  unfolding sheet-stores
  reads-instance a h =
      subst Instance (read-bytes a h.bits)
      (instance-of (read_bits (flags a)) (reads-meet sheet_parts sheet_demand sheet-stores (flags a) (solves a h)))

  pub exactly-one : (i : List ℕ) → Instance i → ReadBackOnce (Assignment sheet) (λ a j. read_back sheet a ≡ j) i
  unfolding sheet-stores
  exactly-one i h =
      let o = once sheet_parts sheet_demand sheet-stores (flags i) (meets-of i h) in
      let b : List Bool = o.assignment in
      record {
        assignment = bytes b;
        satisfying = solved b o.solves;
        reads =
            sym (read-bytes (bytes b) (bytes_bits b)) ∙ ap (λ (x : List Bool). bytes (read_bits x)) (flags-bytes b)
            ∙ ap bytes o.reads ∙ bytes-flags i (within-bits sheet i h.within);
        only = λ a s e.
            sym (bytes-flags a s.bits) ∙ ap bytes (o.only (flags a) (solves a s) (read_flags a ∙ ap flags e));
      }
