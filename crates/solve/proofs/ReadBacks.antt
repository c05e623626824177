-- Read-back over values of v variables, case by case, as its functions ensure it.
use mathlib.Core.Path.{◌≡◌, refl, sym, ap, ◌∙◌}
use mathlib.Core.Bool.{Bool, true, false, cond, ◌&&◌}
use mathlib.Core.List.{List, [], ◌∷◌, ◌++◌, map}
use Prim.Native.Nat.{ℕ, zero, suc, ◌+◌, ◌-◌, ◌≤◌, ◌<◌}
use native.Mathlib.Omega.{arith}
use native.Mathlib.Nat.{zero-add}
use native.Mathlib.Numerals.{add-one}
use lib.Dec.{eqb, leb}
use lib.ListN.{length, get_or, set, take, drop, length-drop, length-map, get_or-map}
use lib.Seq.{get_or-drop, paste-suc}
use borrow.Author.Tests.{le-leb, lt-leb, eq-eqb, ne_eqb}
use Rattle.prelude.specs.Tests.{all}
use Rattle.prelude.proofs.Laws.{and_both, and-not-left, and-not-right}
use Rattle.sheet_rules.specs.Blocks.{sheet_of}
use Rattle.sheet_rules.specs.Reading as sheets
use Rattle.relational.specs.Cells.{cell_count}
use Rattle.clauses.specs.Answers as count
use Rattle.clauses.specs.Answers.{count_after, count_answer}
use Rattle.clauses.proofs.Answered.{count_fits}
use Rattle.clauses_rules.proofs.Match.{cells-variables}
use Rattle.search_rules.specs.Rules.{settle}
use Rattle.solve_rules.specs.Answers.{Answer, copied, refused, read_back_after, read_back_answer, instance_by, instance_after}
use Rattle.solve.specs.Private.{cells_answer, cells_left}

-- the bits of a part are that part of the bits
map-take : {A B : Type 0} (f : A → B) (n : ℕ) (xs : List A) → map f (take n xs) ≡ take n (map f xs)
map-take f zero xs = refl
map-take f (suc n) [] = refl
map-take f (suc n) (x ∷ xs) = ap (λ l. f x ∷ l) (map-take f n xs)

map-rest : {A B : Type 0} (f : A → B) (xs : List A) → map f (drop 1 xs) ≡ drop 1 (map f xs)
map-rest f [] = refl
map-rest f (x ∷ xs) = refl

-- the bits of the cells, as code takes them
pub cells-part : (cells : ℕ) (values : List ℕ) → map settle (take (cells + 1 - 1) (drop 1 values)) ≡ take cells (drop 1 (map settle values))
cells-part cells values =
    let e : cells + 1 - 1 ≡ cells = omega arith in
    ap (λ (n : ℕ). map settle (take n (drop 1 values))) e ∙ map-take settle cells (drop 1 values) ∙ ap (take cells) (map-rest settle values)

-- the cell that is copied
pub cell_at : (values : List ℕ) (i : ℕ) → get_or (drop 1 (map settle values)) i 0 ≡ settle (get_or values (i + 1) 0)
cell_at values i =
    let e : 1 + i ≡ i + 1 = omega arith in
    get_or-drop 1 (map settle values) i 0 ∙ ap (λ n. get_or (map settle values) n 0) e ∙ get_or-map settle values (i + 1) 0

-- and one bit more
pub pasted : (values instance₀ instance : List ℕ) (i b : ℕ) → i + 1 < length values → i < length instance₀
    → instance ≡ take i (drop 1 (map settle values)) ++ drop i instance₀ → b ≡ settle (get_or values (i + 1) 0)
    → set instance i b ≡ take (i + 1) (drop 1 (map settle values)) ++ drop (i + 1) instance₀
pasted values instance₀ instance i b h k e f =
    let bits : List ℕ = drop 1 (map settle values) in
    let l : i < length bits = omega (arith, length-drop 1 (map settle values), length-map values settle) in
    ap (λ x. set x i b) e
    ∙ ap (set (take i bits ++ drop i instance₀) i) (f ∙ sym (cell_at values i))
    ∙ (rw (zero-add i, zero-add (suc i), sym (add-one i)) at (paste-suc instance₀ 0 bits i 0 (omega (arith, zero-add i)) l))

module _ (v cells : ℕ) (values instance : List ℕ) where
  abbrev answer : Answer
  answer = cells_answer v cells values (length instance)

  abbrev read : List ℕ
  read = take cells (drop 1 (map settle values))

  abbrev bits : Bool
  bits = all (λ (b : ℕ). leb b 1) read

  -- an answer, and what it leaves
  abbrev Gives : Answer → List ℕ → Type 0
  Gives a left = (a ≡ answer) × (left ≡ cells_left v cells values instance)

  gives : (a : Answer) → answer ≡ a → Gives a (instance_by a read instance)
  gives a e = (sym e, ap (λ x. instance_by x read instance) (sym e))

  by_tests : (p q : Bool) → (eqb (length values) v && bits) ≡ p → leb cells (length instance) ≡ q
      → answer ≡ cond p (cond q (copied cells) (refused 13)) (refused 11)
  by_tests p q f g =
      ap (λ b. cond b (cond (leb cells (length instance)) (copied cells) (refused 13)) (refused 11)) f
      ∙ ap (λ b. cond p (cond b (copied cells) (refused 13)) (refused 11)) g

  pub wrong-length : (length values ≡ v → ⊥) → Gives (refused 11) instance
  wrong-length h = gives (refused 11) (by_tests false _ (and-not-left _ bits (ne_eqb (length values) v h)) refl)

  pub wrong-bits : bits ≡ false → Gives (refused 11) instance
  wrong-bits h = gives (refused 11) (by_tests false _ (and-not-right (eqb (length values) v) bits h) refl)

  pub too_short : length values ≡ v → bits ≡ true → length instance < cells → Gives (refused 13) instance
  too_short e h l =
      gives (refused 13) (by_tests true false (and_both _ bits (eq-eqb (length values) v e) h) (lt-leb cells (length instance) l))

  pub copies : length values ≡ v → bits ≡ true → cells ≤ length instance → Gives (copied cells) (read ++ drop cells instance)
  copies e h l =
      gives (copied cells) (by_tests true true (and_both _ bits (eq-eqb (length values) v e) h) (le-leb cells (length instance) l))

-- from counting to read-back
module _ (s values instance : List ℕ) where
  pub refuses : (n : ℕ) → count_answer s ≡ count.refused n
      → (refused n ≡ read_back_answer s values instance) × (instance ≡ instance_after s values instance)
  unfolding read_back_answer instance_after
  refuses n e =
      let f : read_back_answer s values instance ≡ refused n = ap (λ a. read_back_after a (sheet_of s) values (length instance)) e in
      (sym f, ap (λ a. instance_by a (take (cell_count (sheet_of s)) (drop 1 (map settle values))) instance) (sym f))

  pub counts-cells : (v c w cells : ℕ) → count_answer s ≡ count.fits v c w → cells ≡ cell_count (sheet_of s)
      → (cells_answer v cells values (length instance) ≡ read_back_answer s values instance)
      × (cells_left v cells values instance ≡ instance_after s values instance)
  unfolding read_back_answer instance_after
  counts-cells v c w cells e f =
      rw f
      (let g : read_back_answer s values instance ≡ cells_answer v (cell_count (sheet_of s)) values (length instance) =
      ap (λ a. read_back_after a (sheet_of s) values (length instance)) e in
      (sym g, ap (λ a. instance_by a (take (cell_count (sheet_of s)) (drop 1 (map settle values))) instance) (sym g)))

-- a variable for each cell, and variable 1
pub room-for-cells : (s : List ℕ) (v c w cells : ℕ) → count_answer s ≡ count.fits v c w → cells ≡ cell_count (sheet_of s) → suc cells ≤ v
room-for-cells s v c w cells e f =
    let d = count_fits s v c w e in
    omega (arith, d.variables, cells-variables (sheet_of s))

-- a sheet that is refused is refused by counting
pub counting-refuses : (s : List ℕ) (n : ℕ) → sheets.reading s ≡ sheets.refused n → count_answer s ≡ count.refused n
unfolding count_answer
counting-refuses s n e = ap (λ x. count_after x (sheet_of s)) e
