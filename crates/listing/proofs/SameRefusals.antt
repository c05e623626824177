-- A listing is refused where the finder refuses, with the same number: in slices as long as the finder's only the list can be too short.
use mathlib.Core.Path.{◌≡◌, refl, sym, ap, ◌∙◌}
use mathlib.Core.Bool.{Bool, true, false, cond}
use mathlib.Core.Logic.{⊎_elim}
use mathlib.Core.List.{List}
use Prim.Native.Nat.{ℕ, ◌≤◌}
use native.Mathlib.Omega.{arith}
use lib.Dec.{leb}
use lib.ListN.{length}
use borrow.Author.Tests.{leb-true, leb-false}
use Rattle.prelude.proofs.Laws.{decided}
use Rattle.text.specs.Texts.{bytes_of, end_line}
use Rattle.sheet_rules.specs.declared.Layout.{Layout}
use Rattle.sheet_rules.specs.Blocks.{sheet_of, relation_count}
use Rattle.sheet_rules.specs.Reading.{accepted, reading}
use Rattle.sheet_rules.proofs.Acceptance.{accepted-facts}
use Rattle.relational.specs.Cells.{most_cells, cell_count}
use Rattle.cells.proofs.Layouts.{first-most}
use Rattle.clauses.specs.Answers as count
use Rattle.clauses.specs.Answers.{count_answer, write_after, write_answer}
use Rattle.clauses.proofs.Answered.{count_fits, write-fits}
use Rattle.search.specs.Answers.{Answer, refused}
use Rattle.solve_rules.specs.Finding.{Slices, finding}
use Rattle.solve_rules.specs.Demand3.{FitsLimits, FitSlices}
use Rattle.solve_rules.proofs.Finds.{finds}
use Rattle.solve.proofs.FindLaws.{counting-declines, too-many-words, too_short}
use Rattle.report.specs.Printed.{instance_lines, report, finding_text}
use Rattle.report.proofs.Texts.{long-text, short-text}
use Rattle.listing.specs.Printed.{as_finder, beginning}
use Rattle.listing.proofs.Beginning.{long-refused, short-writes, begun-writes}

-- slices as long as those of the finder
pub record FinderSlices (lent : Slices) : Type 0 where
  pub list : length lent.list ≡ 16384
  pub values : length lent.values ≡ 16000
  pub trail : length lent.trail ≡ 16000
  pub instance : length lent.instance ≡ most_cells

-- a refusal is printed as the finder prints it, within any budget
pub record RefusedAlike (budget : ℕ) (input : List ℕ) (lent : Slices) : Type 0 where
  -- where the listing is refused the finder prints the same
  pub same_text : (n : ℕ) → beginning input lent.list ≡ count.refused n
      → finding_text budget input lent ≡ end_line (bytes_of "refused ") n
  -- where it begins the finder does not refuse
  pub not_refused : (v c w : ℕ) → beginning input lent.list ≡ count.fits v c w → (n : ℕ)
      → (finding input lent budget).answer ≡ refused n → ⊥

abbrev pub SameRefusals : Type 0
SameRefusals = (budget : ℕ) (input : List ℕ) (lent : Slices) → FinderSlices lent → RefusedAlike budget input lent

-- at most 16 relations of 64 cells
few-cells : (s : List ℕ) (l : Layout) → reading s ≡ accepted l → cell_count (sheet_of s) ≤ most_cells
few-cells s l e =
    let f = accepted-facts s l e in
    omega (arith, first-most (sheet_of s) f (relation_count (sheet_of s)), f.counts.few_relations)

module _ (budget : ℕ) (input : List ℕ) (lent : Slices) (h : FinderSlices lent) where
  abbrev answer : Answer
  answer = (finding input lent budget).answer

  -- a list that is too long, and one that is too short: 12 comes first
  too_long : (v c w n : ℕ) → count_answer input ≡ count.fits v c w → leb w (length lent.list) ≡ false → (b : Bool) → leb w 2147483647 ≡ b
      → cond b 13 12 ≡ n → refused n ≡ answer
  too_long v c w n e f true g h =
      ap refused (sym h)
      ∙ (too_short input lent budget v c w e (leb-true w 2147483647 g) (λ r. omega (arith, r.list, leb-false w (length lent.list) f))).answer_is
  too_long v c w n e f false g h = ap refused (sym h) ∙ (too-many-words input lent budget v c w e (leb-false w 2147483647 g)).answer_is

  -- writing refuses: by what counting answers
  no_room : (v c w n : ℕ) → count_answer input ≡ count.fits v c w → (b : Bool) → leb w (length lent.list) ≡ b
      → as_finder (count.fits v c w) (cond b (count.fits v c w) (count.refused 13)) ≡ count.refused n → refused n ≡ answer
  no_room v c w n e true f g = absurd (let z : ◌≡◌ {A = ℕ} 0 1 = cc in omega arith)
  no_room v c w n e false f g = too_long v c w n e f (leb w 2147483647) refl (let m : cond (leb w 2147483647) 13 12 ≡ n = cc in m)

  by-counting : (n : ℕ) (a : count.Answer) → count_answer input ≡ a → as_finder a (write_after a (length lent.list)) ≡ count.refused n
      → refused n ≡ answer
  by-counting n (count.refused m) e f =
      let g : n ≡ m = cc in
      ap refused g ∙ (counting-declines input lent budget m e).answer_is
  by-counting n (count.fits v c w) e f = no_room v c w n e (leb w (length lent.list)) refl f

  refuses : (n : ℕ) → as_finder (count_answer input) (write_answer input lent.list) ≡ count.refused n → refused n ≡ answer
  unfolding write_answer
  refuses n e = by-counting n (count_answer input) refl e

  same_text : (n : ℕ) → beginning input lent.list ≡ count.refused n → finding_text budget input lent ≡ end_line (bytes_of "refused ") n
  same_text n e =
      ⊎_elim
      (λ t.
      let l = leb-true (length input) 4096 t in
      let r = refuses n (sym (short-writes input lent.list l) ∙ e) in
      short-text budget input lent l ∙ ap (λ (a : Answer). report a
      (instance_lines (sheet_of input) (finding input lent budget).left.instance)) (sym r))
      (λ f.
      let l = leb-false (length input) 4096 f in
      let r : count.refused 2 ≡ count.refused n = sym (long-refused input lent.list l) ∙ e in
      let m : 2 ≡ n = cc in
      long-text budget input lent l ∙ ap (end_line (bytes_of "refused ")) m)
      (decided (leb (length input) 4096))

  -- writing fits: so does the sheet, and the slices
  fits_all : (v c w : ℕ) → write_answer input lent.list ≡ count.fits v c w → FitsLimits input × FitSlices input lent
  fits_all v c w e =
      let r = write-fits input lent.list v c w e in
      let d = count_fits input v c w r.counted in
      let k = few-cells input d.layout d.accepted in
      let p = d.words in
      let q = d.small in (
        record { layout = d.layout; accepted = d.accepted; few_variables = q; few_words = omega (arith, r.room, h.list) },
        record {
          list = omega (arith, r.room);
          values = omega (arith, h.values);
          trail = omega (arith, h.trail);
          instance = omega (arith, h.instance);
        },
      )

  not_refused : (v c w : ℕ) → beginning input lent.list ≡ count.fits v c w → (n : ℕ) → answer ≡ refused n → ⊥
  not_refused v c w e n f =
      let k = fits_all v c w (begun-writes input lent.list v c w e) in
      (finds input lent budget).refused_exactly.0 (n, f) k.0 k.1

pub same-refusals : SameRefusals
same-refusals budget input lent h = record { same_text = same_text budget input lent h; not_refused = not_refused budget input lent h }
