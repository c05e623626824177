-- How a listing begins: by the length of the input, and by what writing answers.
use mathlib.Core.Path.{◌≡◌, refl, sym, ap, ◌∙◌, subst}
use mathlib.Core.Logic.{⊎_elim}
use mathlib.Core.List.{List}
use Prim.Native.Nat.{ℕ, ◌≤◌, ◌<◌}
use native.Mathlib.Omega.{arith}
use native.Mathlib.Nat.{zero-add}
use lib.Dec.{leb}
use lib.IntN.{ℤ}
use lib.ListN.{length, take, drop, length-append}
use borrow.Author.Tests.{leb-true, leb-false, le-leb, lt-leb}
use Rattle.prelude.proofs.Laws.{decided}
use Rattle.text.specs.Puts.{Put}
use Rattle.text.specs.Texts.{bytes_of, end_line, Prints}
use Rattle.text.proofs.Puts.{prints, counts}
use Rattle.sheet_rules.specs.Blocks.{sheet_of}
use Rattle.clauses_rules.specs.Whole.{words, word_total}
use Rattle.clauses.specs.declared.answer.Size.{Size}
use Rattle.clauses.specs.Answers.{Answer, fits, refused, count_answer, write_answer, list_after}
use Rattle.clauses.proofs.Answered.{count_fits, write-fits}
use Rattle.std.specs.Prelude.{Result, Ok, Err}
use Rattle.listing.specs.Printed.{as_finder, beginning, list_begun, begun_text, begun_of, bytes_in}

-- the numbers of an answer
pub sized : (a : Answer) (size : Size) → Ok size ≡ begun_of a
    → a ≡ fits size.variables size.clauses size.words
sized (refused n) size e = absurd (let z : ◌≡◌ {A = ℕ} 0 1 = cc in omega arith)
sized (fits v c w) size e =
    let f : size ≡ record { variables = v; clauses = c; words = w } = cc in
    λ i. fits (sym f i).variables (sym f i).clauses (sym f i).words

module _ (input : List ℕ) (list : List ℤ) where
  pub long-refused : 4096 < length input → beginning input list ≡ refused 2
  unfolding beginning
  long-refused h = rw (lt-leb (length input) 4096 h)

  pub long-list : 4096 < length input → list_begun input list ≡ list
  unfolding list_begun
  long-list h = rw (lt-leb (length input) 4096 h)

  pub short-writes : length input ≤ 4096 → beginning input list ≡ as_finder (count_answer input) (write_answer input list)
  unfolding beginning
  short-writes h = rw (le-leb (length input) 4096 h)

  pub short-list : length input ≤ 4096 → list_begun input list ≡ list_after input list
  unfolding list_begun
  short-list h = rw (le-leb (length input) 4096 h)

  -- it begins where the input is short and writing answers with numbers
  module _ (v c w : ℕ) (e : beginning input list ≡ fits v c w) where
    pub begun-short : length input ≤ 4096
    begun-short =
        ⊎_elim (leb-true (length input) 4096)
        (λ t.
        let r : refused 2 ≡ fits v c w = sym (long-refused (leb-false (length input) 4096 t)) ∙ e in
        let z : ◌≡◌ {A = ℕ} 0 1 = cc in
        absurd (omega arith))
        (decided (leb (length input) 4096))

    pub begun-writes : write_answer input list ≡ fits v c w
    begun-writes = by (write_answer input list) (sym (short-writes begun-short) ∙ e)
      where
        by : (a : Answer) → as_finder (count_answer input) a ≡ fits v c w → a ≡ fits v c w
        by (refused n) d = absurd (let z : ◌≡◌ {A = ℕ} 0 1 = cc in omega arith)
        by (fits v' c' w') d = d

    -- the words are in the list, and the variables are within the limit
    begun-fits : (w ≤ length (list_begun input list)) × (v ≤ 16000)
    begun-fits =
        let l = write-fits input list v c w begun-writes in
        let d = count_fits input v c w l.counted in
        let k = ap length (short-list begun-short ∙ l.list) in (
          omega (arith, d.words, k, length-append (words (sheet_of input)) (drop (word_total (sheet_of input)) list)),
          omega (arith, d.variables, d.small),
        )

  pub cases_fit : (size : Size) → Ok size ≡ begun_of (beginning input list)
      → (size.words ≤ length (list_begun input list)) × (size.variables ≤ 16000)
  cases_fit size e = begun-fits size.variables size.clauses size.words (sized (beginning input list) size e)

-- what is ensured of an answer, but for the list
abbrev Begins : Answer → Result Size ℕ → (before after : List ℕ) → Type 0
Begins a r before after =
    (r ≡ begun_of a)
    × (((bytes_in r ≤ length after) × (bytes_in r ≡ length (take (bytes_in r) after))) × Prints (begun_text a) before after (bytes_in r))

refused-is : (n : ℕ) {before after : List ℕ} {end : ℕ} → Put before 0 (end_line (bytes_of "refused ") n) after end → end ≤ length before
    → Begins (refused n) (Err end) before after
refused-is n p l = (ap Err (p.ends ∙ zero-add _), (counts p l, prints p l))

cases-are : (size : Size) (text : List ℕ) → Begins (fits size.variables size.clauses size.words) (Ok size) text text
cases-are size text = (refl, ((omega arith, refl), record { ends = refl; stands = refl }))

pub begins-refused : (a : Answer) (n : ℕ) → a ≡ refused n → {before after : List ℕ} {end : ℕ}
    → Put before 0 (end_line (bytes_of "refused ") n) after end → end ≤ length before → Begins a (Err end) before after
begins-refused a n e {before} {after} {end} p l = subst (λ (x : Answer). Begins x (Err end) before after) (sym e) (refused-is n p l)

pub begins_cases : (a : Answer) (size : Size) → a ≡ fits size.variables size.clauses size.words → (text : List ℕ)
    → Begins a (Ok size) text text
begins_cases a size e text = subst (λ (x : Answer). Begins x (Ok size) text text) (sym e) (cases-are size text)
