-- Pieces of text put one after the other, as the loops put them.
use mathlib.Core.Path.{◌≡◌, refl, sym, ap, ◌∙◌}
use mathlib.Core.Bool.{Bool, true, false, cond, false≢true}
use mathlib.Core.List.{List, [], ◌∷◌, ◌++◌}
use Prim.Native.Nat.{ℕ, zero, suc, ◌+◌, ◌*◌, ◌≤◌, ◌<◌}
use native.Mathlib.Numerals.{add-one}
use native.Mathlib.Omega.{arith}
use lib.ListN.{length, length-append}
use Rattle.text.specs.Puts.{Put}
use Rattle.text.specs.Texts.{bytes_of, decimal}
use Rattle.text.proofs.Decimals.{decimal-short}
use Rattle.text.proofs.Puts.{put-nothing, put_both, put_as}
use Rattle.sheet_rules.specs.Blocks.{Sheet, byte, scope, is_bounded}
use Rattle.relational.specs.Cells.{first_member, member_cell, row_count, row_length, first_cell, cell}
use Rattle.clauses_rules.specs.Whole.{series}
use Rattle.report.specs.Printed.{cell_digit, row_digits, relation_line, member_digits, member_line}
use Rattle.report.specs.Private.{row_from, line_from}

pub series-more : (n : ℕ) (f : ℕ → List ℕ) → series n f ++ f n ≡ series (n + 1) f
unfolding series
series-more n f = ap (λ (k : ℕ). series k f) (sym (add-one n))

-- none of a series was put, and one more
pub put-none-of : (f : ℕ → List ℕ) (old : List ℕ) (at : ℕ) → Put old at (series 0 f) old at
unfolding series
put-none-of f old at = put-nothing old at

pub put-more : (f : ℕ → List ℕ) (n : ℕ) {old mid new : List ℕ} {at m end : ℕ} → Put old at (series n f) mid m → Put mid m (f n) new end
    → Put old at (series (n + 1) f) new end
put-more f n p q = put_as (series-more n f) (put_both p q)

-- one byte for each
pub bytes-length : (x : ℕ → ℕ) (n : ℕ) → length (series n (λ j. x j ∷ [])) ≡ n
unfolding series
bytes-length x zero = refl
bytes-length x (suc n) = omega (arith, length-append (series n (λ j. x j ∷ [])) (x n ∷ []), bytes-length x n)

pub row-length : (instance : List ℕ) (first n : ℕ) → length (row_from instance first n) ≡ n + 1
unfolding row_from
row-length instance first n = omega (arith, bytes-length (λ j. cell_digit (byte instance (first + j))) n)

-- the number of a relation has at most two digits
pub number_short : (r : ℕ) → r < 16 → length (decimal r) ≤ 2
number_short r h = decimal-short 1 r (omega arith)

-- a row, and a line, by the sheet's numbers
row_is : (sheet : Sheet) (instance : List ℕ) (r i : ℕ)
    → row_from instance (first_cell sheet r + i * row_length sheet r) (row_length sheet r) ≡ bytes_of " " ++ row_digits sheet instance r i
unfolding row_from
row_is sheet instance r i =
    let n = row_length sheet r in
    let e : (j : ℕ) → first_cell sheet r + i * n + j ≡ cell sheet r i j = λ j. omega arith in
    λ k. 32 ∷ series n (λ j. cell_digit (byte instance (e j k)) ∷ [])

pub relation-line : (sheet : Sheet) (instance : List ℕ) (r : ℕ) {first rows columns : ℕ} → first ≡ first_cell sheet r
    → rows ≡ row_count sheet r → columns ≡ row_length sheet r
    → line_from 114 instance r first rows columns ≡ relation_line sheet instance r
unfolding line_from
relation-line sheet instance r ef er ec =
    (λ k. line_from 114 instance r (ef k) (er k) (ec k))
    ∙ λ k. 114 ∷ (decimal r ++ (series (row_count sheet r) (λ i. row_is sheet instance r i k) ++ (10 ∷ [])))

-- what a loop has put: n lines, each of at most 76 bytes
pub record Lines (line : ℕ → List ℕ) (old : List ℕ) (at : ℕ) (new : List ℕ) (end n : ℕ) : Type 0 where
  pub most : end ≤ at + 76 * n
  pub puts : Put old at (series n line) new end

module _ {line : ℕ → List ℕ} {old : List ℕ} {at : ℕ} where
  pub lines_none : Lines line old at old at 0
  lines_none = record { most = omega arith; puts = put-none-of line old at }

  pub lines_more : {mid new : List ℕ} {m end n : ℕ} → Lines line old at mid m n → Put mid m (line n) new end → end ≤ m + 76
      → Lines line old at new end (n + 1)
  lines_more {n = n} p q h = record { most = omega (arith, p.most); puts = put-more line n p.puts q }

-- the line of a sort: its only row is its membership cells
pub sort-line : (sheet : Sheet) (instance : List ℕ) (k : ℕ) {first columns : ℕ} → first ≡ first_member sheet k
    → columns ≡ scope sheet k
    → is_bounded sheet k ≡ true → line_from 115 instance k first 1 columns ≡ member_line sheet instance k
unfolding line_from row_from series
sort-line sheet instance k {first} {columns} ef ec b =
    let e : (j : ℕ) → first + 0 * columns + j ≡ member_cell sheet k j = λ j. omega (arith, ef) in
    (λ i. 115 ∷ (decimal k ++ ((32 ∷ series (ec i) (λ j. cell_digit (byte instance (e j i)) ∷ [])) ++ (10 ∷ []))))
    ∙ shown (is_bounded sheet k) b
  where
    line : List ℕ
    line = 115 ∷ (decimal k ++ ((32 ∷ member_digits sheet instance k) ++ (10 ∷ [])))

    shown : (b : Bool) → b ≡ true → line ≡ cond b line []
    shown true e = refl
    shown false e = absurd (false≢true e)

pub no_line : (sheet : Sheet) (instance : List ℕ) (k : ℕ) → is_bounded sheet k ≡ false → [] ≡ member_line sheet instance k
no_line sheet instance k b = rw b refl
