-- What `cnf` prints, by the length of the input, and the text of a list that was written.
use mathlib.Core.Path.{◌≡◌, sym, ap, ◌∙◌}
use mathlib.Core.Bool.{true}
use mathlib.Core.List.{List, ◌++◌}
use Prim.Native.Nat.{ℕ, ◌≤◌, ◌<◌}
use native.Mathlib.Omega.{arith}
use lib.IntN.{ℤ}
use lib.ListN.{length, take, drop, length-append}
use lib.Seq.{length-take-le}
use borrow.Author.Tests.{le-leb, lt-leb}
use Rattle.text.specs.Texts.{bytes_of, end_line}
use Rattle.clause_list.specs.ClauseList.{is_list}
use Rattle.sheet_rules.specs.Blocks.{sheet_of}
use Rattle.clauses_rules.specs.Whole.{words, word_total}
use Rattle.clauses_rules.proofs.Theorems.{listed}
use Rattle.clauses.specs.Answers.{fits, write_answer, list_after}
use Rattle.clauses.proofs.Answered.{count_fits, write-fits}
use Rattle.dimacs.specs.Text.{text_of}
use Rattle.dimacs.specs.Answers as dimacs
use Rattle.dimacs.specs.Answers.{bytes, size_answer, text_after}
use Rattle.dimacs.proofs.Lines.{text-short}
use Rattle.dimacs.proofs.Answers.{size-bytes}
use Rattle.dimacs.proofs.Exact.{Exact, not-both, to-the-byte}
use Rattle.cnf_text.specs.Private.{PrintsText}
use Rattle.cnf_text.specs.Printed.{text_as, clause_text, list_left}

module _ (input : List ℕ) (list : List ℤ) where
  pub long-clauses : 4096 < length input → clause_text input list ≡ end_line (bytes_of "refused ") 2
  unfolding clause_text
  long-clauses h = rw (lt-leb (length input) 4096 h)

  pub long-list : 4096 < length input → list_left input list ≡ list
  unfolding list_left
  long-list h = rw (lt-leb (length input) 4096 h)

  pub short-clauses : length input ≤ 4096 → clause_text input list ≡ text_as (write_answer input list) (sheet_of input)
  unfolding clause_text
  short-clauses h = rw (le-leb (length input) 4096 h)

  pub short-list : length input ≤ 4096 → list_left input list ≡ list_after input list
  unfolding list_left
  short-list h = rw (le-leb (length input) 4096 h)

  -- the list that was written
  module _ (v c w : ℕ) (e : write_answer input list ≡ fits v c w) where
    written-room : w ≤ length list
    written-room = (write-fits input list v c w e).room

    pub written-inside : w ≤ length (list_after input list)
    written-inside =
        let l = write-fits input list v c w e in
        let d = count_fits input v c w l.counted in
        omega (arith, d.words, ap length l.list, length-append (words (sheet_of input)) (drop (word_total (sheet_of input)) list))

    pub written_listed : length list ≤ 2147483647 → is_list v (take w (list_after input list)) ≡ true
    written_listed h =
        let l = write-fits input list v c w e in
        let d = count_fits input v c w l.counted in
        rw (l.front, d.variables) (listed input d.layout d.accepted d.small (omega (arith, d.words, l.room)))

    -- 7 bytes for each of 262,144 words, and 14 more, are enough for every text
    pub written-fits : length list ≤ 262144 → length (text_of v (take w (list_after input list))) ≤ 1835022
    written-fits h =
        let ws = take w (list_after input list) in
        let few : length list ≤ 2147483647 = omega arith in
        omega (arith, text-short v ws (written_listed few), length-take-le w (list_after input list) written-inside, written-room)

    pub written-text : length input ≤ 4096 → text_of v (take w (list_after input list)) ≡ clause_text input list
    written-text h =
        ap (text_of v) (write-fits input list v c w e).front ∙ ap (λ a. text_as a (sheet_of input)) (sym e) ∙ sym (short-clauses h)

-- a text that was printed with room for it
module _ {text lent left : List ℕ} {end : ℕ} (p : PrintsText text lent left end) where
  pub text-counts : (end ≤ length left) × (end ≡ length (take end left))
  text-counts =
      let e = p.prints in
      let l : end ≤ length left = omega (arith, e.ends, ap length e.stands, length-append text (drop (length text) lent)) in
      (l, sym (length-take-le end left l))

-- a list that is one has a figure
pub not_refused : (v : ℕ) (ws : List ℤ) → is_list v ws ≡ true → (k : ℕ) → dimacs.refused k ≡ size_answer v ws → ⊥
not_refused v ws e k a = not-both (a ∙ size-bytes v ws e)

-- the text of a list, in as many bytes of a slice as it has
module _ (v : ℕ) (ws : List ℤ) (lent : List ℕ) (h : length (text_of v ws) ≤ length lent) (n : ℕ) (s : size_answer v ws ≡ bytes n) where
  exact : Exact v ws n (take n lent)
  exact = to-the-byte v ws n s (take n lent)

  pub part-inside : n ≤ length lent
  part-inside = omega (arith, exact.length_of_text)

  pub part-printed : PrintsText (text_of v ws) lent (text_after v ws (take n lent) ++ drop n lent) n
  part-printed = record {
    room = h;
    prints = record {
      ends = exact.length_of_text;
      stands =
          ap (λ part. part ++ drop n lent) (exact.filled (length-take-le n lent part-inside))
          ∙ ap (λ k. text_of v ws ++ drop k lent) exact.length_of_text;
    };
  }
