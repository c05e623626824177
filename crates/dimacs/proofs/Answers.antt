-- The answers by their cases.
use mathlib.Core.Path.{◌≡◌, sym, ap, ◌∙◌}
use mathlib.Core.Bool.{true, false}
use mathlib.Core.List.{List, ◌++◌}
use Prim.Native.Nat.{ℕ, ◌<◌, ◌≤◌}
use native.Mathlib.Omega.{arith}
use lib.Dec.{leb}
use lib.IntN.{ℤ}
use lib.ListN.{length, drop}
use borrow.Author.Tests.{le-leb, lt-leb}
use Rattle.prelude.proofs.Laws.{and-not-right, and_both}
use Rattle.prelude.proofs.Stores.{put_front}
use Rattle.text.specs.Puts.{Put}
use Rattle.clause_list.specs.ClauseList.{is_list}
use Rattle.dimacs.specs.Text.{text_of}
use Rattle.dimacs.specs.Answers.{bytes, refused, size_answer, write_answer, text_after}

module _ (v : ℕ) (ws : List ℤ) where
  pub size-refused : is_list v ws ≡ false → size_answer v ws ≡ refused 12
  unfolding size_answer
  size-refused e = rw e

  pub size-bytes : is_list v ws ≡ true → size_answer v ws ≡ bytes (length (text_of v ws))
  unfolding size_answer
  size-bytes e = rw e

module _ (v : ℕ) (ws : List ℤ) (text : List ℕ) where
  pub write-no-list : is_list v ws ≡ false → write_answer v ws text ≡ refused 12
  unfolding write_answer
  write-no-list e = rw e

  pub after-no-list : is_list v ws ≡ false → text_after v ws text ≡ text
  unfolding text_after
  after-no-list e = rw e

-- a list and a slice, by the length of the text
module _ (v : ℕ) (ws : List ℤ) (text : List ℕ) (e : is_list v ws ≡ true) where
  abbrev n : ℕ
  n = length (text_of v ws)

  pub write-short : length text < n → write_answer v ws text ≡ refused 13
  unfolding write_answer
  write-short h = rw (e, lt-leb n (length text) h)

  pub after-short : length text < n → text_after v ws text ≡ text
  unfolding text_after
  after-short h = rw (and-not-right (is_list v ws) (leb n (length text)) (lt-leb n (length text) h))

  pub write_bytes : n ≤ length text → write_answer v ws text ≡ bytes n
  unfolding write_answer
  write_bytes h = rw (e, le-leb n (length text) h)

  pub after-bytes : n ≤ length text → text_after v ws text ≡ text_of v ws ++ drop n text
  unfolding text_after
  after-bytes h = rw (and_both (is_list v ws) (leb n (length text)) e (le-leb n (length text) h))

  -- the whole text was put
  pub write-put : n ≤ length text → {new : List ℕ} {end : ℕ} → Put text 0 (text_of v ws) new end
      → (bytes end ≡ write_answer v ws text) × (new ≡ text_after v ws text)
  write-put h {new} {end} p =
      let ends : end ≡ n = omega (arith, p.ends) in (
        ap bytes ends ∙ sym (write_bytes h),
        p.holds ∙ put_front text (text_of v ws) h ∙ sym (after-bytes h),
      )
