-- The length of a clause text, to the byte: what Change 4 promises.
use mathlib.Core.Path.{◌≡◌, sym, ap, ◌∙◌}
use mathlib.Core.Bool.{true}
use mathlib.Core.List.{List, [], ◌++◌, append-nil}
use mathlib.Core.Logic.{⊎_elim}
use Prim.Native.Nat.{ℕ, ◌≤◌, ◌<◌}
use native.Mathlib.Omega.{arith}
use lib.Dec.{leb}
use lib.IntN.{ℤ}
use lib.ListN.{length, drop, drop_of_length-le}
use borrow.Author.Tests.{leb-true, leb-false}
use Rattle.prelude.proofs.Laws.{decided}
use Rattle.clause_list.specs.ClauseList.{is_list}
use Rattle.dimacs.specs.Text.{text_of}
use Rattle.dimacs.specs.Answers.{bytes, refused, size_answer, write_answer, text_after}
use Rattle.dimacs.proofs.Answers.{size-refused, size-bytes, write-short, after-short, write_bytes, after-bytes}

-- a figure for the text of a list, and any slice that is lent for it
pub record Exact (v : ℕ) (ws : List ℤ) (n : ℕ) (text : List ℕ) : Type 0 where
  -- the text has as many bytes
  pub length_of_text : n ≡ length (text_of v ws)
  -- 13 exactly where the slice is shorter, and then nothing is changed
  pub short : length text < n → write_answer v ws text ≡ refused 13
  pub only_short : write_answer v ws text ≡ refused 13 → length text < n
  pub unchanged : length text < n → text_after v ws text ≡ text
  -- else the call answers the same number, and a slice of as many bytes is filled to its last
  pub same : n ≤ length text → write_answer v ws text ≡ bytes n
  pub filled : length text ≡ n → text_after v ws text ≡ text_of v ws

-- "The sizing call now gives the text's exact length, and 13 is given for clause text exactly when the slice is shorter
-- than that."
abbrev pub ToTheByte : Type 0
ToTheByte = (v : ℕ) (ws : List ℤ) (n : ℕ) → size_answer v ws ≡ bytes n → (text : List ℕ) → Exact v ws n text

-- no answer is both a number of bytes and a refusal
pub not-both : {k n : ℕ} → refused k ≡ bytes n → ⊥
not-both {k} {n} e =
    let z : ◌≡◌ {A = ℕ} 0 1 = cc in
    omega arith

-- a figure is answered for a list alone, and is the text's length
module _ (v : ℕ) (ws : List ℤ) (n : ℕ) (s : size_answer v ws ≡ bytes n) where
  pub sized-list : is_list v ws ≡ true
  sized-list = ⊎_elim (λ t. t) (λ f. absurd (not-both (sym (size-refused v ws f) ∙ s))) (decided (is_list v ws))

  pub sized-length : n ≡ length (text_of v ws)
  sized-length =
      let k : bytes n ≡ bytes (length (text_of v ws)) = sym s ∙ size-bytes v ws sized-list in
      cc

  module _ (text : List ℕ) where
    short : length text < n → write_answer v ws text ≡ refused 13
    short h = write-short v ws text sized-list (omega (arith, sized-length))

    unchanged : length text < n → text_after v ws text ≡ text
    unchanged h = after-short v ws text sized-list (omega (arith, sized-length))

    same : n ≤ length text → write_answer v ws text ≡ bytes n
    same h = write_bytes v ws text sized-list (omega (arith, sized-length)) ∙ ap bytes (sym sized-length)

    only_short : write_answer v ws text ≡ refused 13 → length text < n
    only_short e =
        ⊎_elim
        (λ t. absurd (not-both (sym e ∙ same (leb-true n (length text) t))))
        (λ f. leb-false n (length text) f)
        (decided (leb n (length text)))

    -- nothing of the slice is left behind the text
    nothing-behind : length text ≡ n → drop (length (text_of v ws)) text ≡ []
    nothing-behind h =
        let l : length text ≤ length (text_of v ws) = omega (arith, sized-length) in
        drop_of_length-le text l

    filled : length text ≡ n → text_after v ws text ≡ text_of v ws
    filled h =
        after-bytes v ws text sized-list (omega (arith, sized-length))
        ∙ ap (λ rest. text_of v ws ++ rest) (nothing-behind h)
        ∙ append-nil (text_of v ws)

pub to-the-byte : ToTheByte
to-the-byte v ws n s text = record {
  length_of_text = sized-length v ws n s;
  short = short v ws n s text;
  only_short = only_short v ws n s text;
  unchanged = unchanged v ws n s text;
  same = same v ws n s text;
  filled = filled v ws n s text;
}
