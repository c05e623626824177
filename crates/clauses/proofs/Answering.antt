-- From the numbers of a whole translation to what counting and writing answer.
use mathlib.Core.Path.{◌≡◌, refl, sym, ap, ◌∙◌}
use mathlib.Core.List.{List}
use mathlib.Core.Logic.{⊎_elim}
use Prim.Native.Nat.{ℕ, zero, suc, pred, ◌-◌, ◌≤◌, ◌<◌}
use native.Mathlib.Omega.{arith}
use lib.IntN.{ℤ}
use lib.ListN.{length}
use borrow.Author.Tests.{le-leb, lt-leb}
use Rattle.prelude.proofs.Stores.{put_front}
use Rattle.sheet_rules.specs.declared.Layout.{Layout}
use Rattle.sheet_rules.specs.Blocks.{sheet_of}
use Rattle.sheet_rules.specs.Reading as sheets
use Rattle.sheet_rules.specs.Reading.{accepted, reading}
use Rattle.clauses_rules.specs.Whole.{words, variable_total}
use Rattle.clauses_emission.specs.declared.Tape.{Tape}
use Rattle.clauses_emission.specs.Emission.{Within, Over}
use Rattle.clauses_emission.proofs.Steps.{within-or-over}
use Rattle.clauses.specs.Answers.{Answer, fits, refused, count_answer, write_answer, list_by, list_after}
use Rattle.clauses.specs.Translating.{Translates, size_answer}
use Rattle.clauses.proofs.Answered.{count_fits}

-- ---- the numbers
module _ (tape : Tape) where
  pub size-over : 16001 < tape.next → refused 10 ≡ size_answer tape
  size-over h = rw (lt-leb tape.next 16001 h)

  pub size-within : tape.next ≤ 16001 → 1 ≤ tape.next → fits (tape.next - 1) tape.clauses tape.words ≡ size_answer tape
  size-within h l =
      rw (le-leb tape.next 16001 h)
      (ap (λ (n : ℕ). fits n tape.clauses tape.words) (less tape.next))
    where
      less : (n : ℕ) → n - 1 ≡ pred n
      less zero = refl
      less (suc n) = omega arith

pub count-refused : (s : List ℕ) (n : ℕ) → reading s ≡ sheets.refused n → refused n ≡ count_answer s
unfolding count_answer
count-refused s n e = rw e

module _ (s : List ℕ) (layout : Layout) (taken : reading s ≡ accepted layout) {old new : List ℤ} {tape : Tape}
    (t : Translates (sheet_of s) old new tape) where
  small : Within tape.next → variable_total (sheet_of s) ≤ 16000
  small h = rw (← t.variable_count_ok h) (less tape.next h)
    where
      less : (n : ℕ) → n ≤ 16001 → pred n ≤ 16000
      less zero l = omega arith
      less (suc n) l = omega arith

  pub count-is : size_answer tape ≡ count_answer s
  unfolding count_answer
  count-is = ⊎_elim within over (within-or-over tape.next)
    where
      within : Within tape.next → size_answer tape ≡ count_answer s
      within h =
          let v = le-leb (variable_total (sheet_of s)) 16000 (small h) in
          rw (taken, le-leb tape.next 16001 h, v, t.variable_count_ok h, t.clause_count h, t.word_count h)

      over : Over tape.next → size_answer tape ≡ count_answer s
      over h = rw (taken, lt-leb tape.next 16001 h, lt-leb (variable_total (sheet_of s)) 16000 (t.over h))

  -- ---- writing: the words fit
  module _ {v c w : ℕ} (counted : count_answer s ≡ fits v c w) (room : w ≤ length old) where
    is_within : Within tape.next
    is_within =
        let d = count_fits s v c w counted in
        ⊎_elim (λ h. h) (λ h. absurd (omega (arith, t.over h, d.small))) (within-or-over tape.next)

    write-answer : write_answer s old ≡ fits v c w
    unfolding write_answer
    write-answer = rw (counted, le-leb w (length old) room)

    pub write_done : {a : Answer} → a ≡ size_answer tape → (a ≡ write_answer s old) × (new ≡ list_after s old)
    unfolding list_after
    write_done e =
        let d = count_fits s v c w counted in (
          e ∙ count-is ∙ counted ∙ sym write-answer,
          t.list is_within
              ∙ put_front old (words (sheet_of s)) (omega (arith, d.words, room))
              ∙ ap (λ (b : Answer). list_by b (words (sheet_of s)) old) (sym write-answer),
        )

-- writing declines as counting does, or the list is too short: nothing changes
module _ (s : List ℕ) (old : List ℤ) where
  pub write-refused : {n : ℕ} → refused n ≡ count_answer s → (refused n ≡ write_answer s old) × (old ≡ list_after s old)
  unfolding write_answer list_after
  write-refused e = (rw (← e), rw (← e))

  pub write-short : {v c w : ℕ} → count_answer s ≡ fits v c w → length old < w
      → (refused 13 ≡ write_answer s old) × (old ≡ list_after s old)
  unfolding write_answer list_after
  write-short {v} {c} {w} e h = (rw (e, lt-leb w (length old) h), rw (e, lt-leb w (length old) h))
