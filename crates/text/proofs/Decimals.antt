-- Numbers in decimal: the two cases, and how many digits there are.
use mathlib.Core.Path.{◌≡◌, sym, ap, ◌∙◌}
use mathlib.Core.Bool.{true, false}
use mathlib.Core.List.{List, [], ◌∷◌, ◌++◌}
use mathlib.Core.Logic.{⊎_elim}
use Prim.Native.Nat.{ℕ, zero, suc, ◌+◌, ◌/◌, ◌%◌, ◌^◌, ◌<◌, ◌≤◌}
use native.Mathlib.Nat.{not-suc-le-zero, pow-suc}
use native.Mathlib.Omega.{arith}
use lib.Dec.{leb}
use lib.ListN.{length, length-append}
use borrow.Author.Tests.{leb-true, leb-false, le-leb, lt-leb}
use Rattle.prelude.proofs.Laws.{decided}
use Rattle.text.specs.Texts.{digit, digits, decimal}

digits-one : (r n : ℕ) → leb n 9 ≡ true → digits (suc r) n ≡ digit n ∷ []
unfolding digits
digits-one r n e = rw (e, digits)

digits_more : (r n : ℕ) → leb n 9 ≡ false → digits (suc r) n ≡ digits r (n / 10) ++ (digit (n % 10) ∷ [])
unfolding digits
digits_more r n e = rw (e, digits)

-- any number of rounds above the number gives its digits
digits-rounds : (r s n : ℕ) → n < r → n < s → digits r n ≡ digits s n
digits-rounds zero s n g h = absurd (not-suc-le-zero g)
digits-rounds (suc r) zero n g h = absurd (not-suc-le-zero h)
digits-rounds (suc r) (suc s) n g h =
    ⊎_elim
    (λ e. digits-one r n e ∙ sym (digits-one s n e))
    (λ e.
    let m : 9 < n = leb-false n 9 e in
    digits_more r n e
    ∙ ap (λ (ds : List ℕ). ds ++ (digit (n % 10) ∷ [])) (digits-rounds r s (n / 10) (omega arith) (omega arith))
    ∙ sym (digits_more s n e))
    (decided (leb n 9))

pub decimal-one : (n : ℕ) → n ≤ 9 → decimal n ≡ digit n ∷ []
unfolding decimal
decimal-one n h = digits-one n n (le-leb n 9 h)

pub decimal-more : (n : ℕ) → 9 < n → decimal n ≡ decimal (n / 10) ++ (digit (n % 10) ∷ [])
unfolding decimal
decimal-more n h =
    digits_more n n (lt-leb n 9 h)
    ∙ ap (λ (ds : List ℕ). ds ++ (digit (n % 10) ∷ [])) (digits-rounds n (suc (n / 10)) (n / 10) (omega arith) (omega arith))

pub length_more : (n : ℕ) → 9 < n → length (decimal n) ≡ length (decimal (n / 10)) + 1
length_more n h = ap length (decimal-more n h) ∙ length-append (decimal (n / 10)) (digit (n % 10) ∷ [])

-- a number has at least one digit, and at most one more than itself
pub decimal-some : (n : ℕ) → 1 ≤ length (decimal n)
decimal-some n =
    ⊎_elim
    (λ e. rw (decimal-one n (leb-true n 9 e)) (omega arith))
    (λ e. omega (arith, length_more n (leb-false n 9 e)))
    (decided (leb n 9))

digits-few : (r n : ℕ) → length (digits r n) ≤ n + 1
digits-few zero n = unfold digits in omega arith
digits-few (suc r) n =
    ⊎_elim
    (λ e. rw (digits-one r n e) (omega arith))
    (λ e.
    let m : 9 < n = leb-false n 9 e in
    rw (digits_more r n e) (omega (arith, length-append (digits r (n / 10)) (digit (n % 10) ∷ []), digits-few r (n / 10))))
    (decided (leb n 9))

pub decimal-few : (n : ℕ) → length (decimal n) ≤ n + 1
unfolding decimal
decimal-few n = digits-few (suc n) n

-- a number below a power of ten has no more digits than that
pub decimal-short : (k n : ℕ) → n < 10 ^ suc k → length (decimal n) ≤ suc k
decimal-short zero n h = rw (decimal-one n (omega arith)) (omega arith)
decimal-short (suc k) n h =
    ⊎_elim
    (λ e. rw (decimal-one n (leb-true n 9 e)) (omega arith))
    (λ e. omega (arith, length_more n (leb-false n 9 e), decimal-short k (n / 10) (tenth k n h)))
    (decided (leb n 9))
  where
    tenth : (k n : ℕ) → n < 10 ^ suc (suc k) → n / 10 < 10 ^ suc k
    tenth k n h = omega (arith, pow-suc 10 (suc k))
