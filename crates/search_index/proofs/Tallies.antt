-- The blocks and the number of false clauses, kept when something else stands for a clause.
use mathlib.Core.Path.{◌≡◌, refl, sym, ◌∙◌, ap, subst}
use mathlib.Core.Bool.{Bool, true, false, cond}
use mathlib.Core.Logic.{⊎_elim}
use mathlib.Core.List.{List}
use Prim.Native.Nat.{ℕ, zero, suc, ◌+◌, ◌/◌, ◌<◌, ◌≤◌}
use native.Mathlib.Omega.{arith}
use native.Mathlib.Nat.{eq-or-lt_of_le}
use lib.Dec.{eqb}
use lib.ListN.{length, get_or}
use Rattle.search_index.specs.Index.{limit, told, weight_words, falses_at, Up, one, falses_below, Tallied, Put}
use Rattle.search_index.proofs.Spots.{same_or_not}
use Rattle.search_index.proofs.WeightCode.{bit-one, bit-zero}

bit-low : (b : Bool) → cond b 1 0 ≤ 1
bit-low true = omega arith
bit-low false = omega arith

one-low : (w : ℕ) → one w ≤ 1
unfolding one
one-low w = bit-low (eqb (told w) 1)

one-false : (w : ℕ) → told w ≡ 1 → one w ≡ 1
unfolding one
one-false w e = bit-one (told w) e

one-other : (w : ℕ) → (told w ≡ 1 → ⊥) → one w ≡ 0
unfolding one
one-other w n = bit-zero (told w) n

told_none : told 0 ≡ 0
unfolding told
told_none = refl

one_none : one 0 ≡ 0
unfolding one told
one_none = refl

falses-high : (n : ℕ) (f : ℕ → ℕ) → falses_below n f ≤ n
unfolding falses_below
falses-high zero f = omega arith
falses-high (suc n) f = omega (arith, one-low (f n), falses-high n f)

pub falses-same : (n : ℕ) (f g : ℕ → ℕ) → ((c : ℕ) → c < n → g c ≡ f c) → falses_below n g ≡ falses_below n f
unfolding falses_below
falses-same zero f g h = refl
falses-same (suc n) f g h = omega (arith, ap one (h n (omega arith)), falses-same n f g (λ c l. h c (omega (arith, l))))

-- the number of false clauses when something else stands for one of them
falses-change : (n c : ℕ) (f g : ℕ → ℕ) → c < n → ((d : ℕ) → d < n → (d ≡ c → ⊥) → g d ≡ f d)
    → falses_below n g + one (f c) ≡ falses_below n f + one (g c)
unfolding falses_below
falses-change zero c f g l h = absurd (omega arith)
falses-change (suc n) c f g l h =
    ⊎_elim (here n c f g h) (λ (b : c < n). below n c f g b h (falses-change n c f g b (λ d k. h d (omega (arith, k)))))
    (eq-or-lt_of_le (omega (arith, l)))
  where
    here : (n c : ℕ) (f g : ℕ → ℕ) → ((d : ℕ) → d < suc n → (d ≡ c → ⊥) → g d ≡ f d) → c ≡ n
        → falses_below (suc n) g + one (f c) ≡ falses_below (suc n) f + one (g c)
    here n c f g h e =
        rw e (omega (arith, falses-same n f g (λ d k. h d (omega (arith, k)) (λ q. absurd (omega (arith, q, e, k))))))

    below : (n c : ℕ) (f g : ℕ → ℕ) → c < n → ((d : ℕ) → d < suc n → (d ≡ c → ⊥) → g d ≡ f d)
        → falses_below n g + one (f c) ≡ falses_below n f + one (g c)
        → falses_below (suc n) g + one (f c) ≡ falses_below (suc n) f + one (g c)
    below n c f g b h more = omega (arith, more, ap one (h n (omega arith) (λ q. absurd (omega (arith, q, b)))))

-- a clause's share in the number
falses-one : (n c : ℕ) (f : ℕ → ℕ) → c < n → one (f c) ≤ falses_below n f
unfolding falses_below
falses-one zero c f l = absurd (omega arith)
falses-one (suc n) c f l =
    ⊎_elim (λ (e : c ≡ n). omega (arith, ap (λ (d : ℕ). one (f d)) e)) (λ (b : c < n). omega (arith, falses-one n c f b))
    (eq-or-lt_of_le (omega (arith, l)))

-- where the number is not 0 there is a false clause
pub record FalseBelow (n : ℕ) (f : ℕ → ℕ) : Type 0 where
  pub c : ℕ
  pub within : c < n
  pub is : told (f c) ≡ 1

pub falses-where : (n : ℕ) (f : ℕ → ℕ) → 1 ≤ falses_below n f → FalseBelow n f
unfolding falses_below
falses-where zero f h = absurd (omega arith)
falses-where (suc n) f h = ⊎_elim
    (λ e. record { c = n; within = omega arith; is = e })
    (λ e. let w = falses-where n f (omega (arith, h, one-other (f n) e)) in record { c = w.c; within = omega (arith, w.within); is = w.is })
    (same_or_not (told (f n)) 1)

-- where the number is 0 there is none
pub falses-none : (n c : ℕ) (f : ℕ → ℕ) → falses_below n f ≤ 0 → c < n → told (f c) ≡ 1 → ⊥
falses-none n c f h l e = absurd (omega (arith, h, falses-one n c f l, one-false (f c) e))

pub tally-none : (weights : List ℕ) → length weights ≡ weight_words → ((k : ℕ) → get_or weights k 0 ≡ 0) → Tallied weights 0
tally-none weights l h = record { long = l; flagged = λ c b. absurd (omega (arith, b)); counted = unfold falses_below in h 17408 }

module _ (weights weights' : List ℕ) (n c w : ℕ) (tallied : Tallied weights n) (put : Put weights c w weights') where
  flag-here : (d : ℕ) → d ≡ c → (told (get_or weights c 0) ≡ 2 → ⊥) → told (get_or weights' d 0) ≡ 2 → Up weights' (d / 16)
  flag-here d e o t =
      subst (λ (k : ℕ). Up weights' (k / 16)) (sym e) (put.raised (sym (ap told (ap (λ (k : ℕ). get_or weights' k 0) e ∙ put.here)) ∙ t) o)

  flag-stays : (d : ℕ) → d < n → n ≤ limit → told (get_or weights d 0) ≡ 2 → Up weights' (d / 16)
  flag-stays d l m t = put.kept (d / 16) (omega (arith, l, m)) (tallied.flagged d l t)

  flag-other : (d : ℕ) → d < n → n ≤ limit → (d ≡ c → ⊥) → told (get_or weights' d 0) ≡ 2 → Up weights' (d / 16)
  flag-other d l m e t = flag-stays d l m (sym (ap told (put.others d (omega (arith, l, m)) e)) ∙ t)

  -- a unit clause that was none before raises the flag, and of one that was there before it was up
  flag-put : (d : ℕ) → d < n → n ≤ limit → d ≡ c → told (get_or weights' d 0) ≡ 2 → Up weights' (d / 16)
  flag-put d l m e t = ⊎_elim
      (λ o. flag-stays d l m (ap (λ (k : ℕ). told (get_or weights k 0)) e ∙ o)) (λ o. flag-here d e o t) (same_or_not (told (get_or weights c 0)) 2)

pub tally-put : (weights weights' : List ℕ) (n c w : ℕ) → Tallied weights n → c < n → n ≤ limit → Put weights c w weights' → Tallied weights' n
tally-put weights weights' n c w tallied l m put = record {
  long = put.long ∙ tallied.long;
  flagged = λ d b t. ⊎_elim (λ e. flag-put weights weights' n c w tallied put d b m e t)
      (λ e. flag-other weights weights' n c w tallied put d b m e t) (same_or_not d c);
  counted =
      let change = falses-change n c (λ d. get_or weights d 0) (λ d. get_or weights' d 0) l (λ d b e. put.others d (omega (arith, b, m)) e) in
      omega (arith, change, tallied.counted, put.counted, ap one put.here);
}

more-counted : (weights weights' : List ℕ) (n w : ℕ) → Tallied weights n → n < limit → get_or weights n 0 ≡ 0 → Put weights n w weights'
    → falses_at weights' ≡ falses_below (suc n) (λ c. get_or weights' c 0)
unfolding falses_below
more-counted weights weights' n w tallied m z put =
    let same = falses-same n (λ d. get_or weights d 0) (λ d. get_or weights' d 0)
    (λ d b. put.others d (omega (arith, b, m)) (λ e. absurd (omega (arith, e, b)))) in
    omega (arith, same, tallied.counted, put.counted, ap one put.here, ap one z, one_none)

pub tally-more : (weights weights' : List ℕ) (n w : ℕ) → Tallied weights n → n < limit → get_or weights n 0 ≡ 0 → Put weights n w weights'
    → Tallied weights' (suc n)
tally-more weights weights' n w tallied m z put = record {
  long = put.long ∙ tallied.long;
  flagged = λ d b t. ⊎_elim (λ e. flag-here weights weights' n n w tallied put d e (λ q. absurd (omega (arith, q, ap told z, told_none))) t)
      (λ k. flag-other weights weights' n n w tallied put d k (omega (arith, m)) (λ e. absurd (omega (arith, e, k))) t)
      (eq-or-lt_of_le (omega (arith, b)));
  counted = more-counted weights weights' n w tallied m z put;
}

pub put-asks : (weights : List ℕ) (n c : ℕ) → Tallied weights n → c < n → n ≤ limit
    → (one (get_or weights c 0) ≤ falses_at weights) × (falses_at weights ≤ limit)
put-asks weights n c tallied l m = (
  omega (arith, tallied.counted, falses-one n c (λ d. get_or weights d 0) l),
  omega (arith, tallied.counted, falses-high n (λ d. get_or weights d 0), m),
)

pub put-more-asks : (weights : List ℕ) (n : ℕ) → Tallied weights n → n < limit → get_or weights n 0 ≡ 0
    → (one (get_or weights n 0) ≤ falses_at weights) × (falses_at weights ≤ limit)
put-more-asks weights n tallied m z = (
  omega (arith, ap one z, one_none),
  omega (arith, tallied.counted, falses-high n (λ d. get_or weights d 0), m),
)
