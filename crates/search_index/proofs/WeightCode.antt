-- What the code of the weights comes to, step by step.
use mathlib.Core.Path.{◌≡◌, refl, sym, ◌∙◌, ap}
use mathlib.Core.Bool.{true, false, cond}
use mathlib.Core.Logic.{⊎_elim}
use mathlib.Core.List.{List}
use Prim.Native.Nat.{ℕ, zero, suc, ◌+◌, ◌-◌, ◌/◌, ◌<◌, ◌≤◌}
use native.Mathlib.Omega.{arith}
use lib.Dec.{eqb}
use lib.IntN.{ℤ, nat_abs}
use lib.ListN.{length, get_or, set, length-set}
use lib.Seq.{get_or-set_same, get_or-set_other}
use borrow.Author.Tests.{le-leb, eq-eqb, ne_eqb}
use Rattle.literal.specs.Words.{is_positive}
use Rattle.search_rules.specs.Held.{InRange}
use Rattle.search_rules.specs.Rules.{Truth, falsified, satisfied, unassigned, truth_of, negated}
use Rattle.search_scan.proofs.Words.{is-above, is_below}
use Rattle.search_index.specs.Index.{limit, literal_weight, byte_weight, byte_says, mixed, told, flag_at, falses_at, low_at}
use Rattle.search_index.specs.Index.{weight_words, Up}
use Rattle.search_index.specs.Index.{one, Raised, Noted, Put}
use Rattle.search_index.proofs.Spots.{same_or_not}
use Rattle.search_index.proofs.Weighing.{literal-weight-high}

-- the status of what stands for a clause that names a variable twice
pub told-above : (w : ℕ) → mixed ≤ w → w - mixed ≡ told w
unfolding told
told-above w h = rw (le-leb mixed w h) refl

-- the weight of a byte
pub weighs-true : (x : ℕ) → x ≡ 1 → 2 ≡ byte_weight x
unfolding byte_weight truth_of literal_weight
weighs-true x e = rw e refl

pub weighs-open : (x : ℕ) → x ≡ 2 → 1 ≡ byte_weight x
unfolding byte_weight truth_of literal_weight
weighs-open x e = rw e refl

pub weighs-false : (x : ℕ) → (x ≡ 1 → ⊥) → (x ≡ 2 → ⊥) → 0 ≡ byte_weight x
unfolding byte_weight truth_of literal_weight
weighs-false zero p q = refl
weighs-false (suc zero) p q = absurd (p refl)
weighs-false (suc (suc zero)) p q = absurd (q refl)
weighs-false (suc (suc (suc n))) p q = refl

pub byte_low : (x : ℕ) → byte_weight x ≤ 2
unfolding byte_weight
byte_low x = literal-weight-high (truth_of x)

-- the weight of a literal and of its opposite
opposites : (t : Truth) → literal_weight (negated t) + literal_weight t ≡ 2
unfolding negated literal_weight
opposites falsified = refl
opposites satisfied = refl
opposites unassigned = refl

-- the weight of a literal by its sign: z is the literal as the machine has it
module _ (x : ℕ) (z l : ℤ) (e : z ≡ l) (r : 1 ≤ nat_abs l) where
  within : InRange (nat_abs l) l
  within = (r, omega arith)

  pub weighs-above : is_positive z ≡ true → literal_weight (byte_says x l) ≡ byte_weight x
  unfolding byte_says byte_weight
  weighs-above t = rw (is-above (nat_abs l) z l e within t).1 refl

  pub weighs-below : is_positive z ≡ false → literal_weight (byte_says x l) + byte_weight x ≡ 2
  unfolding byte_says byte_weight
  weighs-below t = rw (is_below (nat_abs l) z l e within t).1 (opposites (truth_of x))

-- the number of false clauses
abbrev pub bit : ℕ → ℕ
bit s = cond (eqb s 1) 1 0

pub bit-one : (s : ℕ) → s ≡ 1 → bit s ≡ 1
bit-one s e = rw (eq-eqb s 1 e) refl

pub bit-zero : (s : ℕ) → (s ≡ 1 → ⊥) → bit s ≡ 0
bit-zero s n = rw (ne_eqb s 1 n) refl

pub recount-more : (falses old new : ℕ) → (old ≡ new → ⊥) → new ≡ 1 → (falses + 1) + bit old ≡ falses + bit new
recount-more falses old new n e = omega (arith, bit-zero old (λ q. n (q ∙ sym e)), bit-one new e)

pub recount-less : (falses old new : ℕ) → (new ≡ 1 → ⊥) → old ≡ 1 → 1 ≤ falses → (falses - 1) + bit old ≡ falses + bit new
recount-less falses old new n e l = omega (arith, bit-zero new n, bit-one old e, l)

pub recount-none : (falses old new : ℕ) → (new ≡ 1 → ⊥) → (old ≡ 1 → ⊥) → falses + bit old ≡ falses + bit new
recount-none falses old new n m = omega (arith, bit-zero new n, bit-zero old m)

-- A block is raised: its flag is up, and the search for a unit clause begins there or earlier.
module _ (weights : List ℕ) (b : ℕ) (l : length weights ≡ weight_words) (h : b < 1024) where
  abbrev flagged : List ℕ
  flagged = set weights (16384 + b) 1

  flag_same : (i : ℕ) → (i ≡ 16384 + b → ⊥) → get_or flagged i 0 ≡ get_or weights i 0
  flag_same i n = get_or-set_other weights (16384 + b) i 1 0 n

  low_same : low_at flagged ≡ low_at weights
  low_same = flag_same 17409 (λ q. absurd (omega (arith, q, h)))

  flag_up : (d : ℕ) → flag_at weights d ≡ 1 → flag_at flagged d ≡ 1
  flag_up d u = ⊎_elim
      (λ q. ap (λ (j : ℕ). get_or flagged (16384 + j) 0) q ∙ get_or-set_same weights (16384 + b) 1 0 (omega (arith, l, h)))
      (λ n. flag_same (16384 + d) (λ q. n (omega (arith, q))) ∙ u) (same_or_not d b)

  pub raise-high : (low_at flagged ≤ b) → Raised weights b flagged
  raise-high le = record {
    long = length-set weights (16384 + b) 1;
    weights_are = λ d k. flag_same d (λ q. absurd (omega (arith, q, k)));
    raised = (get_or-set_same weights (16384 + b) 1 0 (omega (arith, l, h)), le);
    kept = λ d k u. (flag_up d u.0, omega (arith, low_same, u.1));
    falses_are = flag_same 17408 (λ q. absurd (omega (arith, q, h)));
  }

  pub raise-low : b < low_at flagged → Raised weights b (set flagged 17409 b)
  raise-low lt = record {
    long = length-set flagged 17409 b ∙ length-set weights (16384 + b) 1;
    weights_are = λ d k. low-other d (λ q. absurd (omega (arith, q, k))) ∙ flag_same d (λ q. absurd (omega (arith, q, k)));
    raised = (
      low-other (16384 + b) (λ q. absurd (omega (arith, q, h))) ∙ get_or-set_same weights (16384 + b) 1 0 (omega (arith, l, h)),
      omega (arith, low-is),
    );
    kept = λ d k u. (low-other (16384 + d) (λ q. absurd (omega (arith, q, k))) ∙ flag_up d u.0, omega (arith, low-is, lt, low_same, u.1));
    falses_are = low-other 17408 (λ q. absurd (omega (arith, q))) ∙ flag_same 17408 (λ q. absurd (omega (arith, q, h)));
  }
    where
      low-other : (i : ℕ) → (i ≡ 17409 → ⊥) → get_or (set flagged 17409 b) i 0 ≡ get_or flagged i 0
      low-other i n = get_or-set_other flagged 17409 i b 0 n

      low-is : low_at (set flagged 17409 b) ≡ b
      low-is = get_or-set_same flagged 17409 b 0 (omega (arith, length-set weights (16384 + b) 1, l))

-- the block of a clause is raised, where it is to be
pub record Follows (weights : List ℕ) (c new : ℕ) (mid : List ℕ) : Type 0 where
  pub long : length mid ≡ length weights
  pub weights_are : (d : ℕ) → d < limit → get_or mid d 0 ≡ get_or weights d 0
  pub raised : new ≡ 2 → Up mid (c / 16)
  pub kept : (b : ℕ) → b < 1024 → Up weights b → Up mid b
  pub falses_are : falses_at mid ≡ falses_at weights

pub follow : (weights mid : List ℕ) (c new : ℕ) → Raised weights (c / 16) mid → Follows weights c new mid
follow weights mid c new r =
    record { long = r.long; weights_are = r.weights_are; raised = λ _. r.raised; kept = r.kept; falses_are = r.falses_are }

pub leave : (weights mid : List ℕ) (c new : ℕ) → (new ≡ 2 → ⊥) → mid ≡ weights → Follows weights c new mid
leave weights mid c new n e = rw e (record {
  long = refl;
  weights_are = λ d b. refl;
  raised = λ q. absurd (n q);
  kept = λ b k u. u;
  falses_are = refl;
})

pub noted : (weights mid : List ℕ) (c old new r : ℕ) → length weights ≡ weight_words → c < limit → Follows weights c new mid
    → r + bit old ≡ falses_at mid + bit new → Noted weights c old new (set mid 17408 r)
noted weights mid c old new r l h m e = record {
  long = length-set mid 17408 r ∙ m.long;
  weights_are = λ d b. other d (λ q. absurd (omega (arith, q, b))) ∙ m.weights_are d b;
  raised = λ q. up (c / 16) (omega (arith, h)) (m.raised q);
  kept = λ b k u. up b k (m.kept b k u);
  counted = omega (arith, e, m.falses_are, get_or-set_same mid 17408 r 0 (omega (arith, l, m.long)));
}
  where
    other : (i : ℕ) → (i ≡ 17408 → ⊥) → get_or (set mid 17408 r) i 0 ≡ get_or mid i 0
    other i n = get_or-set_other mid 17408 i r 0 n

    up : (b : ℕ) → b < 1024 → Up mid b → Up (set mid 17408 r) b
    up b k u = (other (16384 + b) (λ q. absurd (omega (arith, q, k))) ∙ u.0, omega (arith, other 17409 (λ q. absurd (omega (arith, q))), u.1))

-- Something else stands for clause c: the statuses are those that the weights tell.
module _ (weights : List ℕ) (c w : ℕ) (l : length weights ≡ weight_words) (h : c < limit) where
  at_other : (i : ℕ) → (i ≡ c → ⊥) → get_or (set weights c w) i 0 ≡ get_or weights i 0
  at_other i n = get_or-set_other weights c i w 0 n

  falses-kept : falses_at (set weights c w) ≡ falses_at weights
  falses-kept = at_other 17408 (λ q. absurd (omega (arith, q, h)))

  up_kept : (b : ℕ) → b < 1024 → Up weights b → Up (set weights c w) b
  up_kept b k u =
      (at_other (16384 + b) (λ q. absurd (omega (arith, q, h))) ∙ u.0, omega (arith, at_other 17409 (λ q. absurd (omega (arith, q, h))), u.1))

  pub note-asks : (old new : ℕ) → old ≡ told (get_or weights c 0) → one (get_or weights c 0) ≤ falses_at weights → falses_at weights ≤ limit
      → (new ≡ old → ⊥) → (falses_at (set weights c w) ≤ limit) × (old ≡ 1 → 1 ≤ falses_at (set weights c w)) × (old ≡ new → ⊥)
  unfolding one
  note-asks old new e a b n = (
    omega (arith, falses-kept, b),
    (λ q. omega (arith, falses-kept, a, bit-one (told (get_or weights c 0)) (sym e ∙ q))),
    (λ q. n (sym q)),
  )

  pub put-noted : (weights' : List ℕ) (old new : ℕ) → old ≡ told (get_or weights c 0) → new ≡ told w → Noted (set weights c w) c old new weights'
      → Put weights c w weights'
  unfolding one
  put-noted weights' old new o n m = record {
    long = m.long ∙ length-set weights c w;
    here = m.weights_are c h ∙ get_or-set_same weights c w 0 (omega (arith, l, h));
    others = λ d b q. m.weights_are d b ∙ at_other d q;
    raised = λ t _. m.raised (n ∙ t);
    kept = λ b k u. m.kept b k (up_kept b k u);
    counted = omega (arith, m.counted, falses-kept, ap bit o, ap bit n);
  }

  pub put_same : told w ≡ told (get_or weights c 0) → Put weights c w (set weights c w)
  unfolding one
  put_same e = record {
    long = length-set weights c w;
    here = get_or-set_same weights c w 0 (omega (arith, l, h));
    others = λ d b q. at_other d q;
    raised = λ t q. absurd (q (sym e ∙ t));
    kept = λ b k u. up_kept b k u;
    counted = omega (arith, falses-kept, ap bit e);
  }
