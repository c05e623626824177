-- The weight of a clause: what a change of one value does to it, and the status that it tells.
use mathlib.Core.Path.{◌≡◌, refl, sym, ◌∙◌, ap}
use mathlib.Core.Bool.{Bool, true, false, cond, ◌||◌}
use mathlib.Core.List.{List, [], ◌∷◌}
use mathlib.Core.Option.{Option, none, some}
use Prim.Native.Nat.{ℕ, zero, suc, pred, ◌+◌, ◌<◌, ◌≤◌}
use native.Mathlib.Omega.{arith}
use lib.IntN.{ℤ, pos, negsuc}
use lib.ListN.{length, get_or, set}
use lib.Seq.{get_or-set_same, get_or-set_other}
use borrow.Author.Tests.{le-leb, lt-leb}
use Rattle.prelude.specs.Tests.{all, any}
use Rattle.search_rules.specs.Rules.{Truth, falsified, satisfied, unassigned, truth_of, negated, literal, place_of, is_falsified, is_satisfied}
use Rattle.search_rules.specs.Rules.{conflict, open_of, same_literal, only, unit_of, first_unit}
use Rattle.search_rules.proofs.Booleans.{bool_false}
use Rattle.search_rules.proofs.Assignments.{same_true}
use Rattle.search_scan.proofs.Words.{default}
use Rattle.search_scan.specs.Seen.{Sight, conflicting, unit, neither, seen}
use Rattle.search_index.specs.Index.{limit, Apart, literal_weight, byte_says, weight_of, status_code, status_of, mixed, told, Stands}
use Rattle.search_index.specs.Index.{weighed, looked}

-- no literal of the clause names the variable at place p
abbrev pub Away : ℕ → List ℤ → Type 0
Away p clause = (k : ℕ) → k < length clause → place_of (get_or clause k (pos 0)) ≡ p → ⊥

literal-away : (values : List ℕ) (p b : ℕ) (l : ℤ) → (place_of l ≡ p → ⊥) → literal (set values p b) l ≡ literal values l
unfolding literal place_of
literal-away values p b (pos n) h = ap truth_of (get_or-set_other values p (pred n) b 2 h)
literal-away values p b (negsuc n) h = ap (λ (x : ℕ). negated (truth_of x)) (get_or-set_other values p n b 2 h)

-- a clause that does not name the variable keeps its weight
pub weight-away : (values : List ℕ) (p b : ℕ) (clause : List ℤ)
    → Away p clause → weight_of (set values p b) clause ≡ weight_of values clause
unfolding weight_of
weight-away values p b [] h = refl
weight-away values p b (l ∷ clause) h =
    let e = ap literal_weight (literal-away values p b l (h 0 (omega arith))) in
    omega (arith, e, weight-away values p b clause (λ k lk. h (suc k) (omega arith)))

-- the open literals, one by one
abbrev opened : Truth → ℤ → List ℤ → List ℤ
opened falsified l ls = ls
opened satisfied l ls = ls
opened unassigned l ls = l ∷ ls

open-cons : (us : List ℕ) (l : ℤ) (clause : List ℤ) → open_of us (l ∷ clause) ≡ opened (literal us l) l (open_of us clause)
unfolding open_of
open-cons us l clause = by (literal us l)
  where
    by : (t : Truth) → elim t as (λ _. List ℤ) [ falsified ↦ open_of us clause | satisfied ↦ open_of us clause | unassigned ↦ l ∷ open_of us clause ]
        ≡ opened t l (open_of us clause)
    by falsified = refl
    by satisfied = refl
    by unassigned = refl

abbrev all_false : List ℕ → List ℤ → Bool
all_false us clause = all (λ l. is_falsified (literal us l)) clause

abbrev any_true : List ℕ → List ℤ → Bool
any_true us clause = any (λ l. is_satisfied (literal us l)) clause

-- two lists of values that say the same of each literal of a clause
record Alike (us vs : List ℕ) (clause : List ℤ) : Type 0 where
  falses : all_false us clause ≡ all_false vs clause
  trues : any_true us clause ≡ any_true vs clause
  opens : open_of us clause ≡ open_of vs clause

alike : (us vs : List ℕ) (clause : List ℤ) → ((k : ℕ) → k < length clause → literal us (get_or clause k (pos 0)) ≡ literal vs (get_or clause k (pos 0)))
    → Alike us vs clause
unfolding all any
alike us vs [] h = record { falses = refl; trues = refl; opens = unfold open_of in refl }
alike us vs (l ∷ clause) h =
    let a = alike us vs clause (λ k lk. h (suc k) (omega arith)) in
    let e : literal us l ≡ literal vs l = h 0 (omega arith) in
    record {
      falses = rw (e, a.falses) refl;
      trues = rw (e, a.trues) refl;
      opens = open-cons us l clause ∙ rw (e, a.opens) (sym (open-cons vs l clause));
    }

-- what a look at one clause shows
abbrev tell : Bool → Option ℤ → Sight
tell true u = conflicting
tell false none = neither
tell false (some l) = unit l

seen_one : (us : List ℕ) (clause : List ℤ)
    → seen us (clause ∷ []) ≡ tell (all_false us clause) (cond (any_true us clause) none (only (open_of us clause)))
seen_one us clause = unfold seen conflict first_unit unit_of any in by (all_false us clause) (unit_of us clause)
  where
    by : (b : Bool) (u : Option ℤ)
        → elim (b || false) as (λ _. Sight) [
          | true ↦ conflicting
          | false ↦ elim (elim u as (λ _. Option ℤ) [ none ↦ none | some l ↦ some l ]) as (λ _. Sight) [ some l ↦ unit l | none ↦ neither ]
        ]
        ≡ tell b u
    by true u = refl
    by false none = refl
    by false (some l) = refl

seen_alike : (us vs : List ℕ) (clause : List ℤ) → Alike us vs clause → seen us (clause ∷ []) ≡ seen vs (clause ∷ [])
seen_alike us vs clause a = seen_one us clause ∙ rw (a.falses, a.trues, a.opens) (sym (seen_one vs clause))

-- a clause that does not name the variable keeps its status
pub status-away : (values : List ℕ) (p b : ℕ) (clause : List ℤ)
    → Away p clause → status_of (set values p b) clause ≡ status_of values clause
unfolding status_of
status-away values p b clause h =
    rw (seen_alike _ _ clause (alike (set values p b) values clause (λ k l. literal-away values p b _ (h k l)))) refl

-- what the values say of a literal is what its variable's byte says
byte-read : (values : List ℕ) (p i : ℕ) → p < length values → i ≡ p → get_or values i 2 ≡ get_or values p 0
byte-read values p i h e = rw e (default values p 2 0 h)

pub literal-byte : (values : List ℕ) (p : ℕ) (l : ℤ) → p < length values → place_of l ≡ p → literal values l ≡ byte_says (get_or values p 0) l
unfolding literal place_of byte_says
literal-byte values p (pos n) h e = ap truth_of (byte-read values p (pred n) h e)
literal-byte values p (negsuc n) h e = ap (λ (x : ℕ). negated (truth_of x)) (byte-read values p n h e)

literal-set : (values : List ℕ) (p was : ℕ) (l : ℤ) → p < length values → place_of l ≡ p → literal (set values p was) l ≡ byte_says was l
unfolding literal place_of byte_says
literal-set values p was (pos n) h e = ap truth_of (ap (λ (i : ℕ). get_or (set values p was) i 2) e ∙ get_or-set_same values p was 2 h)
literal-set values p was (negsuc n) h e =
    ap (λ (x : ℕ). negated (truth_of x)) (ap (λ (i : ℕ). get_or (set values p was) i 2) e ∙ get_or-set_same values p was 2 h)

apart-rest : (l : ℤ) (clause : List ℤ) → Apart (l ∷ clause) → Apart clause
apart-rest l clause h j k a b e = h (suc j) (suc k) (omega (arith, a)) (omega (arith, b)) e

apart-first : (l : ℤ) (clause : List ℤ) → Apart (l ∷ clause) → Away (place_of l) clause
apart-first l clause h k b e = h 0 (suc k) (omega arith) (omega (arith, b)) (sym e)

-- the weight changes by what the one literal of the variable weighs
pub weight-change : (values : List ℕ) (p was k : ℕ) (clause : List ℤ) → p < length values → Apart clause → k < length clause
    → place_of (get_or clause k (pos 0)) ≡ p
    → weight_of values clause + literal_weight (byte_says was (get_or clause k (pos 0)))
    ≡ weight_of (set values p was) clause + literal_weight (byte_says (get_or values p 0) (get_or clause k (pos 0)))
unfolding weight_of
weight-change values p was k [] h a lk e = absurd (omega arith)
weight-change values p was zero (l ∷ clause) h a lk e =
    let n = ap literal_weight (literal-byte values p l h e) in
    let o = ap literal_weight (literal-set values p was l h e) in
    omega (arith, n, o, weight-away values p was clause (λ k b q. apart-first l clause a k b (q ∙ sym e)))
weight-change values p was (suc k) (l ∷ clause) h a lk e =
    let n = ap literal_weight (literal-away values p was l (λ q. apart-first l clause a k (omega (arith, lk)) (e ∙ sym q))) in
    omega (arith, n, weight-change values p was k clause h (apart-rest l clause a) (omega (arith, lk)) e)

pub weight-some : (values : List ℕ) (clause : List ℤ) → 1 ≤ weight_of values clause
unfolding weight_of
weight-some values [] = omega arith
weight-some values (l ∷ clause) = omega (arith, weight-some values clause)

-- a literal weighs less than its clause
pub weight-low : (values : List ℕ) (p was k : ℕ) (clause : List ℤ) → p < length values → k < length clause → place_of (get_or clause k (pos 0)) ≡ p
    → suc (literal_weight (byte_says was (get_or clause k (pos 0)))) ≤ weight_of (set values p was) clause
unfolding weight_of
weight-low values p was k [] h lk e = absurd (omega arith)
weight-low values p was zero (l ∷ clause) h lk e =
    let o = ap literal_weight (literal-set values p was l h e) in omega (arith, o, weight-some (set values p was) clause)
weight-low values p was (suc k) (l ∷ clause) h lk e = omega (arith, weight-low values p was k clause h (omega (arith, lk)) e)

pub literal-weight-high : (t : Truth) → literal_weight t ≤ 2
unfolding literal_weight
literal-weight-high falsified = omega arith
literal-weight-high satisfied = omega arith
literal-weight-high unassigned = omega arith

pub weight-high : (values : List ℕ) (clause : List ℤ) → weight_of values clause ≤ 1 + length clause + length clause
unfolding weight_of
weight-high values [] = omega arith
weight-high values (l ∷ clause) = omega (arith, literal-weight-high (literal values l), weight-high values clause)

-- What the weight counts: where no literal is true, the open ones; else it is 3 or more.
abbrev empty : List ℤ → Bool
empty [] = true
empty (l ∷ ls) = false

data Counted (values : List ℕ) (clause : List ℤ) : Type 0 where
  some-true : any_true values clause ≡ true → all_false values clause ≡ false → 3 ≤ weight_of values clause → Counted values clause
  none_true : any_true values clause ≡ false → all_false values clause ≡ empty (open_of values clause)
      → weight_of values clause ≡ suc (length (open_of values clause)) → Counted values clause

count-false : (values : List ℕ) (l : ℤ) (clause : List ℤ) → literal values l ≡ falsified → Counted values clause → Counted values (l ∷ clause)
unfolding all any weight_of is_falsified is_satisfied literal_weight
count-false values l clause e (some-true a f h) =
    some-true (rw e a) (rw e f) (omega (arith, h, ap literal_weight e))
count-false values l clause e (none_true a f h) =
    let o : open_of values (l ∷ clause) ≡ open_of values clause = open-cons values l clause ∙ rw e refl in
    none_true (rw e a) (rw (e, o) f) (omega (arith, h, ap literal_weight e, ap length o))

count-true : (values : List ℕ) (l : ℤ) (clause : List ℤ) → literal values l ≡ satisfied → Counted values (l ∷ clause)
unfolding all any weight_of is_falsified is_satisfied literal_weight
count-true values l clause e =
    some-true (rw e refl) (rw e refl) (omega (arith, ap literal_weight e, weight-some values clause))

count-open : (values : List ℕ) (l : ℤ) (clause : List ℤ) → literal values l ≡ unassigned → Counted values clause → Counted values (l ∷ clause)
unfolding all any weight_of is_falsified is_satisfied literal_weight
count-open values l clause e (some-true a f h) =
    some-true (rw e a) (rw e refl) (omega (arith, h, ap literal_weight e))
count-open values l clause e (none_true a f h) =
    let o : open_of values (l ∷ clause) ≡ l ∷ open_of values clause = open-cons values l clause ∙ rw e refl in
    none_true (rw e a) (rw (e, o) refl) (omega (arith, h, ap literal_weight e, ap length o))

counted : (values : List ℕ) (clause : List ℤ) → Counted values clause
counted values [] = unfold all any open_of weight_of in none_true refl refl refl
counted values (l ∷ clause) = by (counted values clause) (literal values l) refl
  where
    by : Counted values clause → (t : Truth) → literal values l ≡ t → Counted values (l ∷ clause)
    by more falsified e = count-false values l clause e more
    by more satisfied e = count-true values l clause e
    by more unassigned e = count-open values l clause e more

-- the open literals of a clause that names no variable twice name none twice
away-cons : (p : ℕ) (l : ℤ) (ls : List ℤ) → (place_of l ≡ p → ⊥) → Away p ls → Away p (l ∷ ls)
away-cons p l ls n a zero b e = n e
away-cons p l ls n a (suc k) b e = a k (omega (arith, b)) e

open-away : (values : List ℕ) (p : ℕ) (clause : List ℤ) → Away p clause → Away p (open_of values clause)
open-away values p [] h = unfold open_of in h
open-away values p (l ∷ clause) h =
    rw (open-cons values l clause) (by (open-away values p clause (λ k b. h (suc k) (omega (arith, b)))) (literal values l))
  where
    by : Away p (open_of values clause) → (t : Truth) → Away p (opened t l (open_of values clause))
    by more falsified = more
    by more satisfied = more
    by more unassigned = away-cons p l (open_of values clause) (h 0 (omega arith)) more

apart_cons : (l : ℤ) (ls : List ℤ) → Away (place_of l) ls → Apart ls → Apart (l ∷ ls)
apart_cons l ls a h j zero b c e = absurd (omega (arith, b))
apart_cons l ls a h zero (suc k) b c e = a k (omega (arith, c)) (sym e)
apart_cons l ls a h (suc j) (suc k) b c e = h j k (omega (arith, b)) (omega (arith, c)) e

open-apart : (values : List ℕ) (clause : List ℤ) → Apart clause → Apart (open_of values clause)
open-apart values [] h = unfold open_of in h
open-apart values (l ∷ clause) h =
    rw (open-cons values l clause) (by (open-apart values clause (apart-rest l clause h)) (literal values l))
  where
    by : Apart (open_of values clause) → (t : Truth) → Apart (opened t l (open_of values clause))
    by more falsified = more
    by more satisfied = more
    by more unassigned = apart_cons l (open_of values clause) (open-away values (place_of l) clause (apart-first l clause h)) more

-- two open literals of different variables are no unit
only_none : (a b : ℤ) (ls : List ℤ) → (place_of a ≡ place_of b → ⊥) → only (a ∷ (b ∷ ls)) ≡ none
unfolding only all
only_none a b ls n = rw (bool_false (same_literal a b) (λ e. n (ap place_of (same_true a b e)))) refl

pub told-low : (w : ℕ) → w < 3 → told w ≡ w
unfolding told
told-low zero h = refl
told-low (suc zero) h = refl
told-low (suc (suc zero)) h = refl
told-low (suc (suc (suc w))) h = absurd (omega arith)

pub told-high : (w : ℕ) → 3 ≤ w → w < mixed → told w ≡ 3
unfolding told
told-high w l h = rw (lt-leb mixed w h, le-leb 3 w l) refl

told-mixed : (s : ℕ) → told (mixed + s) ≡ s
unfolding told
told-mixed s = rw (le-leb mixed (mixed + s) (omega arith)) (omega arith)

status-one : (values : List ℕ) (clause : List ℤ)
    → status_of values clause ≡ status_code (tell (all_false values clause) (cond (any_true values clause) none (only (open_of values clause))))
unfolding status_of
status-one values clause = ap status_code (seen_one values clause)

status-true : (values : List ℕ) (clause : List ℤ) → any_true values clause ≡ true → all_false values clause ≡ false → status_of values clause ≡ 3
unfolding status_code
status-true values clause a f = status-one values clause ∙ rw (a, f) refl

-- what the open literals show where none is true
status-open : (values : List ℕ) (clause ls : List ℤ) → open_of values clause ≡ ls → Apart ls → length ls < 32767 → any_true values clause ≡ false
    → all_false values clause ≡ empty (open_of values clause) → told (suc (length ls)) ≡ status_of values clause
unfolding status_code
status-open values clause [] o h b a f = told-low 1 (omega arith) ∙ sym (status-one values clause ∙ rw (f, a, o) refl)
status-open values clause (x ∷ []) o h b a f =
    told-low 2 (omega arith) ∙ sym (status-one values clause ∙ rw (f, a, o) (unfold only all in refl))
status-open values clause (x ∷ (y ∷ ls)) o h b a f =
    told-high _ (omega arith) (omega (arith, b))
    ∙ sym (status-one values clause ∙ rw (f, a, o, only_none x y ls (h 0 1 (omega arith) (omega arith))) refl)

-- where no variable is named twice the weight tells the status
pub weight-tells : (values : List ℕ) (clause : List ℤ) → length clause < limit → Apart clause → told (weight_of values clause) ≡ status_of values clause
weight-tells values clause l h = by (counted values clause)
  where
    by : Counted values clause → told (weight_of values clause) ≡ status_of values clause
    by (some-true a f g) = told-high _ g (omega (arith, weight-high values clause, l)) ∙ sym (status-true values clause a f)
    by (none_true a f e) =
        ap told e ∙ status-open values clause (open_of values clause) refl (open-apart values clause h)
        (omega (arith, e, weight-high values clause, l)) a f

pub stands-tells : (values : List ℕ) (clause : List ℤ) (w : ℕ) → length clause < limit → Stands values clause w → told w ≡ status_of values clause
stands-tells values clause w l (weighed a e) = ap told e ∙ weight-tells values clause l a
stands-tells values clause w l (looked e) = ap told e ∙ told-mixed (status_of values clause)
