-- The table of the variables of the first literals, literal by literal.
use mathlib.Core.Path.{◌≡◌, refl, sym, ap, ◌∙◌}
use mathlib.Core.Bool.{Bool, true, false, not, ◌&&◌, ◌||◌, or-true}
use mathlib.Core.List.{List, [], ◌∷◌, ◌++◌}
use mathlib.Core.Logic.{⊎_elim}
use Prim.Native.Nat.{ℕ, zero, suc, ◌+◌, ◌≤◌, ◌<◌}
use native.Mathlib.Numerals.{add-one}
use native.Mathlib.Omega.{arith}
use lib.Dec.{eqb}
use lib.IntN.{ℤ, pos}
use lib.ListN.{length, get_or, set, take, drop, replicate, length-set}
use lib.Seq.{take-suc, split_at, get_or-set_same, get_or-set_other}
use borrow.Author.Tests.{eqb-true, eqb-false, not-false}
use Rattle.prelude.specs.Tests.{any}
use Rattle.prelude.proofs.Laws.{clash, and_left, and_both, and-rest, or_left, or_right, or_cases, any_append, any_at}
use Rattle.literal.specs.Literals.{is_literal}
use Rattle.literal.proofs.Words.{literal-low, literal-high}
use Rattle.search_rules.specs.Rules.{same_literal, place_of}
use Rattle.search_rules.specs.Held.{strays, repeats, goes_with, contradicts, on_trail}
use Rattle.search_rules.proofs.Booleans.{and-true, or-false}
use Rattle.search_rules.proofs.Found.{place-below}
use Rattle.search_state.specs.Inner.{Empty, faulty, Marked}
use Rattle.search_state.proofs.Tests.{any-take, any-weaker, get_d_any}
use Rattle.search_state.proofs.Literals.{same_place, same-literal}

or_nothing : (b : Bool) → b || false ≡ b
or_nothing true = refl
or_nothing false = refl

-- a literal that stands among those before it
repeats-at : (xs : List ℤ) (l : ℤ) (ys : List ℤ) → any (λ k. same_literal k l) xs ≡ true → repeats (xs ++ (l ∷ ys)) ≡ true
unfolding repeats any
repeats-at [] l ys e = clash false e refl
repeats-at (x ∷ xs) l ys e =
    ⊎_elim
    (λ s. or_left (any (same_literal x) (xs ++ (l ∷ ys))) _ (again s))
    (λ s. or_right (any (same_literal x) (xs ++ (l ∷ ys))) _ (repeats-at xs l ys s))
    (or_cases (same_literal x l) _ e)
  where
    again : same_literal x l ≡ true → any (same_literal x) (xs ++ (l ∷ ys)) ≡ true
    again s = rw (any_append (same_literal x) xs (l ∷ ys)) (or_right (any (same_literal x) xs) _ (or_left (same_literal x l) _ s))

-- one that does not
repeats-more : (xs : List ℤ) (l : ℤ) → repeats xs ≡ false → any (λ k. same_literal k l) xs ≡ false → repeats (xs ++ (l ∷ [])) ≡ false
unfolding repeats any
repeats-more [] l e f = refl
repeats-more (x ∷ xs) l e f =
    let b = or-false (any (same_literal x) xs) (repeats xs) e in
    let d = or-false (same_literal x l) (any (λ k. same_literal k l) xs) f in
    rw (any_append (same_literal x) xs (l ∷ []), b.0, d.0) (repeats-more xs l b.1 d.1)

-- a literal of the variables that goes with its value
abbrev pub agrees_with : List ℕ → ℤ → Bool
agrees_with values l = is_literal (length values) l && goes_with l (get_or values (place_of l) 2)

-- two such literals of one variable are the same literal
same-variable : (values : List ℕ) (k l : ℤ) → agrees_with values k ≡ true → agrees_with values l ≡ true → place_of k ≡ place_of l
    → same_literal k l ≡ true
same-variable values k l a b e =
    let g = and-true (is_literal (length values) k) _ a in
    let h = and-true (is_literal (length values) l) _ b in
    same-literal k l (get_or values (place_of l) 2) (literal-low (length values) k g.0) (literal-low (length values) l h.0) e
    (rw e at g.1) h.1

-- a variable that is on the trail already: its literal stands there
among : (values : List ℕ) (l : ℤ) → agrees_with values l ≡ true → (xs : List ℤ) → strays (length values) xs ≡ false
    → contradicts values xs ≡ false → on_trail xs (place_of l) ≡ true → any (λ k. same_literal k l) xs ≡ true
unfolding any
among values l a [] s c e = e
among values l a (x ∷ xs) s c e =
    let q = or-false (not (is_literal (length values) x)) _ s in
    let d = or-false (not (goes_with x (get_or values (place_of x) 2))) _ c in
    let b = and_both (is_literal (length values) x) _ (not-false _ q.0) (not-false _ d.0) in
    ⊎_elim
    (λ h. or_left (same_literal x l) _ (same-variable values x l b a (eqb-true (place_of x) (place_of l) h)))
    (λ h. or_right (same_literal x l) _ (among values l a xs q.1 d.1 h))
    (or_cases (eqb (place_of x) (place_of l)) _ e)

pub place-within : (values : List ℕ) (l : ℤ) → is_literal (length values) l ≡ true → place_of l < length values
place-within values l e = place-below (length values) l (literal-low (length values) l e, literal-high (length values) l e)

-- the answer of `agrees`: z is the literal as the machine has it, p its place
pub agrees_at : (values : List ℕ) (z l : ℤ) (p : ℕ) → z ≡ l → p ≡ place_of l → is_literal (length values) l ≡ true
    → goes_with z (get_or values p 0) ≡ agrees_with values l
agrees_at values z l p e d is = rw (e, d, get_d_any values (place_of l) 0 2 (place-within values l is)) (sym (and-rest _ _ is))

-- the empty table, for no literal
no-mark : (n i : ℕ) → get_or (replicate n false) i false ≡ false
no-mark zero i = refl
no-mark (suc n) zero = refl
no-mark (suc n) (suc i) = no-mark n i

pub marked-none : (values : List ℕ) (literals : List ℤ) (seen : List Bool) → Empty seen → length values ≤ length seen
    → Marked values (take 0 literals) seen
unfolding repeats any
marked-none values literals seen e long = record {
  long = long;
  within = refl;
  apart = refl;
  agree = refl;
  marks = λ i. ap (λ (t : List Bool). get_or t i false) e ∙ no-mark (length seen) i;
}

-- the literal behind the first k
module _ (values : List ℕ) (literals : List ℤ) (k : ℕ) (h : k < length literals) (l : ℤ) (is : get_or literals k (pos 0) ≡ l) where
  pub disagrees : agrees_with values l ≡ false → faulty values literals ≡ true
  disagrees e = by (is_literal (length values) l) refl e
    where
      strays-at : is_literal (length values) l ≡ false → strays (length values) literals ≡ true
      strays-at f = any_at (λ l. not (is_literal (length values) l)) literals k (pos 0) h (rw is (ap not f))

      contradicts-at : goes_with l (get_or values (place_of l) 2) ≡ false → contradicts values literals ≡ true
      contradicts-at f = any_at (λ l. not (goes_with l (get_or values (place_of l) 2))) literals k (pos 0) h (rw is (ap not f))

      by : (b : Bool) → is_literal (length values) l ≡ b → b && goes_with l (get_or values (place_of l) 2) ≡ false → faulty values literals ≡ true
      by true d e = or_right (strays (length values) literals) _ (or_right (repeats literals) _ (contradicts-at e))
      by false d e = or_left (strays (length values) literals) _ (strays-at d)

  module _ (seen : List Bool) (m : Marked values (take k literals) seen) (a : agrees_with values l ≡ true) where
    pub twice : get_or seen (place_of l) false ≡ true → faulty values literals ≡ true
    twice e =
        let t = among values l a (take k literals) m.within m.agree (sym (m.marks (place_of l)) ∙ e) in
        let r = repeats-at (take k literals) l (drop (suc k) literals) t in
        or_right (strays (length values) literals) _ (or_left (repeats literals) _ (rw (← split) at r))
      where
        split : literals ≡ take k literals ++ (l ∷ drop (suc k) literals)
        split = rw is at (split_at literals k (pos 0) h)

    new : get_or seen (place_of l) false ≡ false → repeats (take (k + 1) literals) ≡ false
    new e =
        let o = sym (m.marks (place_of l)) ∙ e in
        let t = any-weaker (λ x. same_literal x l) (λ x. eqb (place_of x) (place_of l)) (take k literals) (λ x. same_place x l) o in
        rw (add-one k, take-suc literals k (pos 0) h, is) (repeats-more (take k literals) l m.apart t)

    marks-more : (i : ℕ) → get_or (set seen (place_of l) true) i false ≡ on_trail (take (k + 1) literals) i
    unfolding any
    marks-more i =
        rw (add-one k, take-suc literals k (pos 0) h, is, any_append (λ x. eqb (place_of x) i) (take k literals) (l ∷ []), ← (m.marks i))
        (by (eqb (place_of l) i) refl)
      where
        at : place_of l < length seen
        at = omega (arith, place-within values l (and_left (is_literal (length values) l) _ a), m.long)

        by : (b : Bool) → eqb (place_of l) i ≡ b → get_or (set seen (place_of l) true) i false ≡ (get_or seen i false || (b || false))
        by true e = rw (← (eqb-true (place_of l) i e)) (get_or-set_same seen (place_of l) true false at ∙ sym (or-true (get_or seen (place_of l) false)))
        by false e = get_or-set_other seen (place_of l) i true false (λ d. eqb-false (place_of l) i e (sym d)) ∙ sym (or_nothing (get_or seen i false))

    pub marked_more : get_or seen (place_of l) false ≡ false
        → Marked values (take (k + 1) literals) (set seen (place_of l) true)
    marked_more e =
        let g = and-true (is_literal (length values) l) _ a in
        record {
          long = simp length-set m.long;
          within = any-take (λ l. not (is_literal (length values) l)) literals k (pos 0) h m.within (rw is (ap not g.0));
          apart = new e;
          agree = any-take (λ l. not (goes_with l (get_or values (place_of l) 2))) literals k (pos 0) h m.agree (rw is (ap not g.1));
          marks = marks-more;
        }
