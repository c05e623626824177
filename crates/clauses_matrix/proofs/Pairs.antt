-- The pairs of a list's elements, passed in order by two numbers i < j, and the array of what is made of each.
use mathlib.Core.Path.{◌≡◌, refl, sym, ap, ◌∙◌}
use mathlib.Core.List.{List, [], ◌∷◌, ◌++◌, map, append_assoc, append-nil}
use Prim.Native.Nat.{ℕ, zero, suc, ◌+◌, ◌*◌, ◌≤◌, ◌<◌}
use native.Mathlib.Nat.{mul-le-mul_right}
use native.Mathlib.Numerals.{add-one}
use native.Mathlib.Omega.{arith}
use lib.IntN.{ℤ, negsuc}
use lib.ListN.{length, get_or, take, drop, set, replicate, length-append, length-map, length-set, length-replicate, drop_of_length-le}
use lib.Seq.{drop-cons}
use Rattle.literal.specs.Literals.{Literal, opposite}
use Rattle.relational.specs.Matrices.{pairs}
use Rattle.clauses_rules.specs.Builder.{Built, Builder, ◌>>=◌, ◌<$>◌, each}
use Rattle.clauses_rules.specs.Gates.{or, and}
use Rattle.clauses_rules.specs.Translation.{Two, absent, both, apart}
use Rattle.clauses_emission.specs.declared.Tape.{Tape}
use Rattle.clauses_emission.specs.declared.Pairing.TheVariants.{Both}
use Rattle.clauses_emission.specs.Emission.{AllInside, literals_of, Inputs, Bounded, Emits, EmitsLiteral}
use Rattle.clauses_emission.proofs.Ranges.{all-grows}
use Rattle.clauses_emission.proofs.Steps.{regular-each, regular-map, regular-pairing, emits-return, emits-bind, emits-map, emits-as}
use Rattle.clauses_emission.proofs.Steps.{each_more}
use Rattle.clauses_matrix.proofs.Fills.{all_set, cells-more, inputs-front, blank-inside}

-- ---- the pairs from i and j on
unfoldable pub rest : List Literal → ℕ → ℕ → List Two
rest ls i j = map {B = Two} (λ y. (get_or ls i absent, y)) (drop j ls) ++ pairs (drop (suc i) ls)

pairs-rest : (ls : List Literal) (m : ℕ) → pairs (drop m ls) ≡ rest ls m (suc m)
unfolding rest
pairs-rest [] zero = refl
pairs-rest [] (suc m) = refl
pairs-rest (l ∷ ls) zero = refl
pairs-rest (l ∷ ls) (suc m) = pairs-rest ls m

rest-next : (ls : List Literal) (i j : ℕ) → j < length ls → rest ls i j ≡ (get_or ls i absent, get_or ls j absent) ∷ rest ls i (suc j)
unfolding rest
rest-next ls i j h =
    ap (λ (l : List Literal). map {B = Two} (λ y. (get_or ls i absent, y)) l ++ pairs (drop (suc i) ls)) (drop-cons ls j absent h)

rest-wrap : (ls : List Literal) (i j : ℕ) → length ls ≤ j → rest ls i j ≡ rest ls (suc i) (suc (suc i))
unfolding rest
rest-wrap ls i j h =
    ap (λ (l : List Literal). map {B = Two} (λ y. (get_or ls i absent, y)) l ++ pairs (drop (suc i) ls)) (drop_of_length-le ls h)
    ∙ pairs-rest ls (suc i)

rest_end : (ls : List Literal) (i : ℕ) → length ls ≤ i → rest ls i (suc i) ≡ []
rest_end ls i h = sym (pairs-rest ls i) ∙ ap pairs (drop_of_length-le ls h)

pairs-count : (ls : List Literal) → 2 * length (pairs ls) + length ls ≡ length ls * length ls
pairs-count [] = refl
pairs-count (l ∷ ls) =
    let a = length-append (map {B = Two} (λ y. (l, y)) ls) (pairs ls) in
    let b = length-map {B = Two} ls (λ (y : Literal). (l, y)) in
    omega (arith, a, b, pairs-count ls)

pairs-few : (ls : List Literal) → length ls ≤ 64 → length (pairs ls) ≤ 2016
pairs-few ls h = omega (arith, pairs-count ls, mul-le-mul_right (length ls) h)

-- ---- what is passed
pub record Passed (ls : List Literal) (t i j : ℕ) (old : List ℤ) (a : Tape) (out new : List ℤ) (b : Tape) : Type 0 where
  pub done : List Two
  pub whole : pairs ls ≡ done ++ rest ls i j
  pub count : length done ≡ t
  pub room : length out ≡ 2016
  pub emits : Emits (each both done a.next) old a (literals_of (take t out)) new b (λ m. AllInside m (literals_of out))

pub passed_start : (ls : List Literal) (list : List ℤ) (tape : Tape) → Bounded tape → Passed ls 0 0 1 list tape (replicate 2016 (negsuc 0)) list tape
unfolding each
passed_start ls list tape b = record {
  done = [];
  whole = pairs-rest ls 0;
  count = refl;
  room = length-replicate 2016 (negsuc 0);
  emits = emits-return [] list tape b (blank-inside tape.next 2016 b.first);
}

module _ (ls : List Literal) (t i j : ℕ) {old mid : List ℤ} {a b : Tape} (out : List ℤ) (p : Passed ls t i j old a out mid b)
    (h : j < length ls) (few : length ls ≤ 64) where
  left_over : length (rest ls i j) ≡ suc (length (rest ls i (suc j)))
  left_over = ap length (rest-next ls i j h)

  pub passed-room : t < 2016
  passed-room =
      omega (arith, ap length p.whole, length-append p.done (rest ls i j), p.count, left_over, pairs-few ls few)

  module _ (w : ℤ) {new : List ℤ} {c : Tape}
      (q : EmitsLiteral (both (get_or ls i absent, get_or ls j absent) b.next) mid b w new c) where
    more : Emits (each both (p.done ++ ((get_or ls i absent, get_or ls j absent) ∷ [])) a.next) old a
        (literals_of (take (suc t) (set out t w))) new c (λ m. AllInside m (literals_of (set out t w)))
    more =
        let x : Two = (get_or ls i absent, get_or ls j absent) in
        let ys = literals_of (take t out) in
        let then : List Literal → Builder (List Literal) = λ zs. (λ z. zs ++ (z ∷ [])) <$> both x in
        emits-as (sym (each_more both p.done x a.next)) (cells-more t out w (omega (arith, passed-room, p.room)))
        (emits-bind (each both p.done) then (regular-each both (regular-pairing Both) p.done)
        (λ zs. regular-map (λ z. zs ++ (z ∷ [])) (both x) (regular-pairing Both x))
        p.emits
        (emits-map (λ z. ys ++ (z ∷ [])) (both x) q refl
        (all_set c.next out t w (all-grows (literals_of out) q.grows p.emits.fine) q.fine)))

    pub passed-right : Passed ls (t + 1) i (j + 1) old a (set out t w) new c
    passed-right =
        let x : Two = (get_or ls i absent, get_or ls j absent) in
        rw (add-one t, add-one j)
        (record {
          done = p.done ++ (x ∷ []);
          whole =
              p.whole
              ∙ ap (λ (r : List Two). p.done ++ r) (rest-next ls i j h)
              ∙ sym (append_assoc p.done (x ∷ []) (rest ls i (suc j)));
          count = omega (arith, length-append p.done (x ∷ []), p.count);
          room = length-set out t w ∙ p.room;
          emits = more;
        })

-- a row is passed
pub passed_down : (ls : List Literal) (t i j : ℕ) {old mid : List ℤ} {a b : Tape} (out : List ℤ) → Passed ls t i j old a out mid b
    → length ls ≤ j → Passed ls t (i + 1) ((i + 1) + 1) old a out mid b
passed_down ls t i j out p h =
    let f : (i + 1) + 1 ≡ suc (suc i) = omega arith in
    rw (f, add-one i)
    (record {
      done = p.done;
      whole = p.whole ∙ ap (λ (r : List Two). p.done ++ r) (rest-wrap ls i j h);
      count = p.count;
      room = p.room;
      emits = p.emits;
    })

-- both against apart: the same gates, the opposite literals
each_both : (ts : List Two) (g : ℕ) → each both ts g ≡ (map opposite <$> each apart ts) g
unfolding each
each_both [] g = refl
each_both (t ∷ ts) g =
    ap (λ (u : Built (List Literal)). record { value = (both t g).value ∷ u.value; gates = (both t g).gates ++ u.gates; next = u.next })
    (each_both ts (both t g).next)

-- AND over the pairs of OR(-p, -q) is the opposite of OR over them of AND(p, q)
pub never_both : (ts : List Two) (g : ℕ) → (opposite <$> (each both ts >>= or)) g ≡ (each apart ts >>= and) g
never_both ts g = ap (λ (u : Built (List Literal)). (opposite <$> ((λ h. u) >>= or)) g) (each_both ts g)

-- all are passed
pub passed-all : (ls : List Literal) (t i j : ℕ) {old new : List ℤ} {a b : Tape} (out : List ℤ) → Passed ls t i j old a out new b → length ls ≤ i
    → j ≡ i + 1
    → Emits (each both (pairs ls) a.next) old a (literals_of (take t out)) new b (λ m. AllInside m (literals_of out))
passed-all ls t i j {old} {new} {a} {b} out p h s =
    let last : rest ls i j ≡ [] = rw (s, add-one i) (rest_end ls i h) in
    let e : p.done ≡ pairs ls = sym (p.whole ∙ ap (λ (r : List Two). p.done ++ r) last ∙ append-nil p.done) in
    emits-as (ap (λ (ts : List Two). each both ts a.next) e) refl p.emits

pub passed-few : (ls : List Literal) (t i j : ℕ) {old new : List ℤ} {a b : Tape} (out : List ℤ) → Passed ls t i j old a out new b
    → length ls ≤ 64 → t ≤ 2016
passed-few ls t i j out p few = omega (arith, ap length p.whole, length-append p.done (rest ls i j), p.count, pairs-few ls few)

pub passed-inputs : (ls : List Literal) (t i j : ℕ) {old new : List ℤ} {a b : Tape} (out : List ℤ) → Passed ls t i j old a out new b
    → Inputs b.next (take t out)
passed-inputs ls t i j {old} {new} {a} {b} out p =
    inputs-front t b.next out p.emits.bounded.first (omega (arith, p.room)) p.emits.fine
