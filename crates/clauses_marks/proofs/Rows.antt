-- The pairs and the literals of a row.
use mathlib.Core.Path.{◌≡◌, refl, sym, ap, ◌∙◌}
use mathlib.Core.List.{List, [], ◌∷◌, ◌++◌, map, append_assoc, append-nil, map-append}
use Prim.Native.Nat.{ℕ, zero, suc, ◌+◌, ◌*◌, ◌-◌, ◌≤◌, ◌<◌}
use native.Mathlib.Numerals.{add-one}
use native.Mathlib.Omega.{arith}
use lib.IntN.{ℤ, pos}
use lib.ListN.{length, get_or, take, drop, length-drop, drop_of_length-le}
use lib.Seq.{drop-cons, take_all, take-suc}
use Rattle.literal.specs.Literals.{Literal, opposite}
use Rattle.literal.specs.Words.{literal_of}
use Rattle.relational.specs.Matrices.{pairs}
use Rattle.clauses_rules.specs.Translation.{Two, absent}
use Rattle.clauses_rules.specs.Whole.{pair_clause, row_clauses}
use Rattle.clauses_emission.specs.declared.Tape.{Tape}
use Rattle.clauses_emission.specs.Emission.{Inside, AllInside, literals_of}
use Rattle.clauses_emission.proofs.Ranges.{literal-at}
use Rattle.clauses_marks.specs.Marking.{Members, Adds, pairs_with}
use Rattle.clauses_marks.proofs.Adding.{adds_none, adds-as, adds-most, adds_then}

-- ---- the pairs with one first member
pub with-next : (p : Literal) (ws : List ℤ) (k : ℕ) → k < length ws
    → map pair_clause (pairs_with p (literals_of (take k ws))) ++ ((opposite p ∷ opposite (literal_of (get_or ws k (pos 0))) ∷ []) ∷ [])
    ≡ map pair_clause (pairs_with p (literals_of (take (k + 1) ws)))
with-next p ws k h =
    let w = get_or ws k (pos 0) in
    let pair : Literal → Two = λ q. (p, q) in
    rw (add-one k)
    (sym
    (ap (λ (l : List ℤ). map pair_clause (pairs_with p (literals_of l))) (take-suc ws k (pos 0) h)
    ∙ ap (λ (l : List Literal). map pair_clause (pairs_with p l)) (map-append literal_of (take k ws) (w ∷ []))
    ∙ ap (map pair_clause) (map-append pair (literals_of (take k ws)) (literal_of w ∷ []))
    ∙ map-append pair_clause (pairs_with p (literals_of (take k ws))) (pair (literal_of w) ∷ [])))

pub with_all : (p : Literal) (ws : List ℤ) (k : ℕ) → length ws ≤ k
    → map pair_clause (pairs_with p (literals_of (take k ws))) ≡ map pair_clause (pairs_with p (literals_of ws))
with_all p ws k h = ap (λ (l : List ℤ). map pair_clause (pairs_with p (literals_of l))) (take_all k ws h)

-- ---- a row: literals by place, and the part after a place
pub literals-drop : (k : ℕ) (ws : List ℤ) → literals_of (drop k ws) ≡ drop k (literals_of ws)
literals-drop zero ws = refl
literals-drop (suc k) [] = refl
literals-drop (suc k) (w ∷ ws) = literals-drop k ws

-- a part as code takes it
pub part-is : (k : ℕ) (ws : List ℤ) → take (length ws - k) (drop k ws) ≡ drop k ws
part-is k ws = take_all (length ws - k) (drop k ws) (omega (arith, length-drop k ws))

drop-inside : (n k : ℕ) (ls : List Literal) → AllInside n ls → AllInside n (drop k ls)
drop-inside n zero ls h = h
drop-inside n (suc k) [] h = h
drop-inside n (suc k) (l ∷ ls) h = drop-inside n k ls (λ i. h (suc i))

module _ {most : ℕ} {ws : List ℤ} (m : Members most ws) where
  pub member-inside : (k : ℕ) → k < length ws → Inside 16002 (literal_of (get_or ws k (pos 0)))
  member-inside k h = rw (literal-at ws k h) at (m.inside k)

  pub members-after : (k n : ℕ) → most ≤ k + n → Members n (take (length ws - k) (drop k ws))
  members-after k n h =
      rw (part-is k ws)
      (record {
        few = omega (arith, m.few, length-drop k ws);
        inside = rw (literals-drop k ws) (drop-inside 16002 k (literals_of ws) m.inside);
      })

-- ---- the pairs of a row, by first member
pub pairs_next : (ls : List Literal) (k : ℕ) → k < length ls
    → pairs (drop k ls) ≡ pairs_with (get_or ls k absent) (drop (k + 1) ls) ++ pairs (drop (k + 1) ls)
pairs_next ls k h = rw (add-one k) (ap pairs (drop-cons ls k absent h))

pub with_rest : (ws : List ℤ) (k : ℕ) → k < length ws
    → pairs_with (literal_of (get_or ws k (pos 0))) (literals_of (take (length ws - (k + 1)) (drop (k + 1) ws)))
    ≡ pairs_with (get_or (literals_of ws) k absent) (drop (k + 1) (literals_of ws))
with_rest ws k h = rw (part-is (k + 1) ws, literals-drop (k + 1) ws, literal-at ws k h)

-- what is passed
pub record Paired (ls : List Literal) (k : ℕ) (old : List ℤ) (a : Tape) (new : List ℤ) (b : Tape) : Type 0 where
  pub done : List Two
  pub whole : pairs ls ≡ done ++ pairs (drop k ls)
  pub adds : Adds (21 * k) (map pair_clause done) old a new b

pub paired_none : (ls : List Literal) (list : List ℤ) (tape : Tape) → Paired ls 0 list tape list tape
paired_none ls list tape = record { done = []; whole = refl; adds = adds_none list tape }

pub paired-more : (ls : List Literal) (k : ℕ) {old mid new : List ℤ} {a b c : Tape} → Paired ls k old a mid b → k < length ls
    → Adds 21 (map pair_clause (pairs_with (get_or ls k absent) (drop (k + 1) ls))) mid b new c → Paired ls (k + 1) old a new c
paired-more ls k p h q =
    let row = pairs_with (get_or ls k absent) (drop (k + 1) ls) in
    record {
      done = p.done ++ row;
      whole =
          p.whole ∙ ap (λ (t : List Two). p.done ++ t) (pairs_next ls k h)
          ∙ sym (append_assoc p.done row (pairs (drop (k + 1) ls)));
      adds = adds-most (adds-as (adds_then p.adds q) (sym (map-append pair_clause p.done row))) (omega arith);
    }

pub paired-all : (ls : List Literal) (k : ℕ) {old new : List ℤ} {a b : Tape} → Paired ls k old a new b → length ls ≤ k → k ≤ 8
    → Adds 168 (map pair_clause (pairs ls)) old a new b
paired-all ls k p h l =
    let e : p.done ≡ pairs ls =
    sym (p.whole ∙ ap (λ (t : List Literal). p.done ++ pairs t) (drop_of_length-le ls h) ∙ append-nil p.done)
    in
    adds-most (adds-as p.adds (ap (map pair_clause) e)) (omega arith)

-- ---- the clauses of a row by its mark
module _ (members row : List Literal) (mark : ℕ) where
  pub free-row : mark ≡ 0 → [] ≡ row_clauses mark members row
  free-row e = rw e

  pub lone_row : mark ≡ 1 → map pair_clause (pairs row) ≡ row_clauses mark members row
  lone_row e = rw e

pub one-row : (members row : List Literal) (mark : ℕ) → (mark ≡ 0 → ⊥) → (mark ≡ 1 → ⊥)
    → map pair_clause (pairs row) ++ ((map opposite members ++ row) ∷ []) ≡ row_clauses mark members row
one-row members row zero a b = absurd (a refl)
one-row members row (suc zero) a b = absurd (b refl)
one-row members row (suc (suc m)) a b = refl

-- the whole row: its first literal and the others
pub whole_row : (ws : List ℤ) → 1 ≤ length ws
    → ◌≡◌ {A = List Literal} (literal_of (get_or ws 0 (pos 0)) ∷ literals_of (take (length ws - 1) (drop 1 ws))) (literals_of ws)
whole_row [] h = absurd (omega arith)
whole_row (w ∷ ws) h = ap (λ (l : List ℤ). literal_of w ∷ literals_of l) (part-is 1 (w ∷ ws))
