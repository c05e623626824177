-- A matrix that is filled place by place.
use Rattle.std.proofs.Common.{◌≡◌, ℕ, ◌+◌, ◌*◌, ◌/◌, ◌%◌, ◌<◌, ◌≤◌, List, map, length, get_or, take, sym, ap, ◌∙◌, ℤ, pos, negsuc, arith}
use mathlib.Core.Logic.{⊎_elim}
use native.Mathlib.Nat.{div-add-mod'}
use lib.Seq.{ext_get_or, get_or-take, length-take-le}
use lib.ListN.{length-map}
use Rattle.literal.specs.Literals.{Literal}
use Rattle.literal.specs.Words.{literal_of}
use Rattle.relational.specs.Matrices.{Place, places}
use Rattle.relational.proofs.Places.{length-places, places-at, row_below, column-below}
use Rattle.clauses_rules.specs.Translation.{absent}
use Rattle.clauses_emission.specs.Emission.{Inside}
use Rattle.clauses_emission.proofs.Ranges.{get_d_any, literal-of, inside-absent}
use Rattle.clauses_matrix.specs.Matrices.{cells_of, Cells}
use Rattle.clauses_matrix.proofs.Fills.{below-or-past}

module _ (r c : ℕ) (ws : List ℤ) (g : Place → Literal) (long : length ws ≡ 64) (small : r * c ≤ 64)
    (each : (i j : ℕ) → i < r → j < c → literal_of (get_or ws (i * c + j) (negsuc 0)) ≡ g (i, j))
    (past : (k : ℕ) → r * c ≤ k → get_or ws k (negsuc 0) ≡ negsuc 0) where
  at-number : (k : ℕ) → k < r * c → literal_of (get_or ws k (negsuc 0)) ≡ g (k / c, k % c)
  at-number k h =
      ap (λ (i : ℕ). literal_of (get_or ws i (negsuc 0))) (sym (div-add-mod' k c))
      ∙ each (k / c) (k % c) (row_below r c k h) (column-below r c k h)

  count : length (take (r * c) ws) ≡ r * c
  count = length-take-le (r * c) ws (omega (arith, long))

  pub placed-cells : cells_of (r * c) ws ≡ map g (places r c)
  placed-cells =
      ext_get_or absent (cells_of (r * c) ws) (map g (places r c))
      (length-map (take (r * c) ws) literal_of ∙ count ∙ sym (length-places g r c))
      (λ k l.
      let h : k < r * c = omega (arith, length-map (take (r * c) ws) literal_of, count) in
      sym (literal-of (take (r * c) ws) k) ∙ ap literal_of (get_or-take (r * c) ws k (negsuc 0) h) ∙ at-number k h
      ∙ sym (places-at g absent r c (k / c) (k % c) (row_below r c k h) (column-below r c k h))
      ∙ ap (λ (i : ℕ). get_or (map g (places r c)) i absent) (div-add-mod' k c))

  pub placed : (n : ℕ) → 2 ≤ n → ((i j : ℕ) → i < r → j < c → Inside n (g (i, j))) → Cells (r * c) n ws
  placed n low inside =
      record {
        room = long;
        small = small;
        rest = λ k l m. get_d_any ws k (pos 0) (negsuc 0) (omega (arith, long)) ∙ past k l;
        inside = λ k.
            rw (← literal-of ws k)
            (⊎_elim (λ (h : k < r * c). rw (at-number k h) (inside (k / c) (k % c) (row_below r c k h) (column-below r c k h)))
            (λ (l : r * c ≤ k). rw (past k l) (inside-absent n low)) (below-or-past k (r * c)));
      }
