-- Lists of words, and arrays filled cell by cell.
use mathlib.Core.Path.{◌≡◌, sym, ap, ◌∙◌}
use mathlib.Core.List.{List, ◌++◌, map}
use Prim.Native.Nat.{ℕ, ◌+◌, ◌-◌, ◌≤◌, ◌<◌}
use native.Mathlib.Omega.{arith}
use native.Mathlib.Decide.{ℕ_discrete, dec_lt}
use lib.IntN.{ℤ, pos, negsuc}
use lib.ListN.{length, get_or, set, take, drop, replicate, length-set, length-map, get_or-replicate, length-replicate}
use lib.ListN.{get_or-eq_default, length-append, get_or-append}
use lib.Seq.{get_or-set_same, get_or-set_other, get_or-take, length-take-le, ext_get_or}
use Rattle.std.proofs.lemmas.List.{drop-replicate, get_or-append_right}
use Rattle.literal.specs.Literals.{Literal}
use Rattle.literal.specs.Words.{literal_of}
use Rattle.relational.specs.Matrices.{upto}
use Rattle.relational.proofs.Places.{upto-at, length-map-from}
use Rattle.clauses_rules.specs.Translation.{absent}
use Rattle.clauses_emission.specs.Emission.{Inside, literals_of}
use Rattle.clauses_matrix.specs.Matrices.{Cells, cells_of}
use Rattle.clauses_emission.proofs.Ranges.{literal-of, literal-at, inside-absent}
use Rattle.clauses_kinds.specs.Leaves.{Filled}

module _ (f : ℕ → Literal) where
  pub filled_none : Filled f 0 (replicate 64 (negsuc 0))
  filled_none =
      record {
        room = length-replicate 64 (negsuc 0);
        done = λ i h. absurd (omega arith);
        rest = λ i l h. get_or-replicate 64 i (negsuc 0) (pos 0) h;
      }

  pub filled_more : {k : ℕ} {ws : List ℤ} (w : ℤ) → Filled f k ws → k < 64 → literal_of w ≡ f k → Filled f (k + 1) (set ws k w)
  filled_more {k} {ws} w h l e =
      record {
        room = length-set ws k w ∙ h.room;
        done = λ i p. here i p (ℕ_discrete i k);
        rest = λ i p q. get_or-set_other ws k i w (pos 0) (λ z. absurd (omega arith)) ∙ h.rest i (omega arith) q;
      }
    where
      here : (i : ℕ) → i < k + 1 → Dec (i ≡ k) → literal_of (get_or (set ws k w) i (pos 0)) ≡ f i
      here i p (yes z) = rw z (ap literal_of (get_or-set_same ws k w (pos 0) (omega (arith, h.room))) ∙ e)
      here i p (no z) = ap literal_of (get_or-set_other ws k i w (pos 0) z) ∙ h.done i (omega arith)

  -- these words, and then -1s
  pub filled-front : {n : ℕ} (ws : List ℤ) → length ws ≡ n → n ≤ 64 → ((i : ℕ) → i < n → literal_of (get_or ws i (pos 0)) ≡ f i)
      → Filled f n (ws ++ drop n (replicate 64 (negsuc 0)))
  filled-front {n} ws e l h =
      let rest = replicate (64 - n) (negsuc 0) in
      rw (drop-replicate n 64 (negsuc 0))
      (record {
        room = length-append ws rest ∙ omega (arith, length-replicate (64 - n) (negsuc 0));
        done = λ i p. ap literal_of (get_or-append ws rest (pos 0) i (omega arith)) ∙ h i p;
        rest = λ i p q.
            get_or-append_right ws rest n i (pos 0) e p ∙ get_or-replicate (64 - n) (i - n) (negsuc 0) (pos 0) (omega arith);
      })

  -- the words that follow are -1s
  pub filled-wider : {k n : ℕ} {ws : List ℤ} → Filled f k ws → k ≤ n → n ≤ 64 → ((i : ℕ) → k ≤ i → i < n → f i ≡ absent)
      → Filled f n ws
  filled-wider {k} {n} {ws} h l m off =
      record { room = h.room; done = λ i p. at i p (dec_lt i k); rest = λ i p q. h.rest i (omega arith) q }
    where
      at : (i : ℕ) → i < n → Dec (i < k) → literal_of (get_or ws i (pos 0)) ≡ f i
      at i p (yes q) = h.done i q
      at i p (no q) = ap literal_of (h.rest i (omega arith) (omega arith)) ∙ sym (off i (omega arith) p)

  pub filled-cell : {n : ℕ} {ws : List ℤ} → Filled f n ws → n ≤ 64 → (i : ℕ) → i < n → get_or (cells_of n ws) i absent ≡ f i
  filled-cell {n} {ws} h l i p =
      let q : length (take n ws) ≡ n = length-take-le n ws (omega (arith, h.room)) in
      literal-at (take n ws) i (omega arith) ∙ ap literal_of (get_or-take n ws i (pos 0) p) ∙ h.done i p

  pub filled-length : {n : ℕ} {ws : List ℤ} → Filled f n ws → n ≤ 64 → length (cells_of n ws) ≡ n
  filled-length {n} {ws} h l = length-map (take n ws) literal_of ∙ length-take-le n ws (omega (arith, h.room))

  -- the cells are those of any list that has them
  pub filled_is : {n : ℕ} {ws : List ℤ} → Filled f n ws → n ≤ 64 → (ls : List Literal) → length ls ≡ n
      → ((i : ℕ) → i < n → get_or ls i absent ≡ f i) → cells_of n ws ≡ ls
  filled_is {n} {ws} h l ls p q =
      let e : length (cells_of n ws) ≡ n = filled-length h l in
      ext_get_or absent (cells_of n ws) ls (e ∙ sym p) λ i r. filled-cell h l i (omega arith) ∙ sym (q i (omega arith))

  pub filled-cells : {n : ℕ} {ws : List ℤ} → Filled f n ws → n ≤ 64 → cells_of n ws ≡ map f (upto n)
  filled-cells {n} h l = filled_is h l (map f (upto n)) (length-map-from f 0 n) λ i p. upto-at f absent n i p

  pub filled-fine : {n m : ℕ} {ws : List ℤ} → Filled f n ws → n ≤ 64 → 2 ≤ m → ((i : ℕ) → i < n → Inside m (f i))
      → Cells n m ws
  filled-fine {n} {m} {ws} h l two inside =
      record {
        room = h.room;
        small = l;
        rest = h.rest;
        inside = λ i. at i (dec_lt i 64) (dec_lt i n);
      }
    where
      at : (i : ℕ) → Dec (i < 64) → Dec (i < n) → Inside m (get_or (literals_of ws) i absent)
      at i (yes p) (yes q) = rw (literal-at ws i (omega (arith, h.room)), h.done i q) (inside i q)
      at i (yes p) (no q) = rw (literal-at ws i (omega (arith, h.room)), h.rest i (omega arith) p) (inside-absent m two)
      at i (no p) d = rw (← literal-of ws i, get_or-eq_default ws (negsuc 0) {n = i} (omega (arith, h.room))) (inside-absent m two)
