-- An array that is filled with a table, entry by entry.
use mathlib.Core.Path.{◌≡◌, sym, ap, ◌∙◌}
use mathlib.Core.Bool.{Bool}
use mathlib.Core.List.{List}
use Prim.Native.Nat.{ℕ, suc, ◌+◌, ◌<◌, ◌≤◌}
use native.Mathlib.Omega.{arith}
use native.Mathlib.Numerals.{add-one}
use native.Mathlib.Decide.{ℕ_discrete, dec_lt}
use lib.ListN.{length, get_or, set, take, replicate, length-replicate, get_or-replicate, get_or-eq_default}
use lib.Seq.{get_or-set_same, get_or-set_other, length-take-le}
use Rattle.std.proofs.lemmas.List.{get_or-take}
use Rattle.prelude.specs.Tests.{all, each}
use Rattle.prelude.proofs.Laws.{each-cong}
use Rattle.prelude.proofs.Chains.{all-is, all-each}
use Rattle.sheet_rules.specs.Tables.{table}
use Rattle.sheet.specs.Filling.{Fills}
use Rattle.sheet_rules.proofs.TableLaws.{table-length, table-old, table-new}

pub get-past : {A : Type 0} (xs : List A) (d : A) (i : ℕ) → length xs ≤ i → get_or xs i d ≡ d
get-past xs d i h = get_or-eq_default xs d {n = i} h

pub get_replicate : {A : Type 0} (n : ℕ) (d : A) (i : ℕ) → get_or (replicate n d) i d ≡ d
get_replicate n d i = go (dec_lt i n)
  where
    go : Dec (i < n) → get_or (replicate n d) i d ≡ d
    go (yes h) = get_or-replicate n i d d h
    go (no h) = get-past (replicate n d) d i (omega (arith, length-replicate n d))

module _ {A B : Type 0} (f : A → B) (d : A) (step : ℕ → List A → A) where
  pub fills-none : (n : ℕ) → Fills f d (table step 0) (replicate n (f d))
  unfolding table
  fills-none n = record { at = λ i. get_replicate n (f d) i }

  pub fills-more : (v : ℕ) (array : List B) (z : B) → v < length array → Fills f d (table step v) array
      → z ≡ f (step v (table step v)) → Fills f d (table step (v + 1)) (set array v z)
  fills-more v array z h e q = rw add-one (record { at = λ i. go i (ℕ_discrete i v) (dec_lt i v) })
    where
      go : (i : ℕ) → Dec (i ≡ v) → Dec (i < v) → get_or (set array v z) i (f d) ≡ f (get_or (table step (suc v)) i d)
      go i (yes p) l = rw (p, get_or-set_same array v z (f d) h, table-new step d v) q
      go i (no p) (yes l) = rw (get_or-set_other array v i z (f d) p, table-old step d v i l) (e.at i)
      go i (no p) (no l) =
          rw (get_or-set_other array v i z (f d) p, get-past (table step (suc v)) d i (omega (arith, table-length step (suc v))))
          (e.at i ∙ ap f (get-past (table step v) d i (omega (arith, table-length step v))))

-- what is asked of the front of the array is asked of the table
pub filled_all : {A : Type 0} (p : A → Bool) (d : A) (n : ℕ) (entries array : List A) → Fills (λ x. x) d entries array → n ≤ length array
    → all p (take n array) ≡ each n (λ i. p (get_or entries i d))
filled_all p d n entries array f h =
    sym (all-is p (take n array))
    ∙ all-each p d (take n array)
    ∙ ap (λ (k : ℕ). each k (λ i. p (get_or (take n array) i d))) (length-take-le n array h)
    ∙ each-cong _ _ n (λ i l. ap p (get_or-take n array i d l ∙ f.at i))
