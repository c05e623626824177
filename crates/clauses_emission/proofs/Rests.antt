-- A list that is changed from the front on, while what lies behind is read: as long as nothing behind place k is changed, it is
-- what it was.
use mathlib.Core.Path.{◌≡◌, sym, ap, ◌∙◌}
use mathlib.Core.List.{List}
use Prim.Native.Nat.{ℕ, ◌+◌, ◌≤◌}
use native.Mathlib.Nat.{add-zero}
use native.Mathlib.Omega.{arith}
use lib.IntN.{ℤ, pos}
use lib.ListN.{get_or, drop, set}
use lib.Seq.{drop-set-lt, get_or-drop, drop-drop}

pub rest_at : (xs ys : List ℤ) (k : ℕ) → drop k xs ≡ drop k ys → get_or xs k (pos 0) ≡ get_or ys k (pos 0)
rest_at xs ys k e = sym (at xs) ∙ ap (λ (t : List ℤ). get_or t 0 (pos 0)) e ∙ at ys
  where
    at : (zs : List ℤ) → get_or (drop k zs) 0 (pos 0) ≡ get_or zs k (pos 0)
    at zs = get_or-drop k zs 0 (pos 0) ∙ ap (λ (n : ℕ). get_or zs n (pos 0)) (add-zero k)

pub rest-next : (xs ys : List ℤ) (k : ℕ) → drop k xs ≡ drop k ys → drop (k + 1) xs ≡ drop (k + 1) ys
rest-next xs ys k e = sym (drop-drop 1 k xs) ∙ ap (drop 1) e ∙ drop-drop 1 k ys

pub rest-set : (xs ys : List ℤ) (k at : ℕ) (w : ℤ) → at ≤ k → drop k xs ≡ drop k ys → drop (k + 1) (set xs at w) ≡ drop (k + 1) ys
rest-set xs ys k at w h e = drop-set-lt (k + 1) xs at w (omega arith) ∙ rest-next xs ys k e
