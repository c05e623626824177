-- Laws of elements stored one after the other (specs/Stores).
use mathlib.Core.Path.{◌≡◌, refl, sym, ap, ◌∙◌}
use mathlib.Core.List.{List, [], ◌∷◌, ◌++◌, append-nil, append_assoc}
use Prim.Native.Nat.{ℕ, zero, suc, ◌+◌, ◌-◌, ◌≤◌}
use native.Mathlib.Nat.{add-zero, not-suc-le-zero, le_of_suc-le-suc}
use native.Mathlib.Numerals.{add-one}
use native.Mathlib.Omega.{arith}
use lib.ListN.{length, set, take, drop, length-set, length-drop, drop_of_length-le}
use lib.Seq.{set_out, take_all, sets, sets-eq}
use Rattle.prelude.specs.Stores.{put_all}

module _ {A : Type 0} where
  pub length-put : (xs : List A) (at : ℕ) (ys : List A) → length (put_all xs at ys) ≡ length xs
  unfolding put_all
  length-put xs at [] = refl
  length-put xs at (y ∷ ys) = length-put (set xs at y) (at + 1) ys ∙ length-set xs at y

  pub put-none : (xs : List A) (at : ℕ) → put_all xs at [] ≡ xs
  unfolding put_all
  put-none xs at = refl

  pub put_one : (xs : List A) (at : ℕ) (y : A) → put_all xs at (y ∷ []) ≡ set xs at y
  unfolding put_all
  put_one xs at y = refl

  -- one element, and then the others
  pub put_next : (xs : List A) (at : ℕ) (y : A) (ys : List A) → put_all (set xs at y) (at + 1) ys ≡ put_all xs at (y ∷ ys)
  unfolding put_all
  put_next xs at y ys = refl

  -- some elements, and then others
  pub put_then : (xs : List A) (at : ℕ) (us ws : List A) → put_all (put_all xs at us) (at + length us) ws ≡ put_all xs at (us ++ ws)
  unfolding put_all
  put_then xs at [] ws = ap (λ (n : ℕ). put_all xs n ws) (add-zero at)
  put_then xs at (u ∷ us) ws =
      let shift : at + suc (length us) ≡ (at + 1) + length us = omega arith in
      ap (λ (n : ℕ). put_all (put_all (set xs at u) (at + 1) us) n ws) shift ∙ put_then (set xs at u) (at + 1) us ws

  -- what lies past the end is not stored
  pub put-past : (xs : List A) (at : ℕ) (ys : List A) → length xs ≤ at → put_all xs at ys ≡ xs
  unfolding put_all
  put-past xs at [] h = refl
  put-past xs at (y ∷ ys) h = rw (set_out xs at y h) (put-past xs (at + 1) ys (omega arith))

  -- where there is room, the elements stand between what was there
  pub put-sets : (xs : List A) (at : ℕ) (ys : List A) → put_all xs at ys ≡ sets xs at ys
  unfolding put_all
  put-sets xs at [] = refl
  put-sets xs at (y ∷ ys) = put-sets (set xs at y) (at + 1) ys ∙ ap (λ (n : ℕ). sets (set xs at y) n ys) (add-one at)

  pub put-between : (xs : List A) (at : ℕ) (ys : List A) → at + length ys ≤ length xs
      → put_all xs at ys ≡ take at xs ++ (ys ++ drop (at + length ys) xs)
  put-between xs at ys h = put-sets xs at ys ∙ sets-eq ys xs at h ∙ append_assoc (take at xs) ys (drop (at + length ys) xs)

  pub put_front : (xs ys : List A) → length ys ≤ length xs → put_all xs 0 ys ≡ ys ++ drop (length ys) xs
  put_front xs ys h =
      let z : 0 + length ys ≡ length ys = omega arith in
      put-between xs 0 ys (omega arith) ∙ ap (λ (n : ℕ). ys ++ drop n xs) z

  -- stored in the part from a place on
  put-cons : (x : A) (xs : List A) (at : ℕ) (ys : List A) → put_all (x ∷ xs) (suc at) ys ≡ x ∷ put_all xs at ys
  unfolding put_all
  put-cons x xs at [] = refl
  put-cons x xs at (y ∷ ys) =
      let shift : suc at + 1 ≡ suc (at + 1) = omega arith in
      ap (λ (n : ℕ). put_all (x ∷ set xs at y) n ys) shift ∙ put-cons x (set xs at y) (at + 1) ys

  pub put-part : (xs : List A) (at : ℕ) (ys : List A) → at ≤ length xs → take at xs ++ put_all (drop at xs) 0 ys ≡ put_all xs at ys
  put-part xs zero ys h = refl
  put-part [] (suc at) ys h = absurd (not-suc-le-zero h)
  put-part (x ∷ xs) (suc at) ys h =
      ap (λ (l : List A). x ∷ l) (put-part xs at ys (le_of_suc-le-suc h)) ∙ sym (put-cons x xs at ys)

  -- what comes home after the part from a place on was lent
  pub put-home : (xs : List A) (at : ℕ) (ys new : List A) → at ≤ length xs → new ≡ put_all (take (length xs - at) (drop at xs)) 0 ys
      → take at xs ++ (new ++ drop (length xs - at) (drop at xs)) ≡ put_all xs at ys
  put-home xs at ys new h e =
      let l : length (drop at xs) ≤ length xs - at = omega (arith, length-drop at xs) in
      let d : drop (length xs - at) (drop at xs) ≡ [] = drop_of_length-le (drop at xs) l in
      let t : take (length xs - at) (drop at xs) ≡ drop at xs = take_all (length xs - at) (drop at xs) l in
      rw (d, append-nil, e, t) (put-part xs at ys h)
