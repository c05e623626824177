-- The order of instances and of assignments (document 02, Change 5): each is a list of bytes, one for each cell or variable.
use Rattle.std.specs.Prelude.{◌≡◌, ◌⊎◌, List, [], ◌∷◌, ℕ}

-- "Order instances by their cells in variable order, 0 before 1": of two lists of one length, where they first differ, the one that comes
-- before has 0 and the other 1
unfoldable pub Before : List ℕ → List ℕ → Type 0
Before [] ys = ⊥
Before (x ∷ xs) [] = ⊥
Before (x ∷ xs) (y ∷ ys) = ((x ≡ 0) × (y ≡ 1)) ⊎ ((x ≡ y) × Before xs ys)

-- none of those that have a property comes before this one
abbrev pub NoneBefore : (List ℕ → Type 0) → List ℕ → Type 0
NoneBefore P xs = (other : List ℕ) → P other → Before other xs → ⊥

-- a property of each of a list, and of one of it
unfoldable pub Each : {A : Type 0} → (A → Type 0) → List A → Type 0
Each P [] = Unit {0}
Each P (x ∷ xs) = P x × Each P xs

unfoldable pub Some : {A : Type 0} → (A → Type 0) → List A → Type 0
Some P [] = ⊥
Some P (x ∷ xs) = P x ⊎ Some P xs

-- of any two of a list, the earlier stands so to the later
unfoldable pub Pairs : {A : Type 0} → (A → A → Type 0) → List A → Type 0
Pairs R [] = Unit {0}
Pairs R (x ∷ xs) = Each (R x) xs × Pairs R xs

-- a list of those that have a property, as far as it goes: each of them has it, they stand in ascending order, each once, and one that is not
-- among them comes after all of them
pub record Lists (P : List ℕ → Type 0) (listed : List (List ℕ)) : Type 0 where
  pub each : Each P listed
  pub ascending : Pairs Before listed
  pub different : Pairs (λ xs ys. xs ≡ ys → ⊥) listed
  pub others_later : (other : List ℕ) → P other → (Some (λ xs. xs ≡ other) listed) ⊎ (Each (λ xs. Before xs other) listed)
