-- The clause lists of document 01's marked cases that more than one crate shows, as words.
use Rattle.std.specs.Prelude.{List, [], ◌∷◌, ℤ, pos, negsuc}

-- K1: (1) (4 -2) (4 -3) (-4 2 3) (4): "The list has 14 words."
abbrev pub k1 : List ℤ
k1 = pos 1 ∷ pos 1 ∷ pos 2 ∷ pos 4 ∷ negsuc 1 ∷ pos 2 ∷ pos 4 ∷ negsuc 2 ∷ pos 3 ∷ negsuc 3 ∷ pos 2 ∷ pos 3 ∷ pos 1 ∷ pos 4 ∷ []

-- K2 and K3: (1) (-2 -3) (2 3) (4 -2) (4 -3) (-4 2 3) and the root's literal, 4 in K2 and -4 in K3
abbrev pub k2 : ℤ → List ℤ
k2 root =
    pos 1 ∷ pos 1 ∷ pos 2 ∷ negsuc 1 ∷ negsuc 2 ∷ pos 2 ∷ pos 2 ∷ pos 3 ∷ pos 2 ∷ pos 4 ∷ negsuc 1 ∷ pos 2 ∷ pos 4 ∷ negsuc 2
    ∷ pos 3 ∷ negsuc 3 ∷ pos 2 ∷ pos 3 ∷ pos 1 ∷ root ∷ []
