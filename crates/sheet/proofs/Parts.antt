-- The parts of the sheet that the readers get are its blocks.
use mathlib.Core.Path.{◌≡◌, refl, ◌∙◌, ap}
use mathlib.Core.List.{List}
use Prim.Native.Nat.{ℕ, ◌+◌, ◌-◌}
use native.Mathlib.Omega.{arith}
use lib.ListN.{take, drop}
use Rattle.sheet_rules.specs.Blocks.{length_at, block_at, after, relations_head, nodes_head, blocks_end, four_blocks, sheet_of}

module _ (s : List ℕ) where
  part-is : (head end : ℕ) → end ≡ after s head → take (end - (head + 2)) (drop (head + 2) s) ≡ block_at s head
  part-is head end e =
      let l : end - (head + 2) ≡ length_at s head = omega arith in
      rw l refl

  module _ (variables relations nodes end : ℕ) (ev : variables ≡ after s 1) (er : relations ≡ after s variables)
      (en : nodes ≡ after s relations) (ee : end ≡ after s nodes) where
    relations-head : relations ≡ relations_head s
    relations-head = er ∙ ap (after s) ev

    nodes-head : nodes ≡ nodes_head s
    nodes-head = en ∙ ap (after s) relations-head

    pub end_is : end ≡ blocks_end s
    end_is = ee ∙ ap (after s) nodes-head

    pub parts_are : four_blocks (take (variables - 3) (drop 3 s)) (take (relations - (variables + 2)) (drop (variables + 2) s))
        (take (nodes - (relations + 2)) (drop (relations + 2) s)) (take (end - (nodes + 2)) (drop (nodes + 2) s))
        ≡ sheet_of s
    parts_are =
        let p₁ = part-is 1 variables ev in
        let p₂ = part-is variables relations er ∙ ap (block_at s) ev in
        let p₃ = part-is relations nodes en ∙ ap (block_at s) relations-head in
        let p₄ = part-is nodes end ee ∙ ap (block_at s) nodes-head in
        λ i. four_blocks (p₁ i) (p₂ i) (p₃ i) (p₄ i)
