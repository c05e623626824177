-- The blocks of an accepted sheet are the parts that its layout names.
use mathlib.Core.Path.{◌≡◌, refl, ap, ◌∙◌}
use mathlib.Core.List.{List}
use Prim.Native.Nat.{ℕ, ◌+◌, ◌*◌, ◌/◌, ◌%◌, ◌≤◌}
use native.Mathlib.Nat.{div-add-mod}
use native.Mathlib.Omega.{arith}
use lib.Dec.{eqb}
use lib.ListN.{length, take, drop, length-drop}
use lib.Seq.{length-take-le}
use borrow.Author.Tests.{eqb-true}
use Rattle.prelude.proofs.Laws.{and_left, and_right}
use Rattle.sheet_rules.specs.declared.Layout.{Layout}
use Rattle.sheet_rules.specs.Blocks.{length_at, block_at, after, variables_head, relations_head, nodes_head, blocks_end, sheet_of}
use Rattle.sheet_rules.specs.Blocks.{sort_count, relation_count, node_count}
use Rattle.sheet_rules.specs.Reading.{accepted, reading}
use Rattle.sheet_rules.proofs.Acceptance.{conditions, accepted-facts, accepted-layout}

-- a block of n bytes stands at a place
pub record At (s : List ℕ) (place n : ℕ) (block : List ℕ) : Type 0 where
  pub inside : place + n ≤ length s
  pub is : take n (drop place s) ≡ block

pub record Placed (s : List ℕ) (l : Layout) : Type 0 where
  pub sorts : At s l.sorts.start l.sorts.count (sheet_of s).sorts
  pub variables : At s l.variables.start l.variables.count (sheet_of s).variables
  pub relations : At s l.relations.start (4 * l.relations.count) (sheet_of s).relations
  pub nodes : At s l.nodes.start (3 * l.nodes.count) (sheet_of s).nodes

module _ (s : List ℕ) where
  -- a block that ends within the sheet has its length, and stands after its head
  block-length : (head : ℕ) → after s head ≤ length s → length (block_at s head) ≡ length_at s head
  block-length head h =
      length-take-le (length_at s head) (drop (head + 2) s) (let e = length-drop (head + 2) s in omega arith)

  block-at : (head place n : ℕ) → after s head ≤ length s → place ≡ head + 2 → n ≡ length (block_at s head) → At s place n (block_at s head)
  block-at head place n h p q =
      let e = q ∙ block-length head h in
      record { inside = omega arith; is = rw (p, e) }

module _ (s : List ℕ) (l : Layout) (taken : reading s ≡ accepted l) where
  whole-count : (n k : ℕ) → n % k ≡ 0 → k * (n / k) ≡ n
  whole-count n k e = let d = div-add-mod n k in omega arith

  pub placed : Placed s l
  placed =
      let k = conditions s l taken in
      let e = accepted-layout s l taken in
      let f : blocks_end s ≡ length s = eqb-true _ _ k.is_filled in
      let r : length (sheet_of s).relations % 4 ≡ 0 = eqb-true _ _ (and_left _ _ k.is_whole) in
      let n : length (sheet_of s).nodes % 3 ≡ 0 = eqb-true _ _ (and_right (eqb (length (sheet_of s).relations % 4) 0) _ k.is_whole) in
      let a : after s 1 ≤ length s = omega arith in
      let b : after s (variables_head s) ≤ length s = omega arith in
      let c : after s (relations_head s) ≤ length s = omega arith in
      let d : after s (nodes_head s) ≤ length s = omega arith in
      let la = block-length s 1 a in
      let lb = block-length s (variables_head s) b in
      let lc = block-length s (relations_head s) c in
      rw e
      record {
        sorts = block-at s 1 _ _ a refl refl;
        variables = block-at s (variables_head s) _ _ b (omega arith) refl;
        relations = block-at s (relations_head s) _ _ c (omega arith) (whole-count _ 4 r);
        nodes = block-at s (nodes_head s) _ _ d (omega arith) (whole-count _ 3 n);
      }

  -- the counts of the layout are those of the sheet
  pub sorts-counted : l.sorts.count ≡ sort_count (sheet_of s)
  sorts-counted = ap (λ k. k.sorts.count) (accepted-layout s l taken)

  pub relations-counted : l.relations.count ≡ relation_count (sheet_of s)
  relations-counted = ap (λ k. k.relations.count) (accepted-layout s l taken)

  pub nodes-counted : l.nodes.count ≡ node_count (sheet_of s)
  nodes-counted = ap (λ k. k.nodes.count) (accepted-layout s l taken)

  pub few_relations : l.relations.count ≤ 16
  few_relations = rw relations-counted (accepted-facts s l taken).counts.few_relations
