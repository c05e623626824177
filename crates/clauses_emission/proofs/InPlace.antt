-- The inputs of an OR, one after the other: those kept stand before place n, those not read yet behind place k.
use mathlib.Core.Path.{◌≡◌, sym, ap, ◌∙◌}
use mathlib.Core.List.{List, [], ◌∷◌, ◌++◌, map-append}
use Prim.Native.Nat.{ℕ, ◌+◌, ◌≤◌, ◌<◌}
use native.Mathlib.Numerals.{add-one}
use native.Mathlib.Omega.{arith}
use lib.IntN.{ℤ, pos}
use lib.ListN.{length, get_or, take, drop, set, length-set, length-take, drop_of_length-le}
use lib.Seq.{drop-cons, take-suc-set}
use Rattle.literal.specs.Literals.{Literal, positive}
use Rattle.literal.specs.Words.{literal_of}
use Rattle.clauses_rules.specs.Gates.{or_of, or}
use Rattle.clauses_rules.specs.Translation.{absent}
use Rattle.clauses_emission.specs.declared.Seen.{Seen}
use Rattle.clauses_emission.specs.declared.Seen.TheVariants.{Nothing, Itself, Opposite}
use Rattle.clauses_emission.specs.Emission.{literals_of, Inputs}
use Rattle.clauses_emission.specs.Settling.{seen_in, by_sight, settled_by, settled, Settles}
use Rattle.clauses_emission.proofs.Settled.{or-settled, settled-inside}
use Rattle.clauses_emission.proofs.Rests.{rest_at, rest-next, rest-set}

pub record Settling (ws out : List ℤ) (n k : ℕ) : Type 0 where
  pub kept : n ≤ k
  pub passed : k ≤ length ws
  pub size : length out ≡ length ws
  pub rest : drop k out ≡ drop k ws
  pub same : settled_by (literals_of (take n out)) (literals_of (drop k ws)) ≡ settled (literals_of ws)

-- the next input, by what is seen of it
module _ (ws out : List ℤ) (n k : ℕ) (h : k < length ws) (s : Settling ws out n k) where
  abbrev word : ℤ
  word = get_or out k (pos 0)

  abbrev keeps : List Literal
  keeps = literals_of (take n out)

  next : by_sight (seen_in (absent ∷ keeps) (literal_of word)) (settled_by (keeps ++ (literal_of word ∷ [])) (literals_of (drop (k + 1) ws)))
      (settled_by keeps (literals_of (drop (k + 1) ws))) (positive 1 ∷ []) ≡ settled (literals_of ws)
  unfolding settled_by
  next = rw (rest_at out ws k s.rest, add-one k) (ap (settled_by keeps) (sym (ap literals_of (drop-cons ws k (pos 0) h))) ∙ s.same)

  by-sight : (seen : Seen) → seen_in (absent ∷ keeps) (literal_of word) ≡ seen
      → by_sight seen (settled_by (keeps ++ (literal_of word ∷ [])) (literals_of (drop (k + 1) ws)))
      (settled_by keeps (literals_of (drop (k + 1) ws))) (positive 1 ∷ []) ≡ settled (literals_of ws)
  by-sight seen e = rw e at next

  pub settling-new : seen_in (absent ∷ keeps) (literal_of word) ≡ Nothing → Settling ws (set out n word) (n + 1) (k + 1)
  settling-new e =
      let more : literals_of (take (n + 1) (set out n word)) ≡ keeps ++ (literal_of word ∷ []) =
      rw (add-one n)
      (ap literals_of (take-suc-set out n word (omega (arith, s.kept, s.size))) ∙ map-append literal_of (take n out) (word ∷ []))
      in
      record {
        kept = omega (arith, s.kept);
        passed = omega arith;
        size = length-set out n word ∙ s.size;
        rest = rest-set out ws k n word s.kept s.rest;
        same = rw more (by-sight Nothing e);
      }

  pub settling-old : seen_in (absent ∷ keeps) (literal_of word) ≡ Itself → Settling ws out n (k + 1)
  settling-old e = record {
    kept = omega (arith, s.kept);
    passed = omega arith;
    size = s.size;
    rest = rest-next out ws k s.rest;
    same = by-sight Itself e;
  }

  pub settling-true : seen_in (absent ∷ keeps) (literal_of word) ≡ Opposite → Settles ws (set out 0 (pos 1)) 1
  settling-true e = record {
    few = omega arith;
    rest = ap literals_of (take-suc-set out 0 (pos 1) (omega (arith, s.size))) ∙ by-sight Opposite e;
  }

pub settling-done : (ws out : List ℤ) (n k : ℕ) → length ws ≤ k → Settling ws out n k → Settles ws out n
unfolding settled_by
settling-done ws out n k h s = record {
  few = omega (arith, s.kept, s.passed);
  rest = ap (λ (t : List ℤ). settled_by (literals_of (take n out)) (literals_of t)) (sym (drop_of_length-le ws h)) ∙ s.same;
}

-- ---- what OR makes of the words that are left
module _ (ws out : List ℤ) (n : ℕ) (s : Settles ws out n) where
  pub settled-or : (g : ℕ) → or_of (literals_of (take n out)) g ≡ or (literals_of ws) g
  settled-or g = ap (λ (ks : List Literal). or_of ks g) s.rest ∙ or-settled (literals_of ws) g

  pub settled-inputs : {m : ℕ} → 2 ≤ m → Inputs m ws → Inputs m (take n out)
  settled-inputs low i = record {
    few = omega (arith, length-take n out, s.few, i.few);
    inside = rw s.rest (settled-inside low (literals_of ws) i.inside);
  }
