-- How `every` begins: with the refusal that `begin` put, or from a fresh start over the v that it gives.
use mathlib.Core.Path.{◌≡◌, refl, sym, ◌∙◌, ap, subst}
use mathlib.Core.Bool.{Bool}
use mathlib.Core.List.{List, []}
use Prim.Native.Nat.{ℕ, ◌+◌, ◌-◌, ◌≤◌}
use native.Mathlib.Omega.{arith}
use lib.IntN.{ℤ, pos}
use lib.ListN.{length, take, replicate, length-replicate, replicate-append-replicate}
use lib.Seq.{take_at}
use Rattle.text.specs.Texts.{Prints}
use Rattle.clauses.specs.declared.answer.Size.{Size}
use Rattle.clauses.specs.Answers.{Answer, fits, refused}
use Rattle.search_rules.specs.Rules.{values_of, trail_of}
use Rattle.search.specs.Every.{Fresh}
use Rattle.std.specs.Prelude.{Result, Err}
use Rattle.listing.specs.Printed.{beginning, begun_text, begun_of, bytes_in}
use Rattle.listing.proofs.Beginning.{cases_fit}
use Rattle.console_every.specs.Listed.{lent_words, opened, BeginGives, ListedOrRefused, refusal}

-- the front of equal elements
front : {A : Type 0} (a : A) (v n : ℕ) → v ≤ n → take v (replicate n a) ≡ replicate v a
front a v n h =
    let e : v + (n - v) ≡ n = omega arith in
    ap (λ (k : ℕ). take v (replicate k a)) (sym e)
    ∙ ap (take v) (sym (replicate-append-replicate v (n - v) a))
    ∙ take_at (replicate v a) (replicate (n - v) a) v (length-replicate v a)

module _ {input : List ℕ} {list : List ℤ} {v : ℕ} (b : BeginGives input list v) where
  within : v ≤ 16000
  within =
      let size : Size = record { variables = v; clauses = b.clauses; words = b.words } in
      (cases_fit input lent_words size (ap begun_of (sym b.numbers))).1

  pub opened-fresh : Fresh v opened
  unfolding values_of trail_of
  opened-fresh = record {
    values_open = front 2 v 16000 within;
    trail_open = front (pos 0) v 16000 within;
    zeros = refl;
  }

-- a refusal has its number
pub refused-with : (a : Answer) (bytes : ℕ) → Err bytes ≡ begun_of a → (n : ℕ) × (a ≡ refused n)
refused-with (refused n) bytes e = (n, refl)
refused-with (fits v c w) bytes e = absurd (let z : ◌≡◌ {A = ℕ} 0 1 = cc in omega arith)

-- and was put
pub refusal-put : {input before after : List ℕ} (begun : Result Size ℕ) (bytes : ℕ) {r : Bool} → begun ≡ Err bytes
    → begun ≡ begun_of (beginning input lent_words)
    → Prints (begun_text (beginning input lent_words)) before after (bytes_in begun) → ListedOrRefused input r after
refusal-put {input} {before} {after} begun bytes e d p =
    let w = refused-with (beginning input lent_words) bytes (sym e ∙ d) in
    refusal w.0 w.1 (subst (λ (a : Answer). Prints (begun_text a) before after (bytes_in begun)) w.1 p)
