-- Clauses added one after the other, and how many.
use mathlib.Core.Path.{◌≡◌, ap}
use mathlib.Core.List.{List, [], ◌∷◌, ◌++◌}
use Prim.Native.Nat.{ℕ, ◌+◌, ◌≤◌}
use native.Mathlib.Omega.{arith}
use lib.IntN.{ℤ}
use lib.ListN.{length}
use Rattle.literal.specs.Words.{literal_of}
use Rattle.clauses_rules.specs.Gates.{Clause}
use Rattle.clauses_emission.specs.declared.Tape.{Tape}
use Rattle.clauses_emission.specs.Emission.{literals_of, Appends, Room}
use Rattle.clauses_emission.proofs.Writes.{words-one, appends-none, appends-then, appends-as}
use Rattle.clauses_marks.specs.Marking.{Small, Adds}

pub adds_none : (list : List ℤ) (tape : Tape) → Adds 0 [] list tape list tape
adds_none list tape = record { appends = appends-none list tape; few_clauses = omega arith; few_words = omega arith }

module _ {m : ℕ} {cs : List Clause} {old new : List ℤ} {a b : Tape} (p : Adds m cs old a new b) where
  pub adds-as : {ds : List Clause} → cs ≡ ds → Adds m ds old a new b
  adds-as e = record { appends = appends-as e p.appends; few_clauses = p.few_clauses; few_words = p.few_words }

  pub adds-most : {n : ℕ} → m ≤ n → Adds n cs old a new b
  adds-most h = record { appends = p.appends; few_clauses = omega (arith, p.few_clauses); few_words = omega (arith, p.few_words) }

  pub adds-small : {k n : ℕ} → Small k a → k + m ≤ n → Small n b
  adds-small s h = record { clauses = omega (arith, s.clauses, p.few_clauses); words = omega (arith, s.words, p.few_words) }

  pub adds_then : {n : ℕ} {ds : List Clause} {last : List ℤ} {c : Tape} → Adds n ds new b last c → Adds (m + n) (cs ++ ds) old a last c
  adds_then q = record {
    appends = appends-then p.appends q.appends;
    few_clauses = omega (arith, p.few_clauses, q.few_clauses);
    few_words = omega (arith, p.few_words, q.few_words);
  }

-- one clause of a first literal and others
pub adds_one : (first : ℤ) (others : List ℤ) {old new : List ℤ} {a b : Tape}
    → Appends ((literal_of first ∷ literals_of others) ∷ []) old a new b
    → Adds (2 + length others) ((literal_of first ∷ literals_of others) ∷ []) old a new b
adds_one first others p = record {
  appends = p;
  few_clauses = omega (arith, p.writes.clauses);
  few_words = omega (arith, p.writes.words, ap length (words-one first others));
}

pub small-room : {tape : Tape} (others : List ℤ) → length others ≤ 8 → Small 100000 tape → Room tape others
small-room others h s = record { few = omega arith; clauses = omega (arith, s.clauses); words = omega (arith, s.words) }
