-- The rounds of a closure: after one that changes nothing the others change nothing.
use mathlib.Core.Path.{◌≡◌, refl, sym, ap, ◌∙◌}
use mathlib.Core.List.{List, [], ◌∷◌, ◌++◌, append-nil}
use Prim.Native.Nat.{ℕ, zero, suc, ◌+◌, ◌-◌, ◌≤◌, ◌<◌}
use native.Mathlib.Omega.{arith}
use lib.IntN.{ℤ}
use lib.ListN.{length}
use Rattle.literal.specs.Literals.{Literal}
use Rattle.relational.specs.Matrices.{Matrix}
use Rattle.clauses_rules.specs.Builder.{Gate, Built, Builder, return}
use Rattle.clauses_rules.specs.Translation.{round_of, after_rounds}
use Rattle.clauses_emission.specs.declared.Tape.{Tape}
use Rattle.clauses_emission.specs.Emission.{Within}
use Rattle.clauses_emission.proofs.Steps.{Regular, emits-bind}
use Rattle.clauses_matrix.specs.Matrices.{Literals}
use Rattle.clauses_matrix.specs.Matrices.{matrix_of, EmitsMatrix, EmitsUnary}
use Rattle.clauses_matrix.proofs.Regulars.{regular-round, regular-rounds}

-- ---- a step that takes no variable makes no gate
no-gates : (gates : List Gate) → length gates ≡ 0 → gates ≡ []
no-gates [] e = refl
no-gates (gate ∷ gates) e = absurd (omega (arith, e))

idle : {A : Type 0} (step : Builder A) → Regular step → (g : ℕ) (x : A) → (step g).value ≡ x → (step g).next ≡ g → step g ≡ return x g
idle step r g x value next =
    let gates : (step g).gates ≡ [] = no-gates (step g).gates (omega (arith, r.counts g)) in
    λ i. record { value = value i; gates = gates i; next = next i }

unchanged : {A : Type 0} (b r : Built A) → r ≡ return b.value b.next
    → record { value = r.value; gates = b.gates ++ r.gates; next = r.next } ≡ b
unchanged {A} b r e =
    ap (λ (s : Built A). record { value = s.value; gates = b.gates ++ s.gates; next = s.next }) e
    ∙ ap (λ (gs : List Gate). record { value = b.value; gates = gs; next = b.next }) (append-nil b.gates)

-- ---- one round more
abbrev then-round : Built (Matrix Literal) → Built (Matrix Literal)
then-round b = let r = round_of b.value b.next in record { value = r.value; gates = b.gates ++ r.gates; next = r.next }

then_same : (b : Built (Matrix Literal)) (x : Matrix Literal) (g : ℕ) → x ≡ b.value → g ≡ b.next → round_of x g ≡ return x g
    → then-round b ≡ b
then_same b x g value next e = unchanged b (round_of b.value b.next) (rw (value, next) at e)

-- ---- j rounds more
module _ (k : ℕ) (p : Matrix Literal) (g : ℕ) where
  rounds-grow : (j : ℕ) → (after_rounds k p g).next ≤ (after_rounds (j + k) p g).next
  unfolding after_rounds
  rounds-grow zero = let e : 0 + k ≡ k = omega arith in rw e (omega arith)
  rounds-grow (suc j) =
      let e : suc j + k ≡ suc (j + k) = omega arith in
      let b = after_rounds (j + k) p g in
      rw e (omega (arith, rounds-grow j, (regular-round b.value).counts b.next))

  rounds-rest : then-round (after_rounds k p g) ≡ after_rounds k p g → (j : ℕ) → after_rounds (j + k) p g ≡ after_rounds k p g
  unfolding after_rounds
  rounds-rest e zero = let z : 0 + k ≡ k = omega arith in rw z
  rounds-rest e (suc j) = let s : suc j + k ≡ suc (j + k) = omega arith in rw s (ap then-round (rounds-rest e j) ∙ e)

-- ---- a round that leaves a matrix as it was
matrix-same : (m n : Literals) (g : ℕ) → matrix_of n ≡ (round_of (matrix_of m) g).value → m.cells ≡ n.cells → matrix_of n ≡ matrix_of m
matrix-same m n g value cells =
    let a : n.arity ≡ m.arity = ap (λ (x : Matrix Literal). x.arity) value in
    let r : n.rows ≡ m.rows = ap (λ (x : Matrix Literal). x.rows) value in
    let c : n.columns ≡ m.columns = ap (λ (x : Matrix Literal). x.columns) value in
    rw (a, r, c, cells)

module _ (k : ℕ) (p : Matrix Literal) {old mid new : List ℤ} {a b c : Tape} {m n : Literals}
    (before : EmitsMatrix (after_rounds k p a.next) old a m mid b) (round : EmitsUnary round_of m mid b n new c)
    (next : c.next ≡ b.next) (cells : m.cells ≡ n.cells) where
  round_same : Within c.next → then-round (after_rounds k p a.next) ≡ after_rounds k p a.next
  round_same w =
      let d = before.done (rw next at w) in
      let e = round.done w in
      then_same (after_rounds k p a.next) (matrix_of m) b.next d.value d.next
      (idle (round_of (matrix_of m)) (regular-round (matrix_of m)) b.next (matrix_of m)
      (sym e.value ∙ matrix-same m n b.next e.value cells) (sym e.next ∙ next))

  -- then more rounds are as good as worked out
  pub rounds-done : (most : ℕ) → k < most → EmitsMatrix (after_rounds most p a.next) old a n new c
  unfolding after_rounds
  rounds-done most h =
      let s : (most - suc k) + suc k ≡ most = omega arith in
      let e : (most - k) + k ≡ most = omega arith in
      let q : EmitsMatrix (after_rounds (suc k) p a.next) old a n new c =
      emits-bind (after_rounds k p) round_of (regular-rounds k p) regular-round before round
      in
      record {
        bounded = q.bounded;
        grows = q.grows;
        kept = q.kept;
        fine = q.fine;
        done = λ w.
            let f = round_same w in
            rw (f ∙ sym (rounds-rest k p a.next f (most - k)), e) at (q.done w);
        over = λ o. omega (arith, q.over o, rw s at (rounds-grow (suc k) p a.next (most - suc k)));
      }
