-- What it means that steps put together are done (specs/Emission): a sequence of two, a changed value, a list of steps.
use mathlib.Core.Path.{◌≡◌, refl, sym, ap, ◌∙◌, subst}
use mathlib.Core.Bool.{Bool, true, false, cond}
use mathlib.Core.List.{List, [], ◌∷◌, ◌++◌, map, append_assoc, append-nil}
use mathlib.Core.Logic.{◌⊎◌, inl, inr, ⊎_elim}
use Prim.Native.Nat.{ℕ, suc, ◌+◌, ◌≤◌, ◌<◌}
use native.Mathlib.Nat.{add-zero}
use native.Mathlib.Omega.{arith}
use lib.Dec.{leb}
use lib.IntN.{ℤ}
use mir.Syntax.{w32}
use mir.Val.{SFits}
use lib.ListN.{length, length-append}
use borrow.Author.Tests.{leb-true, leb-false}
use Rattle.prelude.proofs.Laws.{decided}
use Rattle.literal.specs.Literals.{Literal, positive, opposite}
use Rattle.literal.specs.Words.{literal_of}
use Rattle.literal.proofs.Signs.{read, back}
use Rattle.relational.specs.Matrices.{upto}
use Rattle.relational.proofs.Places.{upto-suc}
use Rattle.clauses_rules.specs.Builder.{Gate, Built, Builder, return, ◌>>=◌, ◌<$>◌, each}
use Rattle.clauses_rules.specs.Gates.{remaining, gives_true, or_of, or, and, gates_clauses}
use Rattle.clauses_rules.specs.Translation.{Two}
use Rattle.clauses_rules.proofs.Gate.{gates-append}
use Rattle.clauses_emission.specs.declared.Tape.{Tape}
use Rattle.clauses_emission.specs.declared.Pairing.{Pairing}
use Rattle.clauses_emission.specs.declared.Pairing.TheVariants.{Either, Both, Without, Implies, Same, Apart}
use Rattle.clauses_emission.specs.Emission.{Inside, Writes, Bounded, Within, Over, Exact, Emits, pairing}
use Rattle.clauses_emission.proofs.Writes.{writes-none, writes_then, writes_as}

-- ---- the next variable of a step comes after its gates: it never falls
pub record Regular {A : Type 0} (step : Builder A) : Type 0 where
  pub counts : (g : ℕ) → (step g).next ≡ g + length (step g).gates

pub regular-return : {A : Type 0} (x : A) → Regular (return x)
regular-return x = record { counts = λ g. sym (add-zero g) }

pub regular-map : {A B : Type 0} (change : A → B) (step : Builder A) → Regular step → Regular (change <$> step)
regular-map change step r = record { counts = r.counts }

pub regular-bind : {A B : Type 0} (step : Builder A) (then : A → Builder B) → Regular step → ((x : A) → Regular (then x)) → Regular (step >>= then)
regular-bind step then r s = record {
  counts = λ g.
      let x = step g in
      let y = then x.value x.next in
      omega (arith, r.counts g, (s x.value).counts x.next, length-append x.gates y.gates);
}

pub regular-each : {A B : Type 0} (step : A → Builder B) → ((x : A) → Regular (step x)) → (xs : List A) → Regular (each step xs)
unfolding each
regular-each step r [] = regular-return []
regular-each step r (x ∷ xs) =
    regular-bind (step x) (λ y. (λ ys. y ∷ ys) <$> each step xs) (r x)
    (λ y. regular-map (λ ys. y ∷ ys) (each step xs) (regular-each step r xs))

regular-or-of : (ls : List Literal) → Regular (or_of ls)
regular-or-of [] = regular-return _
regular-or-of (l ∷ []) = regular-return _
regular-or-of (l ∷ k ∷ ls) = record { counts = λ g. omega arith }

pub regular-or : (ls : List Literal) → Regular (or ls)
unfolding or
regular-or ls = go (gives_true ls)
  where
    go : (t : Bool) → Regular (cond t (return (positive 1)) (or_of (remaining [] ls)))
    go true = regular-return (positive 1)
    go false = regular-or-of (remaining [] ls)

pub regular-and : (ls : List Literal) → Regular (and ls)
regular-and ls = regular-map opposite (or (map opposite ls)) (regular-or (map opposite ls))

pub regular-pairing : (kind : Pairing) (t : Two) → Regular (pairing kind t)
regular-pairing Either t = regular-or _
regular-pairing Both t = regular-and (t.0 ∷ t.1 ∷ [])
regular-pairing Without t = regular-and (t.0 ∷ opposite t.1 ∷ [])
regular-pairing Implies t = regular-or _
regular-pairing Same t =
    regular-bind (or (opposite t.0 ∷ t.1 ∷ [])) _ (regular-or _)
    (λ x. regular-bind (or (opposite t.1 ∷ t.0 ∷ [])) _ (regular-or _) (λ y. regular-and (x ∷ y ∷ [])))
regular-pairing Apart t = regular-or _

pub within-or-over : (n : ℕ) → Within n ⊎ Over n
within-or-over n = ⊎_elim (λ t. inl (leb-true n 16001 t)) (λ f. inr (leb-false n 16001 f)) (decided (leb n 16001))

-- ---- no step at all
pub emits-return : {A : Type 0} (x : A) (list : List ℤ) (tape : Tape) {F : ℕ → Type 0} → Bounded tape → F tape.next
    → Emits (return x tape.next) list tape x list tape F
unfolding gates_clauses
emits-return x list tape b f = record {
  bounded = b;
  grows = omega arith;
  kept = refl;
  fine = f;
  done = λ w. record { value = refl; next = refl; writes = writes-none list tape };
  over = λ o. o;
}

-- ---- one step, and then another from where it ends
exact-bind : {A B : Type 0} (step : Builder A) (then : A → Builder B) → Regular step
    → {old mid new : List ℤ} {a b c : Tape} {x : A} {y : B}
    → Exact (step a.next) old a x mid b → Exact (then x b.next) mid b y new c → Exact ((step >>= then) a.next) old a y new c
exact-bind step then r {old} {mid} {new} {a} {b} {c} {x} {y} p q =
    let s = step a.next in
    let e : then x b.next ≡ then s.value s.next = rw (p.value, p.next) in
    let t = then s.value s.next in
    let w : Writes (gates_clauses b.next t.gates) mid b new c = rw e at q.writes in
    let n : b.next ≡ a.next + length s.gates = p.next ∙ r.counts a.next in
    record {
      value = q.value ∙ ap (λ (z : Built _). z.value) e;
      next = q.next ∙ ap (λ (z : Built _). z.next) e;
      writes =
          writes_as
          (ap (λ (k : ℕ). gates_clauses a.next s.gates ++ gates_clauses k t.gates) n ∙ sym (gates-append a.next s.gates t.gates))
          (writes_then p.writes w);
    }

pub emits-bind : {A B : Type 0} (step : Builder A) (then : A → Builder B) → Regular step → ((x : A) → Regular (then x))
    → {old mid new : List ℤ} {a b c : Tape} {x : A} {y : B} {F G : ℕ → Type 0}
    → Emits (step a.next) old a x mid b F → Emits (then x b.next) mid b y new c G → Emits ((step >>= then) a.next) old a y new c G
emits-bind step then r s {old} {mid} {new} {a} {b} {c} {x} {y} {F} {G} p q = record {
  bounded = q.bounded;
  grows = omega (arith, p.grows, q.grows);
  kept = q.kept ∙ p.kept;
  fine = q.fine;
  done = λ w. exact-bind step then r (p.done (omega (arith, q.grows))) (q.done w);
  over = λ o. ⊎_elim (within o) beyond (within-or-over b.next);
}
  where
    within : Over c.next → b.next ≤ 16001 → Over ((step >>= then) a.next).next
    within o w =
        let e = p.done w in
        let k : Over (then x b.next).next = q.over o in
        rw (e.value, e.next) at k

    beyond : 16001 < b.next → Over ((step >>= then) a.next).next
    beyond h =
        let z = step a.next in
        omega (arith, p.over h, (s z.value).counts z.next)

-- ---- a step, and its value changed
pub emits-map : {A B : Type 0} (change : A → B) (step : Builder A) {old new : List ℤ} {a b : Tape} {x : A} {y : B} {F G : ℕ → Type 0}
    → Emits (step a.next) old a x new b F → y ≡ change x → G b.next → Emits ((change <$> step) a.next) old a y new b G
emits-map change step p e g = record {
  bounded = p.bounded;
  grows = p.grows;
  kept = p.kept;
  fine = g;
  done = λ w. let d = p.done w in record { value = e ∙ ap change d.value; next = d.next; writes = d.writes };
  over = p.over;
}

-- the same step and value by other names
pub emits-as : {A : Type 0} {r s : Built A} {old new : List ℤ} {a b : Tape} {x y : A} {F : ℕ → Type 0}
    → r ≡ s → x ≡ y → Emits r old a x new b F → Emits s old a y new b F
emits-as {A} {r} {s} {old} {new} {a} {b} {x} {y} {F} e f p =
    subst (λ (z : Built A). Emits z old a y new b F) e (subst (λ (v : A). Emits r old a v new b F) f p)

-- the same literal by another name
pub emits-literal : {r : Built Literal} {old new : List ℤ} {a b : Tape} {l m : Literal} → l ≡ m
    → Emits r old a l new b (λ n. Inside n l) → Emits r old a m new b (λ n. Inside n m)
emits-literal {r} {old} {new} {a} {b} {l} {m} e p = subst (λ (k : Literal). Emits r old a k new b (λ n. Inside n k)) e p

-- the same literal as the machine reads its word
pub emits-read : {r : Built Literal} {old new : List ℤ} {a b : Tape} {w : ℤ} → SFits w32 w → Emits r old a (literal_of w) new b (λ n. Inside n (literal_of w))
    → Emits r old a (literal_of (read w)) new b (λ n. Inside n (literal_of (read w)))
emits-read {w} f p = emits-literal (ap literal_of (sym (back w f))) p

-- past the limit a step may be given up
pub given-up : {A : Type 0} (step : Builder A) (x : A) (list : List ℤ) (tape : Tape) {F : ℕ → Type 0} → Regular step → Bounded tape
    → Over tape.next → F tape.next → Emits (step tape.next) list tape x list tape F
given-up step x list tape r b o f = record {
  bounded = b;
  grows = omega arith;
  kept = refl;
  fine = f;
  done = λ w. absurd (omega arith);
  over = λ h. omega (arith, r.counts tape.next);
}

-- ---- a list of steps, and one more
module _ {A B : Type 0} (step : A → Builder B) where
  pub each_more : (xs : List A) (x : A) (g : ℕ) → each step (xs ++ (x ∷ [])) g ≡ (each step xs >>= λ ys. (λ y. ys ++ (y ∷ [])) <$> step x) g
  unfolding each
  each_more [] x g =
      ap (λ (gs : List Gate). record { value = (step x g).value ∷ []; gates = gs; next = (step x g).next }) (append-nil (step x g).gates)
  each_more (z ∷ xs) x g =
      let r = step z g in
      let s = each step xs r.next in
      let t = step x s.next in
      ap (λ (u : Built (List B)). record { value = r.value ∷ u.value; gates = r.gates ++ u.gates; next = u.next }) (each_more xs x r.next)
      ∙ ap (λ (gs : List Gate). record { value = r.value ∷ (s.value ++ (t.value ∷ [])); gates = gs; next = t.next })
      (sym (append_assoc r.gates s.gates t.gates))

  pub emits-more : ((x : A) → Regular (step x)) → (f : ℕ → A) (k : ℕ) {old mid new : List ℤ} {a b c : Tape} {ys : List B} {y : B} {F G H : ℕ → Type 0}
      → Emits (each step (map f (upto k)) a.next) old a ys mid b F → Emits (step (f k) b.next) mid b y new c G → H c.next
      → Emits (each step (map f (upto (suc k))) a.next) old a (ys ++ (y ∷ [])) new c H
  emits-more r f k {old} {mid} {new} {a} {b} {c} {ys} {y} {F} {G} {H} p q h =
      let then : List B → Builder (List B) = λ zs. (λ z. zs ++ (z ∷ [])) <$> step (f k) in
      emits-as
      (sym (ap (λ (xs : List A). each step xs a.next) (upto-suc f k) ∙ each_more (map f (upto k)) (f k) a.next))
      refl
      (emits-bind (each step (map f (upto k))) then (regular-each step r (map f (upto k)))
      (λ zs. regular-map (λ z. zs ++ (z ∷ [])) (step (f k)) (r (f k)))
      p
      (emits-map (λ z. ys ++ (z ∷ [])) (step (f k)) q refl h))
