-- The one-to-one match, over any way to store the cells, any rules over them, any list of facts and any fixed units.
-- The sheet's own list is one such (proofs/Match): another way of storing cells, fixed cells or further facts is another.
use mathlib.Core.Path.{◌≡◌, refl, sym, ap, ◌∙◌, subst}
use mathlib.Core.Bool.{Bool, true, false, ◌&&◌, ◌||◌, or-false, false≢true}
use mathlib.Core.List.{List, [], ◌∷◌, ◌++◌, map}
use Prim.Native.Nat.{ℕ, suc, pred, ◌+◌, ◌≤◌}
use native.Mathlib.Omega.{arith}
use lib.ListN.{length, take, drop, length-append, length-take, length-drop, take-append-drop, replicate, length-replicate}
use lib.Seq.{take-append_seam}
use Rattle.prelude.specs.Tests.{all, any}
use Rattle.prelude.proofs.Laws.{and_left, and_right, and_both}
use Rattle.literal.specs.Literals.{Literal, positive}
use Rattle.clauses_rules.specs.Builder.{Gate, Built, Builder}
use Rattle.clauses_rules.specs.Gates.{Clause, gates_clauses}
use Rattle.clauses_rules.proofs.Values.{value, satisfied, satisfied-append, AllIn, ClausesIn, clauses-in-append, clauses-in-split}
use Rattle.clauses_rules.proofs.Gate.{outputs, run, Scoped, solved, solved-only, length_run, length-outputs, run-append}
use Rattle.clauses_rules.proofs.Gate.{scoped-append}
use Rattle.clauses_rules.proofs.Gate.{gates-append}
use Rattle.clauses_rules.proofs.Build.{Extends, extends-run, extends-trans, Right, nothing, more, Mean, One, means-extends}
use Rattle.clauses_rules.proofs.Build.{mean-extends}
use Rattle.clauses_rules.proofs.Connect.{every, mean-inside}
use Rattle.clauses_rules.proofs.Ranges.{gates-in}

-- what a list of clauses is made of
pub record Parts : Type 0 where
  -- the variables after 1 that no gate makes
  pub free : ℕ
  -- the cells' literals
  pub cells : Builder (List Literal)
  -- the rules of rows, over the cells' literals
  pub rules : List Literal → List Clause
  -- the facts' literals
  pub walk : List Literal → Builder (List Literal)
  -- clauses that fix cells
  pub fixed : List Literal → List Clause

-- what is asked of an instance: nothing here is about storing
pub record Demand : Type 0 where
  pub size : ℕ
  pub marks : List Bool → Bool
  pub agrees : List Bool → Bool
  pub facts : List Bool → List Bool

pub record Meets (q : Demand) (x : List Bool) : Type 0 where
  pub size : length x ≡ q.size
  pub marks : q.marks x ≡ true
  pub agrees : q.agrees x ≡ true
  pub facts : every (q.facts x) ≡ true

-- a clause for each literal
abbrev pub units : List Literal → List Clause
units ls = map (λ (l : Literal). l ∷ []) ls

module _ (p : Parts) where
  abbrev pub first_gate : ℕ
  first_gate = suc (suc p.free)

  abbrev pub stored : Built (List Literal)
  stored = p.cells first_gate

  abbrev pub walked : Built (List Literal)
  walked = p.walk stored.value stored.next

  abbrev pub parts_clauses : List Clause
  parts_clauses =
      (positive 1 ∷ []) ∷
      (gates_clauses first_gate stored.gates
      ++ (p.rules stored.value ++ (gates_clauses stored.next walked.gates ++ (p.fixed stored.value ++ units walked.value))))

  abbrev pub parts_variables : ℕ
  parts_variables = pred walked.next

  pub record Solves (b : List Bool) : Type 0 where
    pub size : length b ≡ parts_variables
    pub holds : satisfied (false ∷ b) parts_clauses ≡ true

-- variable 1 and the free ones
abbrev pub start : List Bool → List Bool
start x = false ∷ true ∷ x

pub start-one : (x : List Bool) → One (start x)
start-one x = record { inside = record { low = omega arith; high = omega arith }; value = refl }

-- the way of storing, and why it is right: decode gives the cells of an assignment's free variables, encode goes back
pub record Stores (p : Parts) (q : Demand) : Type 0 where
  pub decode : List Bool → List Bool
  pub encode : List Bool → List Bool
  pub allowed : List Bool → Bool
  pub right_cells : (x : List Bool) → length x ≡ p.free → Right (start x) (p.cells (length (start x))) (Mean (decode x))
  pub right_rules : (x a : List Bool) (ls : List Literal) → length x ≡ p.free → Extends (start x) a → One a → Mean (decode x) a ls
      → satisfied a (p.rules ls) ≡ allowed x
  pub right_walk : (y a : List Bool) (ls : List Literal) → One a → Mean y a ls → Right a (p.walk ls (length a)) (Mean (q.facts y))
  pub right_fixed : (y a : List Bool) (ls : List Literal) → One a → Mean y a ls → satisfied a (p.fixed ls) ≡ q.agrees y
  pub rules_in : (n : ℕ) (ls : List Literal) → first_gate p ≤ n → AllIn n ls → ClausesIn n (p.rules ls)
  pub fixed_in : (n : ℕ) (ls : List Literal) → first_gate p ≤ n → AllIn n ls → ClausesIn n (p.fixed ls)
  pub into : (x : List Bool) → length x ≡ p.free → allowed x ≡ true
      → (length (decode x) ≡ q.size) × (q.marks (decode x) ≡ true) × (encode (decode x) ≡ x)
  pub onto : (y : List Bool) → length y ≡ q.size → q.marks y ≡ true
      → (length (encode y) ≡ p.free) × (allowed (encode y) ≡ true) × (decode (encode y) ≡ y)

satisfied-units : {a ms : List Bool} {ls : List Literal} → Mean ms a ls → satisfied a (units ls) ≡ every ms
unfolding all any
satisfied-units nothing = refl
satisfied-units (more p ps) = rw (p.value, satisfied-units ps, or-false)

units_in : (n : ℕ) (ls : List Literal) → AllIn n ls → ClausesIn n (units ls)
units_in n [] h = tt
units_in n (l ∷ ls) h = ((h.0, tt), units_in n ls h.1)

-- ---- the match of bits, for any list that says: 1, the gates, and further clauses, in any order
module _ (k : ℕ) (gates : List Gate) (further list : List Clause) (scoped : Scoped (suc (suc k)) gates)
    (law : (a : List Bool)
    → satisfied a list ≡ (value a (positive 1) && (satisfied a (gates_clauses (suc (suc k)) gates) && satisfied a further))) where
  apart : (b : List Bool) → length b ≡ suc k + length gates → satisfied (false ∷ b) list ≡ true
      → (x : List Bool) × (length x ≡ k) × (b ≡ true ∷ (x ++ outputs (start x) gates)) × (satisfied (run (start x) gates) further ≡ true)
  apart [] e h = absurd (omega arith)
  apart (false ∷ b) e h = absurd (false≢true (sym (law (false ∷ false ∷ b)) ∙ h))
  apart (true ∷ b) e h =
      let x : List Bool = take k b in
      let lx : length x ≡ k = simp length-take (omega arith) in
      let ld : length (drop k b) ≡ length gates = simp length-drop (omega arith) in
      let g : Bool = satisfied (start x ++ drop k b) (gates_clauses (length (start x)) gates) in
      let h₁ : (g && satisfied (start x ++ drop k b) further) ≡ true = rw (take-append-drop k b, lx) (sym (law (false ∷ true ∷ b)) ∙ h) in
      let q : drop k b ≡ outputs (start x) gates = solved-only (start x) (drop k b) gates (rw lx scoped) ld (and_left g _ h₁) in (
        x,
        lx,
        ap (λ (t : List Bool). true ∷ t) (sym (take-append-drop k b) ∙ ap (λ (t : List Bool). x ++ t) q),
        subst (λ (t : List Bool). satisfied (start x ++ t) further ≡ true) q (and_right g _ h₁),
      )

  together : (x : List Bool) → length x ≡ k → satisfied (run (start x) gates) further ≡ true → satisfied (run (start x) gates) list ≡ true
  together x e h =
      let a : List Bool = run (start x) gates in
      let s : satisfied a (gates_clauses (suc (suc k)) gates) ≡ true
      = subst (λ (n : ℕ). satisfied a (gates_clauses (suc (suc n)) gates) ≡ true) e
      (solved (start x) gates (subst (λ (n : ℕ). Scoped (suc (suc n)) gates) (sym e) scoped)) in
      law a ∙ and_both (satisfied a (gates_clauses (suc (suc k)) gates)) (satisfied a further) s h

module _ (p : Parts) (q : Demand) (s : Stores p q) where
  abbrev pub read_back : List Bool → List Bool
  read_back b = s.decode (take p.free (drop 1 b))

  pub record Once (y : List Bool) : Type 0 where
    pub assignment : List Bool
    pub solves : Solves p assignment
    pub reads : read_back assignment ≡ y
    pub only : (b : List Bool) → Solves p b → read_back b ≡ y → b ≡ assignment

  abbrev gates : List Gate
  gates = (stored p).gates ++ (walked p).gates

  abbrev further : List Clause
  further = p.rules (stored p).value ++ (p.fixed (stored p).value ++ units (walked p).value)

  record Made (x : List Bool) : Type 0 where
    pub scoped : Scoped (first_gate p) gates
    pub next₁ : (stored p).next ≡ first_gate p + length (stored p).gates
    pub next : (walked p).next ≡ first_gate p + length gates
    pub inside : AllIn (walked p).next (stored p).value × AllIn (walked p).next (walked p).value
    pub means : satisfied (run (start x) gates) further ≡ (s.allowed x && (q.agrees (s.decode x) && every (q.facts (s.decode x))))

  made : (x : List Bool) → length x ≡ p.free → Made x
  made x e =
      let a : List Bool = start x in
      let gs : List Gate = (stored p).gates in
      let hs : List Gate = (walked p).gates in
      let y : List Bool = s.decode x in
      let l : length a ≡ first_gate p = ap (λ (k : ℕ). suc (suc k)) e in
      let g : Right a (stored p) (Mean y) = subst (λ (k : ℕ). Right a (p.cells k) (Mean y)) l (s.right_cells x e) in
      let b : List Bool = run a gs in
      let one₁ : One b = means-extends (extends-run a gs) (start-one x) in
      let h : Right b (walked p) (Mean (q.facts y))
      = subst (λ (k : ℕ). Right b (p.walk (stored p).value k) (Mean (q.facts y))) (sym g.next)
      (s.right_walk y b (stored p).value one₁ g.gives) in
      let c : List Bool = run b hs in
      let more₂ : Extends b c = extends-run b hs in
      let n₁ : length b ≡ first_gate p + length gs = length_run a gs ∙ ap (λ (k : ℕ). k + length gs) l in
      let means₂ : Mean y c (stored p).value = mean-extends more₂ g.gives in
      let one₂ : One c = means-extends more₂ one₁ in
      record {
        scoped =
            scoped-append (first_gate p) gs hs (subst (λ (k : ℕ). Scoped k gs) l g.scoped) (subst (λ (k : ℕ). Scoped k hs) n₁ h.scoped);
        next₁ = g.next ∙ n₁;
        next = h.next ∙ length_run b hs ∙ omega (arith, n₁, length-append gs hs);
        inside = rw h.next (mean-inside means₂, mean-inside h.gives);
        means =
            rw (
              run-append a gs hs,
              satisfied-append c (p.rules (stored p).value) (p.fixed (stored p).value ++ units (walked p).value),
              satisfied-append c (p.fixed (stored p).value) (units (walked p).value),
            )
            (rw (
              s.right_rules x c (stored p).value e (extends-trans (extends-run a gs) more₂) one₂ means₂,
              s.right_fixed y c (stored p).value one₂ means₂,
              satisfied-units h.gives,
            ));
      }

  -- the gates are the same over all assignments
  any-made : Made (replicate p.free false)
  any-made = made (replicate p.free false) (length-replicate p.free false)

  shuffle : (x d₁ r d₂ u : Bool) → ((x || false) && (d₁ && (r && (d₂ && u)))) ≡ (x && ((d₁ && d₂) && (r && u)))
  shuffle true true true d₂ u = refl
  shuffle true true false true u = refl
  shuffle true true false false u = refl
  shuffle true false r d₂ u = refl
  shuffle false d₁ r d₂ u = refl

  -- the clauses of the gates, in their two places
  apart-gates : gates_clauses (first_gate p) gates
      ≡ gates_clauses (first_gate p) (stored p).gates ++ gates_clauses (stored p).next (walked p).gates
  apart-gates = gates-append (first_gate p) (stored p).gates (walked p).gates ∙ rw (← any-made.next₁)

  law : (a : List Bool)
      → satisfied a (parts_clauses p) ≡ (value a (positive 1) && (satisfied a (gates_clauses (first_gate p) gates) && satisfied a further))
  unfolding all any
  law a =
      let d₁ : List Clause = gates_clauses (first_gate p) (stored p).gates in
      let d₂ : List Clause = gates_clauses (stored p).next (walked p).gates in
      let c₁ : List Clause = p.rules (stored p).value in
      let c₂ : List Clause = p.fixed (stored p).value ++ units (walked p).value in
      rw (
        satisfied-append a d₁ (c₁ ++ (d₂ ++ c₂)),
        satisfied-append a c₁ (d₂ ++ c₂),
        satisfied-append a d₂ c₂,
        satisfied-append a c₁ c₂,
        apart-gates,
        satisfied-append a d₁ d₂,
      )
      (shuffle (value a (positive 1)) (satisfied a d₁) (satisfied a c₁) (satisfied a d₂) (satisfied a c₂))

  pub parts-variables : parts_variables p ≡ suc p.free + length gates
  parts-variables =
      let e : first_gate p + length gates ≡ suc (suc p.free + length gates) = omega arith in
      ap pred (any-made.next ∙ e)

  -- every literal is one of the variables
  pub parts_in : ClausesIn (suc (parts_variables p)) (parts_clauses p)
  parts_in =
      let n : ℕ = suc (parts_variables p) in
      let e : (walked p).next ≡ n = omega (arith, any-made.next, parts-variables) in
      let f : first_gate p + length gates ≤ n = omega (arith, parts-variables) in
      let i = subst (λ (k : ℕ). AllIn k (stored p).value × AllIn k (walked p).value) e any-made.inside in
      let d₁ : List Clause = gates_clauses (first_gate p) (stored p).gates in
      let d₂ : List Clause = gates_clauses (stored p).next (walked p).gates in
      let c₁ : List Clause = p.rules (stored p).value in
      let c₂ : List Clause = p.fixed (stored p).value in
      let g = clauses-in-split n d₁ d₂ (subst (ClausesIn n) apart-gates (gates-in n (first_gate p) gates (omega arith) f any-made.scoped)) in (
        (record { low = omega arith; high = omega (arith, f) }, tt),
        clauses-in-append n d₁ (c₁ ++ (d₂ ++ (c₂ ++ units (walked p).value))) g.0
            (clauses-in-append n c₁ (d₂ ++ (c₂ ++ units (walked p).value)) (s.rules_in n (stored p).value (omega (arith, f)) i.0)
            (clauses-in-append n d₂ (c₂ ++ units (walked p).value) g.1
            (clauses-in-append n c₂ (units (walked p).value) (s.fixed_in n (stored p).value (omega (arith, f)) i.0)
            (units_in n (walked p).value i.1)))),
      )

  -- an assignment's free bits, and the gates' values over them
  record Split (b : List Bool) : Type 0 where
    pub bits : List Bool
    pub size : length bits ≡ p.free
    pub allowed : s.allowed bits ≡ true
    pub meets : Meets q (s.decode bits)
    pub is : b ≡ true ∷ (bits ++ outputs (start bits) gates)
    pub reads : read_back b ≡ s.decode bits

  read-bits : (x t : List Bool) → length x ≡ p.free → take p.free (x ++ t) ≡ x
  read-bits x t e = subst (λ (k : ℕ). take k (x ++ t) ≡ x) e (take-append_seam x t)

  split : (b : List Bool) → Solves p b → Split b
  split b h =
      let t = apart p.free gates further (parts_clauses p) any-made.scoped law b (h.size ∙ parts-variables) h.holds in
      let x : List Bool = t.0 in
      let y : List Bool = s.decode x in
      let m : (s.allowed x && (q.agrees y && every (q.facts y))) ≡ true = sym (made x t.1).means ∙ t.3 in
      let o : s.allowed x ≡ true = and_left (s.allowed x) _ m in
      let r : (q.agrees y && every (q.facts y)) ≡ true = and_right (s.allowed x) _ m in
      let i = s.into x t.1 o in
      record {
        bits = x;
        size = t.1;
        allowed = o;
        meets = record { size = i.0; marks = i.1; agrees = and_left (q.agrees y) _ r; facts = and_right (q.agrees y) _ r };
        is = t.2;
        reads = ap read_back t.2 ∙ ap s.decode (read-bits x (outputs (start x) gates) t.1);
      }

  -- every satisfying assignment reads back to an instance that meets the demand
  pub reads-meet : (b : List Bool) → Solves p b → Meets q (read_back b)
  reads-meet b h = let t = split b h in rw t.reads t.meets

  -- every such instance is read back from exactly one
  pub once : (y : List Bool) → Meets q y → Once y
  once y f =
      let o = s.onto y f.size f.marks in
      let x : List Bool = s.encode y in
      let m : (s.allowed x && (q.agrees (s.decode x) && every (q.facts (s.decode x)))) ≡ true
      = rw (o.1, o.2) (and_both (q.agrees y) (every (q.facts y)) f.agrees f.facts) in
      record {
        assignment = true ∷ (x ++ outputs (start x) gates);
        solves =
            record {
              size = omega (arith, length-append x (outputs (start x) gates), length-outputs (start x) gates, parts-variables, o.0);
              holds = together p.free gates further (parts_clauses p) any-made.scoped law x o.0 ((made x o.0).means ∙ m);
            };
        reads = ap s.decode (read-bits x (outputs (start x) gates) o.0) ∙ o.2;
        only = λ b h e.
            let t = split b h in
            let r : t.bits ≡ x = sym (s.into t.bits t.size t.allowed).2 ∙ ap s.encode (sym t.reads ∙ e) in
            t.is ∙ ap (λ (z : List Bool). true ∷ (z ++ outputs (start z) gates)) r;
      }
