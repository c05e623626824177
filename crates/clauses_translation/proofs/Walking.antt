-- Nodes walked one after the other: what the walk of an operand leaves, and what the walks of all operands and the operator's step make.
use mathlib.Core.Path.{◌≡◌}
use mathlib.Core.List.{List}
use Prim.Native.Nat.{ℕ, ◌≤◌}
use lib.IntN.{ℤ}
use lib.ListN.{length}
use Rattle.sheet_rules.specs.Blocks.{Sheet}
use Rattle.relational.specs.Trees.{Tree}
use Rattle.nodes.specs.declared.forms.Node.{Node}
use Rattle.nodes.specs.Nodes.{tree_at, IsTree}
use Rattle.nodes.proofs.Views.{Reached, TwoAt, OneAt}
use Rattle.clauses_rules.specs.Builder.{Builder, ◌>>=◌}
use Rattle.clauses_emission.specs.declared.Tape.{Tape}
use Rattle.clauses_emission.specs.Emission.{literals_of, Bounded, Over, Emits}
use Rattle.clauses_emission.proofs.Steps.{Regular, regular-bind, emits-bind, given-up}
use Rattle.clauses_emission.proofs.Ranges.{all-grows}
use Rattle.clauses_translation.specs.Walks.{Ready, Walks}

-- the node that the walk has read, whatever its tree is called
abbrev pub again : {sheet : Sheet} {v : ℕ} {node : Node} {T : Type 0} {made : T → Tree} → Reached sheet v node (IsTree made)
    → (t : T) → tree_at sheet v ≡ made t → Reached sheet v node (IsTree made)
again h t e = record { facts = h.facts; read = h.read; tree = record { it = t; is = e } }

-- ---- after a walk
module _ {T A : Type 0} {made : T → Tree} {translation : T → Builder A} {sheet : Sheet} {v : ℕ} {old new : List ℤ} {before after : Tape}
    {x : A} {F : ℕ → Type 0} (w : Walks made translation sheet v old before x new after F) (i : IsTree made sheet v) where
  pub kept : length new ≡ length old
  kept = (w.walks i.it i.is).kept

  pub finished : Bounded after × F after.next
  finished = let e = w.walks i.it i.is in (e.bounded, e.fine)

  -- the tape that it leaves serves the next
  pub ready-after : {given : List ℤ} → Ready given before → Ready given after
  ready-after {given = given} r =
      let e = w.walks i.it i.is in
      record { bounded = e.bounded; inside = all-grows (literals_of given) e.grows r.inside }

  -- what was fine for the walk before it still is
  pub both-finished : {G : ℕ → Type 0} → ((n m : ℕ) → n ≤ m → G n → G m) → G before.next
      → Bounded after × (G after.next × F after.next)
  both-finished grow g = let e = w.walks i.it i.is in (e.bounded, (grow _ _ e.grows g, e.fine))

-- ---- given up
pub walk-over : {T A : Type 0} {made : T → Tree} (translation : T → Builder A) {sheet : Sheet} {v : ℕ} {list : List ℤ} {tape : Tape} {x : A}
    {F : ℕ → Type 0} → ((t : T) → Regular (translation t)) → Bounded tape → Over tape.next → F tape.next
    → Walks made translation sheet v list tape x list tape F
walk-over translation {list = list} {tape = tape} {x = x} regular b o f =
    record { walks = λ t h. given-up (translation t) x list tape (regular t) b o f }

-- ---- the operands' walks, then the operator's step
module _ {O S T A B : Type 0} {made : S → Tree} {to : T → Tree} {sheet : Sheet} {v : ℕ} {node : Node} {o : O}
    (operand : S → Builder A) (whole : T → Builder B) (regular : (s : S) → Regular (operand s)) {old new out : List ℤ}
    {before after end : Tape} {x : A} {z : B} {F H : ℕ → Type 0} where
  pub one-walks : {build : O → S → T} (step : O → A → Builder B)
      → ((o : O) (s : S) → whole (build o s) ≡ (operand s >>= step o)) → ((o : O) (p : A) → Regular (step o p))
      → ((t : T) → tree_at sheet v ≡ to t → OneAt sheet v node made build o t)
      → Walks made operand sheet node.a old before x new after F → Emits (step o x after.next) new after z out end H
      → Walks to whole sheet v old before z out end H
  one-walks step same rs view w c =
      record {
        walks = λ t h.
            let b = view t h in
            rw (b.is, same o b.left.it)
            (emits-bind (operand b.left.it) (step o) (regular b.left.it) (rs o) (w.walks b.left.it b.left.is) c);
      }

  pub two-walks : {mid : List ℤ} {middle : Tape} {y : A} {G : ℕ → Type 0} {build : O → S → S → T} (step : O → A → A → Builder B)
      → ((o : O) (s t : S) → whole (build o s t) ≡ (operand s >>= λ p. operand t >>= λ q. step o p q))
      → ((o : O) (p q : A) → Regular (step o p q)) → ((t : T) → tree_at sheet v ≡ to t → TwoAt sheet v node made build o t)
      → Walks made operand sheet node.a old before x mid middle F → Walks made operand sheet node.b mid middle y new after G
      → Emits (step o x y after.next) new after z out end H → Walks to whole sheet v old before z out end H
  two-walks step same rs view w u c =
      record {
        walks = λ t h.
            let b = view t h in
            let p = operand b.left.it in
            let q = operand b.right.it in
            let rq = regular b.right.it in
            rw (b.is, same o b.left.it b.right.it)
            (emits-bind p (λ l. q >>= λ r. step o l r) (regular b.left.it)
            (λ l. regular-bind q (λ r. step o l r) rq λ r. rs o l r) (w.walks b.left.it b.left.is)
            (emits-bind q (λ r. step o x r) rq (λ r. rs o x r) (u.walks b.right.it b.right.is) c));
      }
