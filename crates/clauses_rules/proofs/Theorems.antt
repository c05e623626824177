-- What this crate shows of its clauses: `gate`, `or`, `walk` and `match`.
use mathlib.Core.Path.{◌≡◌, refl, sym, ◌∙◌}
use mathlib.Core.Logic.{◌↔◌, ⊎_elim}
use mathlib.Core.Bool.{Bool, true}
use mathlib.Core.List.{List, ◌++◌, map}
use Prim.Native.Nat.{ℕ, ◌≤◌}
use lib.ListN.{length}
use Rattle.prelude.specs.Tests.{any}
use Rattle.prelude.specs.Order.{Before, NoneBefore, Some, Lists}
use Rattle.prelude.proofs.Order.{before-irreflexive, before-transitive, before-total, given-of-map, lists-of-map}
use Rattle.literal.specs.Literals.{Literal, positive}
use Rattle.clause_list.specs.ClauseList.{is_list}
use Rattle.sheet_rules.specs.declared.Layout.{Layout}
use Rattle.sheet_rules.specs.Blocks.{Sheet, sheet_of}
use Rattle.sheet_rules.specs.Reading.{accepted, reading}
use Rattle.relational.specs.Trees.{Expression, Formula}
use Rattle.relational.specs.Meaning.{Environment, Solution}
use Rattle.relational.specs.Evaluation.{value_of, truth_of}
use Rattle.relational.proofs.Accepted.{accepted-holds}
use Rattle.relational.proofs.Scopes.{within-size, within-bits}
use Rattle.clauses_rules.specs.Builder.{Gate, Built}
use Rattle.clauses_rules.specs.Gates.{or, gate_clauses, gates_clauses}
use Rattle.clauses_rules.specs.Translation.{translate, translate_formula}
use Rattle.clauses_rules.specs.Whole.{words, variable_total, word_total, read_back}
use Rattle.clauses_rules.specs.Matching.{Assignment, Match}
use Rattle.clauses_rules.proofs.Values.{value, satisfied, AllIn}
use Rattle.clauses_rules.proofs.Gate as g
use Rattle.clauses_rules.proofs.Gate.{outputs, Scoped, solved, solved-only, length-outputs}
use Rattle.clauses_rules.proofs.Build.{One}
use Rattle.clauses_rules.proofs.Connect.{values-mean, mean-values, mean-some, right_or}
use Rattle.clauses_rules.proofs.Walk.{Ready, right-translate, right-translate-formula}
use Rattle.clauses_rules.proofs.Match.{reads-instance, exactly-one}
use Rattle.clauses_rules.proofs.Order.{read-back-before}
use Rattle.clauses_rules.proofs.Accepted.{accepted-rows}
use Rattle.clauses_rules.proofs.Listed.{words-listed}

-- `gate`: the clauses of a gate hold exactly when its variable equals the OR of its inputs
pub gate : (a : List Bool) (g : ℕ) (inputs : Gate)
    → (satisfied a (gate_clauses g inputs) ≡ true) ↔ (value a (positive g) ≡ any (value a) inputs)
gate = g.gate

-- an assignment of the variables below gates extends to their variables in exactly one way
pub record OneExtension (a : List Bool) (gates : List Gate) : Type 0 where
  pub values : List Bool
  pub size : length values ≡ length gates
  pub holds : satisfied (a ++ values) (gates_clauses (length a) gates) ≡ true
  pub only : (b : List Bool) → length b ≡ length gates → satisfied (a ++ b) (gates_clauses (length a) gates) ≡ true → b ≡ values

extension : (a : List Bool) (gates : List Gate) → Scoped (length a) gates → OneExtension a gates
extension a gates s =
    record { values = outputs a gates; size = length-outputs a gates; holds = solved a gates s; only = λ b e h. solved-only a b gates s e h }

-- a step's gates extend an assignment of the variables below in exactly one way, and what the step gives then means what is said
pub record Walked (a : List Bool) {A : Type 0} (r : Built A) (Meant : List Bool → A → Type 0) : Type 0 where
  pub extends : OneExtension a r.gates
  pub next : r.next ≡ length (a ++ extends.values)
  pub meant : Meant (a ++ extends.values) r.value

-- `or`: the literal of an OR has the value of the OR of its whole list, what is struck out included
pub or-value : (a : List Bool) (ls : List Literal) → One a → AllIn (length a) ls
    → Walked a (or ls (length a)) (λ b l. value b l ≡ any (value a) ls)
unfolding extension
or-value a ls one inside =
    let means = values-mean a ls inside in
    let r = right_or a one means in
    record { extends = extension a _ r.scoped; next = r.next; meant = r.gives.value ∙ sym (mean-some means) }

-- `walk`: each assignment of the variables below, where the cells' literals have the values of an instance, extends in exactly one
-- way through the whole walk, and the walk's literals then have the values of the evaluation
module _ (sheet : Sheet) (instance : List ℕ) (cells : List Literal) (env : Environment) (a : List Bool) (ready : Ready sheet instance cells a) where
  pub walk-formula : (f : Formula)
      → Walked a (translate_formula sheet cells f env (length a)) (λ b l. value b l ≡ truth_of sheet instance f env)
  unfolding extension
  walk-formula f =
      let r = right-translate-formula sheet instance cells f env a ready in
      record { extends = extension a _ r.scoped; next = r.next; meant = r.gives.value }

  pub walk-expression : (e : Expression)
      → Walked a (translate sheet cells e env (length a)) (λ b p. map (value b) p.cells ≡ (value_of sheet instance e env).cells)
  unfolding extension
  walk-expression e =
      let r = right-translate sheet instance cells e env a ready in
      record { extends = extension a _ r.scoped; next = r.next; meant = mean-values r.gives.cells }

-- `match`: for every accepted sheet, instances within the scopes that satisfy marks and formula are read back from exactly one
-- satisfying assignment, and every satisfying assignment reads back to one
module _ (s : List ℕ) (layout : Layout) (taken : reading s ≡ accepted layout) where
  pub match : Match (sheet_of s)
  match =
      record {
        once = λ i h. exactly-one (sheet_of s) i record {
          within = h.within.bytes;
          holds = (accepted-holds s layout taken i).1 (
            h.within.of_atoms,
            h.satisfies,
          );
        };
        reads = λ a h.
            let r = reads-instance (sheet_of s) a h in
            let t = (accepted-holds s layout taken (read_back (sheet_of s) a)).0 r.holds in
            record { within = record { bytes = r.within; of_atoms = t.0 }; satisfies = t.1 };
      }

  -- no satisfying assignment exactly when no instance satisfies
  pub none : ((a : List ℕ) → Assignment (sheet_of s) a → ⊥) ↔ ((i : List ℕ) → Solution (sheet_of s) i → ⊥)
  none = (
    (λ h i p. let o = match.once i p in h o.assignment o.satisfying),
    λ h a p. h (read_back (sheet_of s) a) (match.reads a p),
  )

  -- the first satisfying assignment reads back to the first instance that satisfies
  pub first : (a : List ℕ) → Assignment (sheet_of s) a → NoneBefore (Assignment (sheet_of s)) a
      → NoneBefore (Solution (sheet_of s)) (read_back (sheet_of s) a)
  first a h none_before i p before =
      let o = match.once i p in
      none_before o.assignment o.satisfying (read-back-before (sheet_of s) o.assignment a o.satisfying h (rw o.reads before))

  -- and of two assignments the earlier one reads back to the earlier instance
  pub before-reads : (a b : List ℕ) → Assignment (sheet_of s) a → Assignment (sheet_of s) b → Before a b
      → Before (read_back (sheet_of s) a) (read_back (sheet_of s) b)
  before-reads a b p q h =
      let i = (match.reads a p).within.bytes in
      let j = (match.reads b q).within.bytes in
      ⊎_elim (λ x. x)
      (⊎_elim (λ x. absurd (before-irreflexive b (rw (same_reads a b p q x) at h)))
      (λ x. absurd (before-irreflexive a (before-transitive a b a h (read-back-before (sheet_of s) b a q p x)))))
      (before-total (read_back (sheet_of s) a) (read_back (sheet_of s) b) (within-size (sheet_of s) _ i ∙ sym (within-size (sheet_of s) _ j))
      (within-bits (sheet_of s) _ i) (within-bits (sheet_of s) _ j))
    where
      same_reads : (a b : List ℕ) → Assignment (sheet_of s) a → Assignment (sheet_of s) b → read_back (sheet_of s) a ≡ read_back (sheet_of s) b → a ≡ b
      same_reads a b p q e =
          let o = match.once (read_back (sheet_of s) b) (match.reads b q) in o.only a p e ∙ sym (o.only b q refl)

  -- so a list of satisfying assignments reads back to one of the instances that satisfy, and all of them to all
  from_one : (i : List ℕ) → Solution (sheet_of s) i
      → (a : List ℕ) × Assignment (sheet_of s) a × (read_back (sheet_of s) a ≡ i)
  from_one i p = let o = match.once i p in (o.assignment, o.satisfying, o.reads)

  pub lists-read : (found : List (List ℕ)) → Lists (Assignment (sheet_of s)) found
      → Lists (Solution (sheet_of s)) (map (read_back (sheet_of s)) found)
  lists-read =
      lists-of-map (Assignment (sheet_of s)) (Solution (sheet_of s)) (read_back (sheet_of s))
      match.reads before-reads from_one

  pub all_read : (found : List (List ℕ)) → ((a : List ℕ) → Assignment (sheet_of s) a → Some (λ b. b ≡ a) found)
      → (i : List ℕ) → Solution (sheet_of s) i → Some (λ j. j ≡ i) (map (read_back (sheet_of s)) found)
  all_read =
      given-of-map (Assignment (sheet_of s)) (Solution (sheet_of s)) (read_back (sheet_of s))
      match.reads before-reads from_one

  -- `listed`: the search takes the clauses as they are written, where they fit the limits
  pub listed : variable_total (sheet_of s) ≤ 16000 → word_total (sheet_of s) ≤ 2147483647
      → is_list (variable_total (sheet_of s)) (words (sheet_of s)) ≡ true
  listed = words-listed (sheet_of s) (accepted-rows s layout taken)
