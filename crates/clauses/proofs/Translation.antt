-- The steps of a whole translation give the definition's clauses.
use mathlib.Core.Path.{◌≡◌, refl, ap, ◌∙◌}
use mathlib.Core.List.{List, [], ◌∷◌, map}
use Prim.Native.Nat.{ℕ, zero, suc, pred, ◌+◌, ◌≤◌, ◌<◌}
use native.Mathlib.Nat.{zero-add}
use native.Mathlib.Omega.{arith}
use lib.IntN.{ℤ}
use lib.ListN.{length, take, replicate}
use lib.Seq.{length-take-le}
use Rattle.literal.specs.Literals.{Literal, positive}
use Rattle.clause_list.specs.ClauseList.{words_of}
use Rattle.sheet_rules.specs.declared.Layout.{Layout}
use Rattle.sheet_rules.specs.Blocks.{sheet_of, root}
use Rattle.sheet_rules.specs.Reading.{accepted, reading}
use Rattle.sheet_rules.proofs.Acceptance.{accepted-facts}
use Rattle.relational.specs.Cells.{most_cells, cell_count}
use Rattle.relational.specs.Matrices.{upto}
use Rattle.cells.specs.Private.{Starts}
use Rattle.nodes.specs.Environments.{environment}
use Rattle.nodes.specs.Nodes.{IsFormula}
use Rattle.nodes.proofs.Binding.{zero-atoms}
use Rattle.nodes.proofs.Roots.{root_formula}
use Rattle.clauses_rules.specs.Translation.{translate_formula}
use Rattle.clauses_rules.specs.Whole.{member_clauses, mark_clauses, cell_literals, first_gate, root_walk, clauses, words}
use Rattle.clauses_rules.specs.Whole.{variable_total, clause_total, word_total}
use Rattle.clauses_emission.specs.declared.Tape.{Tape}
use Rattle.clauses_emission.specs.Emission.{Inside, AllInside, literals_of, Writes, Appends, Room, Bounded, Within, Emits}
use Rattle.clauses_emission.proofs.Writes.{writes_then, writes_as, writes-length}
use Rattle.clauses_emission.proofs.Steps.{emits-as}
use Rattle.clauses_marks.specs.Marking.{Small, Adds}
use Rattle.clauses_translation.specs.Walks.{Ready, WalksFormula}
use Rattle.clauses.specs.Translating.{CellWords, Translates}
use Rattle.clauses.proofs.CellWords.{cells_inside_ok}

-- an accepted sheet, and the words of its cells
pub record Translatable (s : List ℕ) (layout : Layout) (given : List ℤ) : Type 0 where
  pub taken : reading s ≡ accepted layout
  pub few : cell_count (sheet_of s) ≤ most_cells
  pub size : length given ≡ cell_count (sheet_of s)
  pub cells : literals_of given ≡ cell_literals (sheet_of s)

pub translatable : {s : List ℕ} {layout : Layout} {n : ℕ} {starts : List ℕ} {ws : List ℤ} → reading s ≡ accepted layout
    → (n ≡ cell_count (sheet_of s)) × ((n ≤ most_cells) × Starts (sheet_of s) starts) → CellWords n ws
    → Translatable s layout (take n ws)
translatable {n = n} {ws = ws} taken c w =
    record {
      taken = taken;
      few = rw (← c.0) c.1.0;
      size = length-take-le n ws (omega (arith, w.room, c.1.0)) ∙ c.0;
      cells = w.cells ∙ ap (λ (k : ℕ). map (λ (i : ℕ). positive (2 + i)) (upto k)) c.0;
    }

module _ {s : List ℕ} {layout : Layout} {given : List ℤ} (t : Translatable s layout given) where
  -- ---- what the steps ask for
  pub root_is : IsFormula (sheet_of s) (root (sheet_of s))
  root_is = root_formula (sheet_of s) (accepted-facts s layout t.taken)

  given_inside : {m : ℕ} → first_gate (sheet_of s) ≤ m → AllInside m (literals_of given)
  given_inside {m} h = rw t.cells (cells_inside_ok (cell_count (sheet_of s)) m h)

  pub all-inside : AllInside 16002 (literals_of given)
  all-inside = given_inside (omega (arith, t.few))

  module _ {start first : Tape} {old l₁ : List ℤ} (en : start.next ≡ first_gate (sheet_of s)) (ec : start.clauses ≡ 0)
      (ew : start.words ≡ 0) (p : Appends ((positive 1 ∷ []) ∷ []) old start l₁ first) where
    first-clauses : first.clauses ≡ 1
    first-clauses = omega (arith, p.writes.clauses, ec)

    first-words : first.words ≡ 2
    unfolding words_of
    first-words = p.writes.words ∙ rw ew refl

    pub first_small : Small 1000 first
    first_small = record { clauses = omega (arith, first-clauses); words = omega (arith, first-words) }

    module _ {inner : Tape} {l₀ : List ℤ} (o : Adds 6144 (member_clauses (sheet_of s) (literals_of given)) l₁ first
        l₀ inner) where
      pub inner-small : Small 10000 inner
      inner-small = record {
        clauses = omega (arith, first_small.clauses, o.few_clauses);
        words = omega (arith, first_small.words, o.few_words);
      }

      module _ {marked : Tape} {l₂ : List ℤ} (q : Adds 22784 (mark_clauses (sheet_of s) (literals_of given)) l₀ inner l₂
          marked) where
        marked_next : marked.next ≡ first_gate (sheet_of s)
        marked_next = q.appends.next ∙ o.appends.next ∙ p.next ∙ en

        bounded : Bounded marked
        bounded = record {
          first = omega (arith, marked_next);
          last = omega (arith, marked_next, t.few);
          clauses = omega (arith, marked_next, first-clauses, o.few_clauses, q.few_clauses);
          words = omega (arith, marked_next, first-words, o.few_words, q.few_words);
        }

        pub root-ready : Ready given marked
        root-ready = record {
          bounded = bounded;
          inside = given_inside
              (omega (arith, marked_next));
        }

        -- ---- the root's walk
        root-built : translate_formula (sheet_of s) (literals_of given) root_is.it (environment (replicate 4 0))
            marked.next
            ≡ root_walk (sheet_of s)
        unfolding root_walk
        root-built = rw (root_is.is, zero-atoms, t.cells, marked_next)

        module _ {l₃ : List ℤ} {walked : Tape} {at : ℕ} {l : Literal} (ea : at ≡ root (sheet_of s))
            (r : WalksFormula (sheet_of s) given (replicate 4 0) at l₂ marked l l₃ walked) where
          walk : Emits (root_walk (sheet_of s)) l₂ marked l l₃ walked (λ n. Inside n l)
          walk = emits-as root-built refl (r.walks root_is.it (rw ea root_is.is))

          pub walk-room : (others : List ℤ) → length others ≡ 0 → Room walked others
          walk-room others e =
              let b = walk.bounded in
              record {
                few = omega arith;
                clauses = omega (arith, b.clauses, b.last);
                words = omega (
                  arith,
                  b.words,
                  b.last,
                );
              }

          module _ {new : List ℤ} {end : Tape} (z : Appends ((l ∷ []) ∷ []) l₃ walked new end) where
            all-written : Within walked.next → Writes (clauses (sheet_of s)) old start new end
            unfolding clauses
            all-written h =
                let d = walk.done h in
                writes_as (rw (t.cells, marked_next, d.value))
                (writes_then p.writes
                (writes_then o.appends.writes (writes_then q.appends.writes
                (writes_then d.writes z.writes))))

            pub translates : Translates (sheet_of s) old new end
            unfolding words variable_total
            translates = record {
              kept = writes-length z.writes ∙ walk.kept ∙ writes-length q.appends.writes
                  ∙ writes-length o.appends.writes
                  ∙ writes-length p.writes;
              some = omega (arith, z.next, walk.bounded.first);
              variable_count_ok = λ h. ap pred (z.next ∙ (walk.done (rw z.next at h)).next);
              clause_count = λ h. (all-written (rw z.next at h)).clauses ∙ rw ec (zero-add (clause_total (sheet_of s)));
              word_count = λ h. (all-written (rw z.next at h)).words ∙ rw ew (zero-add (word_total (sheet_of s)));
              list = λ h. (all-written (rw z.next at h)).list ∙ rw ew refl;
              over = λ h. past (root_walk (sheet_of s)).next (walk.over (rw z.next at h));
            }
              where
                past : (n : ℕ) → 16001 < n → 16000 < pred n
                past zero h = absurd (omega arith)
                past (suc n) h = omega arith
