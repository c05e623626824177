-- Gates: their clauses, word by word, and OR by the number of its inputs.
use mathlib.Core.Path.{◌≡◌, refl, sym, ap, ◌∙◌}
use mathlib.Core.List.{List, [], ◌∷◌, ◌++◌, map, append-nil, map-append}
use Prim.Native.Nat.{ℕ, suc, ◌+◌, ◌*◌, ◌≤◌, ◌<◌}
use native.Mathlib.Omega.{arith}
use lib.IntN.{ℤ, pos}
use mir.Syntax.{w32}
use mir.Val.{SFits}
use lib.ListN.{length, get_or, take, set, length-append, length-map}
use lib.Seq.{take-suc, take-suc-set}
use Rattle.literal.specs.Literals.{Literal, positive, negative, opposite, word_of}
use Rattle.literal.specs.Words.{literal_of, opposite_word}
use Rattle.literal.proofs.Signs.{read}
use Rattle.clause_list.specs.ClauseList.{words_of}
use Rattle.clauses_rules.specs.Builder.{Builder, return, ◌<$>◌}
use Rattle.clauses_rules.specs.Gates.{Clause, gate_of, or_of, input_clauses, gates_clauses}
use Rattle.clauses_emission.specs.declared.Tape.{Tape}
use Rattle.clauses_emission.specs.Emission.{Inside, literals_of, words_for, Appends, Room, Bounded, Within, Emits, EmitsLiteral}
use Rattle.clauses_emission.proofs.Writes.{writes_then, writes_as, writes-length}
use Rattle.clauses_emission.proofs.Ranges.{inside-opposite, opposite-read}
use Rattle.clauses_emission.proofs.Steps.{emits-map}

-- ---- the clauses of a gate's inputs
inputs-more : (g : ℕ) (ls : List Literal) (l : Literal)
    → input_clauses g (ls ++ (l ∷ [])) ≡ input_clauses g ls ++ ((positive g ∷ opposite l ∷ []) ∷ [])
unfolding input_clauses
inputs-more g [] l = refl
inputs-more g (k ∷ ls) l = ap (λ (cs : List Clause). (positive g ∷ opposite k ∷ []) ∷ cs) (inputs-more g ls l)

pub inputs-next : (g : ℕ) (ws : List ℤ) (k : ℕ) → k < length ws
    → input_clauses g (literals_of (take k ws)) ++ ((positive g ∷ opposite (literal_of (get_or ws k (pos 0))) ∷ []) ∷ [])
    ≡ input_clauses g (literals_of (take (suc k) ws))
inputs-next g ws k h =
    sym
    (ap (λ (l : List ℤ). input_clauses g (literals_of l)) (take-suc ws k (pos 0) h)
    ∙ ap (input_clauses g) (map-append literal_of (take k ws) (get_or ws k (pos 0) ∷ []))
    ∙ inputs-more g (literals_of (take k ws)) (literal_of (get_or ws k (pos 0))))

inputs-clauses : (g : ℕ) (ls : List Literal) → length (input_clauses g ls) ≡ length ls
unfolding input_clauses
inputs-clauses g [] = refl
inputs-clauses g (l ∷ ls) = ap suc (inputs-clauses g ls)

inputs-words : (g : ℕ) (ls : List Literal) → length (words_for (input_clauses g ls)) ≡ 3 * length ls
unfolding input_clauses words_of
inputs-words g [] = refl
inputs-words g (l ∷ ls) = omega (arith, inputs-words g ls)

-- how far the inputs' clauses of a gate can come
pub inputs-room : (tape : Tape) (ls : List Literal) (others : List ℤ) {after : Tape} {old new : List ℤ} → Bounded tape → length ls ≤ 2016
    → length others ≤ 2016 → Appends (input_clauses tape.next ls) old tape new after → Room after others
inputs-room tape ls others b few o a = record {
  few = o;
  clauses = omega (arith, a.writes.clauses, inputs-clauses tape.next ls, b.clauses, b.last);
  words = omega (arith, a.writes.words, inputs-words tape.next ls, b.words, b.last);
}

pub length-literals : (ws : List ℤ) → length (literals_of ws) ≡ length ws
length-literals ws = length-map ws literal_of

last-words : (g : ℕ) (ls : List Literal) → length (words_for ((negative g ∷ ls) ∷ [])) ≡ 2 + length ls
unfolding words_of
last-words g ls = omega (arith, length-append (map word_of ls) [], length-words ls)
  where
    length-words : (ks : List Literal) → length (map word_of ks) ≡ length ks
    length-words [] = refl
    length-words (k ∷ ks) = ap suc (length-words ks)

-- ---- the gate
module _ (tape : Tape) (ls : List Literal) (bounded : Bounded tape) (within : Within tape.next) (few : length ls ≤ 2016) where
  pub gate-emits : {old mid new : List ℤ} {b c d : Tape} → Appends (input_clauses tape.next ls) old tape mid b
      → Appends ((negative tape.next ∷ ls) ∷ []) mid b new c
      → d.next ≡ c.next + 1 → d.clauses ≡ c.clauses → d.words ≡ c.words
      → Emits (gate_of ls tape.next) old tape (positive tape.next) new d (λ n. Inside n (positive tape.next))
  unfolding gates_clauses
  gate-emits {old} {mid} {new} {b} {c} {d} p q e f h =
      let g = tape.next in
      let n : d.next ≡ suc g = omega (arith, e, p.next, q.next) in
      let w = writes_then p.writes q.writes in
      record {
        bounded = record {
          first = omega (arith, n, bounded.first);
          last = omega (arith, n, within);
          clauses = omega (arith, n, f, p.writes.clauses, q.writes.clauses, inputs-clauses g ls, bounded.clauses);
          words = omega (arith, n, h, p.writes.words, q.writes.words, inputs-words g ls, last-words g ls, bounded.words);
        };
        grows = omega (arith, n);
        kept = writes-length w;
        fine = record { low = omega (arith, bounded.first); high = omega (arith, n) };
        done = λ o. record {
          value = refl;
          next = n;
          writes =
              writes_as (sym (append-nil (input_clauses g ls ++ ((negative g ∷ ls) ∷ []))))
              (record { clauses = f ∙ w.clauses; words = h ∙ w.words; list = w.list });
        };
        over = λ o. omega (arith, n, o);
      }

-- ---- what remains of an OR, by its number
pub or-none : (ws : List ℤ) (g : ℕ) → length ws ≡ 0 → return (negative 1) g ≡ or_of (literals_of ws) g
or-none [] g e = refl
or-none (w ∷ ws) g e = absurd (omega (arith, e))

pub or-one : (ws : List ℤ) (g : ℕ) → length ws ≡ 1 → return (literal_of (get_or ws 0 (pos 0))) g ≡ or_of (literals_of ws) g
or-one [] g e = absurd (omega (arith, e))
or-one (w ∷ []) g e = refl
or-one (w ∷ v ∷ ws) g e = absurd (omega (arith, e))

pub or-many : (ws : List ℤ) (g : ℕ) → (length ws ≡ 0 → ⊥) → (length ws ≡ 1 → ⊥) → gate_of (literals_of ws) g ≡ or_of (literals_of ws) g
or-many [] g e f = absurd (e refl)
or-many (w ∷ []) g e f = absurd (f refl)
or-many (w ∷ v ∷ ws) g e f = refl

-- ---- the opposites of inputs, one after the other
pub opposites-next : (ws out : List ℤ) (k : ℕ) (r : ℤ) → k < length ws → k < length out
    → literals_of (take k out) ≡ map opposite (literals_of (take k ws)) → literal_of r ≡ opposite (literal_of (get_or ws k (pos 0)))
    → literals_of (take (suc k) (set out k r)) ≡ map opposite (literals_of (take (suc k) ws))
opposites-next ws out k r h l e f =
    let w = get_or ws k (pos 0) in
    ap literals_of (take-suc-set out k r l)
    ∙ map-append literal_of (take k out) (r ∷ [])
    ∙ rw (e, f)
    (sym
    (ap (λ (t : List ℤ). map opposite (literals_of t)) (take-suc ws k (pos 0) h)
    ∙ ap (map opposite) (map-append literal_of (take k ws) (w ∷ []))
    ∙ map-append opposite (literals_of (take k ws)) (literal_of w ∷ [])))

-- ---- the opposite of what a step gives
pub emits-negated : (step : Builder Literal) {x y : ℤ} {old new : List ℤ} {a b : Tape} → EmitsLiteral (step a.next) old a x new b
    → SFits w32 x → y ≡ opposite_word (read x) → SFits w32 y → EmitsLiteral ((opposite <$> step) a.next) old a (read y) new b
emits-negated step {x} {y} p f e g =
    let o : literal_of (read y) ≡ opposite (literal_of x) = opposite-read _ x y p.bounded.last f p.fine e g in
    emits-map opposite step p o (rw o (inside-opposite (literal_of x) p.fine))
