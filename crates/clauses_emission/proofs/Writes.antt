-- Clauses written one after the other.
use mathlib.Core.Path.{◌≡◌, refl, sym, ap, ◌∙◌}
use mathlib.Core.List.{List, [], ◌∷◌, ◌++◌, map, map-append}
use Prim.Native.Nat.{ℕ, suc, ◌+◌, ◌≤◌, ◌<◌}
use native.Mathlib.Nat.{add-zero}
use native.Mathlib.Numerals.{add-one}
use native.Mathlib.Omega.{arith}
use lib.IntN.{ℤ, pos}
use lib.ListN.{length, get_or, drop, set, length-append, drop_of_length-le}
use lib.Seq.{drop-cons}
use Rattle.prelude.specs.Stores.{put_all}
use Rattle.prelude.proofs.Stores.{put-none, put_next, put_then, length-put}
use Rattle.literal.specs.Literals.{word_of}
use Rattle.literal.specs.Words.{literal_of}
use Rattle.literal.proofs.Words.{word-literal}
use Rattle.clause_list.specs.ClauseList.{words_of}
use Rattle.clause_list.proofs.Laws as list
use Rattle.clauses_rules.specs.Gates.{Clause}
use Rattle.clauses_emission.specs.declared.Tape.{Tape}
use Rattle.clauses_emission.specs.Emission.{literals_of, words_for, Writes, Appends}

pub words_append : (cs ds : List Clause) → words_for (cs ++ ds) ≡ words_for cs ++ words_for ds
words_append cs ds = ap words_of (map-append (map word_of) cs ds) ∙ list.words_append (map (map word_of) cs) (map (map word_of) ds)

-- words are the words of their literals
words_back : (ws : List ℤ) → map word_of (literals_of ws) ≡ ws
words_back [] = refl
words_back (w ∷ ws) = rw (word-literal w, words_back ws)

-- a clause's others, word by word after its count and its first literal
pub put-others : (xs : List ℤ) (k : ℕ) (ys : List ℤ) → k < length ys
    → put_all (set xs (2 + k) (get_or ys k (pos 0))) (2 + (k + 1)) (drop (k + 1) ys) ≡ put_all xs (2 + k) (drop k ys)
put-others xs k ys h =
    let shift : 2 + (k + 1) ≡ (2 + k) + 1 = omega arith in
    rw (drop-cons ys k (pos 0) h, shift, add-one k) (put_next xs (2 + k) (get_or ys k (pos 0)) (drop (suc k) ys))

put-head : (xs : List ℤ) (count first : ℤ) (ys : List ℤ)
    → put_all (set (set xs 0 count) 1 first) 2 ys ≡ put_all xs 0 (count ∷ first ∷ ys)
unfolding put_all
put-head xs count first ys = refl

-- the writer's last step
pub put-done : (xs ys zs new : List ℤ) (c count f first : ℤ) (k : ℕ) (others : List ℤ)
    → ys ≡ set xs 0 c → zs ≡ set ys 1 f → c ≡ count → f ≡ first → length others ≤ k
    → put_all new (2 + k) (drop k others) ≡ put_all zs 2 others → new ≡ put_all xs 0 (count ∷ first ∷ others)
put-done xs ys zs new c count f first k others p q e h l i =
    sym (ap (put_all new (2 + k)) (drop_of_length-le others l) ∙ put-none new (2 + k))
    ∙ i
    ∙ ap (λ (t : List ℤ). put_all t 2 others) (q ∙ ap (λ (t : List ℤ). set t 1 f) p)
    ∙ rw (e, h) (put-head xs count first others)

-- the words of one clause
pub words-one : (first : ℤ) (others : List ℤ)
    → words_for ((literal_of first ∷ literals_of others) ∷ []) ≡ pos (suc (length others)) ∷ first ∷ others
unfolding words_of
words-one first others =
    let e : length (map word_of (literals_of others)) ≡ length others = ap length (words_back others) in
    rw (e, word-literal first, words_back others) (ap (λ (l : List ℤ). pos (suc (length others)) ∷ first ∷ l) (nil others))
  where
    nil : (l : List ℤ) → l ++ [] ≡ l
    nil [] = refl
    nil (x ∷ l) = ap (λ (t : List ℤ). x ∷ t) (nil l)

pub writes-none : (list : List ℤ) (tape : Tape) → Writes [] list tape list tape
unfolding words_of
writes-none list tape = record {
  clauses = sym (add-zero tape.clauses);
  words = sym (add-zero tape.words);
  list = sym (put-none list tape.words);
}

pub writes_then : {cs ds : List Clause} {old mid new : List ℤ} {a b c : Tape}
    → Writes cs old a mid b → Writes ds mid b new c → Writes (cs ++ ds) old a new c
writes_then {cs} {ds} {old} {mid} {new} {a} {b} {c} p q = record {
  clauses = omega (arith, p.clauses, q.clauses, length-append cs ds);
  words = omega (arith, p.words, q.words, ap length (words_append cs ds), length-append (words_for cs) (words_for ds));
  list =
      q.list
      ∙ ap (λ (l : List ℤ). put_all l b.words (words_for ds)) p.list
      ∙ ap (λ (k : ℕ). put_all (put_all old a.words (words_for cs)) k (words_for ds)) p.words
      ∙ put_then old a.words (words_for cs) (words_for ds)
      ∙ ap (put_all old a.words) (sym (words_append cs ds));
}

pub writes_as : {cs ds : List Clause} {old new : List ℤ} {a b : Tape} → cs ≡ ds → Writes cs old a new b → Writes ds old a new b
writes_as {cs} {ds} {old} {new} {a} {b} e p = rw e at p

pub writes-length : {cs : List Clause} {old new : List ℤ} {a b : Tape} → Writes cs old a new b → length new ≡ length old
writes-length {cs} {old} {new} {a} {b} p = ap length p.list ∙ length-put old a.words (words_for cs)

pub appends-none : (list : List ℤ) (tape : Tape) → Appends [] list tape list tape
appends-none list tape = record { next = refl; writes = writes-none list tape }

pub appends-then : {cs ds : List Clause} {old mid new : List ℤ} {a b c : Tape}
    → Appends cs old a mid b → Appends ds mid b new c → Appends (cs ++ ds) old a new c
appends-then p q = record { next = q.next ∙ p.next; writes = writes_then p.writes q.writes }

pub appends-as : {cs ds : List Clause} {old new : List ℤ} {a b : Tape} → cs ≡ ds → Appends cs old a new b → Appends ds old a new b
appends-as e p = record { next = p.next; writes = writes_as e p.writes }
