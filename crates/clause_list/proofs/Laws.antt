-- Laws of clause lists: how a list is cut, what a list that number 12 lets pass gives, and the words of a list of clauses.
use mathlib.Core.Path.{◌≡◌, refl, sym, ap, ◌∙◌}
use mathlib.Core.Bool.{Bool, true, false, ◌&&◌}
use mathlib.Core.List.{List, [], ◌∷◌, ◌++◌, append_assoc, append-nil}
use Prim.Native.Nat.{ℕ, zero, suc, ◌+◌, ◌<◌, ◌≤◌}
use native.Mathlib.Nat.{not-suc-le-zero, le_refl, suc-add}
use native.Mathlib.Omega.{arith}
use lib.Dec.{leb}
use lib.IntN.{ℤ, pos, negsuc, nat_abs}
use lib.ListN.{length, get_or, take, drop, length-append, length-drop, take-append-drop}
use lib.Seq.{drop-cons, take-append_seam, drop-append_seam, drop-drop, length-take-le}
use borrow.Author.Tests.{leb-true, le-leb, lt-leb}
use Rattle.prelude.specs.Tests.{between, all}
use Rattle.prelude.proofs.Laws.{clash, and_left, and_right, and_both, and-rest, and-not-left, and-not-right}
use Rattle.prelude.proofs.Laws.{between-low, between-high, is-between, below-not-between, above-not-between}
use Rattle.literal.specs.Literals.{is_literal}
use Rattle.literal.specs.Words.{count_of}
use Rattle.clause_list.specs.ClauseList.{cut, clauses_of, words_of, is_count, well_cut, is_list}

-- any number of rounds that is not below the words cuts the same clauses
pub cut-rounds : (r s : ℕ) (ws : List ℤ) → length ws ≤ r → length ws ≤ s → cut r ws ≡ cut s ws
unfolding cut
cut-rounds zero zero ws g h = refl
cut-rounds zero (suc s) [] g h = refl
cut-rounds zero (suc s) (count ∷ ws) g h = absurd (not-suc-le-zero g)
cut-rounds (suc r) zero [] g h = refl
cut-rounds (suc r) zero (count ∷ ws) g h = absurd (not-suc-le-zero h)
cut-rounds (suc r) (suc s) [] g h = refl
cut-rounds (suc r) (suc s) (count ∷ ws) g h =
    let n = nat_abs count in
    ap (λ (cs : List (List ℤ)). take n ws ∷ cs)
    (cut-rounds r s (drop n ws) (omega (arith, length-drop n ws)) (omega (arith, length-drop n ws)))

pub well-cut-rounds : (v r s : ℕ) (ws : List ℤ) → length ws ≤ r → length ws ≤ s → well_cut v r ws ≡ well_cut v s ws
unfolding well_cut
well-cut-rounds v zero zero ws g h = refl
well-cut-rounds v zero (suc s) [] g h = refl
well-cut-rounds v zero (suc s) (count ∷ ws) g h = absurd (not-suc-le-zero g)
well-cut-rounds v (suc r) zero [] g h = refl
well-cut-rounds v (suc r) zero (count ∷ ws) g h = absurd (not-suc-le-zero h)
well-cut-rounds v (suc r) (suc s) [] g h = refl
well-cut-rounds v (suc r) (suc s) (count ∷ ws) g h =
    let n = nat_abs count in
    ap (λ (b : Bool). is_count (length ws) count && (all (is_literal v) (take n ws) && b))
    (well-cut-rounds v r s (drop n ws) (omega (arith, length-drop n ws)) (omega (arith, length-drop n ws)))

-- a list in its own number of rounds
abbrev pub well_cut_words : ℕ → List ℤ → Bool
well_cut_words v ws = well_cut v (length ws) ws

pub clauses-nil : clauses_of [] ≡ []
unfolding cut
clauses-nil = refl

pub clauses-cons : (count : ℤ) (ws : List ℤ)
    → clauses_of (count ∷ ws) ≡ take (nat_abs count) ws ∷ clauses_of (drop (nat_abs count) ws)
unfolding cut
clauses-cons count ws =
    let n = nat_abs count in
    ap (λ (cs : List (List ℤ)). take n ws ∷ cs)
    (cut-rounds (length ws) (length (drop n ws)) (drop n ws) (omega (arith, length-drop n ws)) (le_refl (length (drop n ws))))

pub well-cut-nil : (v : ℕ) → well_cut_words v [] ≡ true
unfolding well_cut
well-cut-nil v = refl

pub well-cut-cons : (v : ℕ) (count : ℤ) (ws : List ℤ)
    → well_cut_words v (count ∷ ws)
    ≡ (is_count (length ws) count && (all (is_literal v) (take (nat_abs count) ws) && well_cut_words v (drop (nat_abs count) ws)))
unfolding well_cut
well-cut-cons v count ws =
    let n = nat_abs count in
    ap (λ (b : Bool). is_count (length ws) count && (all (is_literal v) (take n ws) && b))
    (well-cut-rounds v (length ws) (length (drop n ws)) (drop n ws) (omega (arith, length-drop n ws)) (le_refl (length (drop n ws))))

-- a list by the number that its first word counts
module _ (v : ℕ) {head : ℤ} {n : ℕ} {ws rest : List ℤ} (r : rest ≡ head ∷ ws) (e : n ≡ count_of head) where
  counted : (w : ℤ) → (n ≡ count_of w) → is_count (length ws) w ≡ between 1 (length ws) n
  counted (pos k) p = rw p
  counted (negsuc k) p = rw p

  cut-front : well_cut_words v rest
      ≡ (between 1 (length ws) n && (all (is_literal v) (take (nat_abs head) ws) && well_cut_words v (drop (nat_abs head) ws)))
  cut-front = ap (well_cut_words v) r ∙ well-cut-cons v head ws ∙ rw (counted head e)

  pub cut-low : n < 1 → well_cut_words v rest ≡ false
  cut-low h = cut-front ∙ and-not-left (between 1 (length ws) n) _ (below-not-between 1 (length ws) n h)

  pub cut-past : length ws < n → well_cut_words v rest ≡ false
  cut-past h = cut-front ∙ and-not-left (between 1 (length ws) n) _ (above-not-between 1 (length ws) n h)

  within : (w : ℤ) → n ≡ count_of w → 1 ≤ n → nat_abs w ≡ n
  within (pos k) p h = sym p
  within (negsuc k) p h = absurd (omega arith)

  pub cut-clause : 1 ≤ n → n ≤ length ws → well_cut_words v rest ≡ (all (is_literal v) (take n ws) && well_cut_words v (drop n ws))
  cut-clause l h =
      cut-front
      ∙ and-rest (between 1 (length ws) n) _ (is-between 1 (length ws) n l h)
      ∙ ap (λ (k : ℕ). all (is_literal v) (take k ws) && well_cut_words v (drop k ws)) (within head e l)

-- a count that passes
pub count_word : (left : ℕ) (count : ℤ) → is_count left count ≡ true → count ≡ pos (nat_abs count)
count_word left (pos n) e = refl
count_word left (negsuc n) e = clash false e refl

pub count_low : (left : ℕ) (count : ℤ) → is_count left count ≡ true → 1 ≤ nat_abs count
count_low left (pos n) e = between-low 1 left n e
count_low left (negsuc n) e = clash false e refl

pub count-high : (left : ℕ) (count : ℤ) → is_count left count ≡ true → nat_abs count ≤ left
count-high left (pos n) e = between-high 1 left n e
count-high left (negsuc n) e = clash false e refl

-- the clause that stands at a place of a list
pub record ClauseAt (v : ℕ) (ws : List ℤ) (at n : ℕ) : Type 0 where
  pub head : get_or ws at (pos 0) ≡ pos n
  pub some : 1 ≤ n
  pub fits : suc (at + n) ≤ length ws
  pub literals : all (is_literal v) (take n (drop (suc at) ws)) ≡ true
  pub clauses : clauses_of (drop at ws) ≡ take n (drop (suc at) ws) ∷ clauses_of (drop (suc (at + n)) ws)
  pub rest : well_cut_words v (drop (suc (at + n)) ws) ≡ true

module _ (v : ℕ) (ws : List ℤ) (at : ℕ) (h : at < length ws) (e : well_cut_words v (drop at ws) ≡ true) where
  pub clause-at : ClauseAt v ws at (nat_abs (get_or ws at (pos 0)))
  clause-at =
      let count = get_or ws at (pos 0) in
      let n = nat_abs count in
      let tail = drop (suc at) ws in
      let d : drop at ws ≡ count ∷ tail = drop-cons ws at (pos 0) h in
      let w : (is_count (length tail) count && (all (is_literal v) (take n tail) && well_cut_words v (drop n tail))) ≡ true
      = sym (well-cut-cons v count tail) ∙ ap (well_cut_words v) (sym d) ∙ e in
      let c : is_count (length tail) count ≡ true = and_left (is_count (length tail) count) _ w in
      let r : (all (is_literal v) (take n tail) && well_cut_words v (drop n tail)) ≡ true = and_right (is_count (length tail) count) _ w in
      let m : drop n tail ≡ drop (suc (at + n)) ws = drop-drop n (suc at) ws ∙ ap (λ (k : ℕ). drop k ws) (suc-add at n) in
      record {
        head = count_word (length tail) count c;
        some = count_low (length tail) count c;
        fits = omega (arith, count-high (length tail) count c, length-drop (suc at) ws);
        literals = and_left (all (is_literal v) (take n tail)) _ r;
        clauses = ap clauses_of d ∙ clauses-cons count tail ∙ ap (λ (l : List ℤ). take n tail ∷ clauses_of l) m;
        rest = rw m at (and_right (all (is_literal v) (take n tail)) _ r);
      }

-- each clause takes a word at least
pub cut-few : (r : ℕ) (ws : List ℤ) → length (cut r ws) ≤ r
unfolding cut
cut-few zero ws = omega arith
cut-few (suc r) [] = omega arith
cut-few (suc r) (count ∷ ws) = omega (arith, cut-few r (drop (nat_abs count) ws))

pub clauses-few : (ws : List ℤ) → length (clauses_of ws) ≤ length ws
clauses-few ws = cut-few (length ws) ws

-- each clause has a literal, and each literal is one of the variables 1 to v
abbrev pub has_literal : List ℤ → Bool
has_literal clause = leb 1 (length clause)

pub clauses-literals : (v r : ℕ) (ws : List ℤ) → well_cut v r ws ≡ true → all (all (is_literal v)) (cut r ws) ≡ true
unfolding cut well_cut all
clauses-literals v zero ws e = refl
clauses-literals v (suc r) [] e = refl
clauses-literals v (suc r) (count ∷ ws) e =
    let n = nat_abs count in
    let s = and_right (is_count (length ws) count) (all (is_literal v) (take n ws) && well_cut v r (drop n ws)) e in
    and_both (all (is_literal v) (take n ws)) (all (all (is_literal v)) (cut r (drop n ws)))
    (and_left (all (is_literal v) (take n ws)) (well_cut v r (drop n ws)) s)
    (clauses-literals v r (drop n ws) (and_right (all (is_literal v) (take n ws)) (well_cut v r (drop n ws)) s))

-- what number 12 lets pass
module _ (v : ℕ) (ws : List ℤ) (e : is_list v ws ≡ true) where
  pub list-variables : between 1 16000 v ≡ true
  unfolding is_list
  list-variables = and_left (between 1 16000 v) _ e

  pub list-some-variable : 1 ≤ v
  list-some-variable = between-low 1 16000 v list-variables

  pub list-most-variables : v ≤ 16000
  list-most-variables = between-high 1 16000 v list-variables

  pub list-most-words : length ws ≤ 2147483647
  unfolding is_list
  list-most-words = leb-true (length ws) 2147483647 (and_left (leb (length ws) 2147483647) _ (and_right (between 1 16000 v) _ e))

  pub list-well-cut : well_cut_words v ws ≡ true
  unfolding is_list
  list-well-cut = and_right (leb (length ws) 2147483647) _ (and_right (between 1 16000 v) _ e)

  pub list-literals : all (all (is_literal v)) (clauses_of ws) ≡ true
  list-literals = clauses-literals v (length ws) ws list-well-cut

-- the tests before the cut, in their order
module _ (v : ℕ) (ws : List ℤ) where
  pub no-variable : v < 1 → is_list v ws ≡ false
  unfolding is_list
  no-variable h = and-not-left (between 1 16000 v) _ (below-not-between 1 16000 v h)

  pub many-variables : 16000 < v → is_list v ws ≡ false
  unfolding is_list
  many-variables h = and-not-left (between 1 16000 v) _ (above-not-between 1 16000 v h)

  pub many-words : 2147483647 < length ws → is_list v ws ≡ false
  unfolding is_list
  many-words h = and-not-right (between 1 16000 v) _ (and-not-left (leb (length ws) 2147483647) _ (lt-leb (length ws) 2147483647 h))

  pub list-cut : 1 ≤ v → v ≤ 16000 → length ws ≤ 2147483647 → is_list v ws ≡ well_cut_words v ws
  unfolding is_list
  list-cut l h k =
      and-rest (between 1 16000 v) _ (is-between 1 16000 v l h) ∙ and-rest (leb (length ws) 2147483647) _ (le-leb (length ws) 2147483647 k)

-- the words of clauses, and the clauses of words
pub words_append : (cs ds : List (List ℤ)) → words_of (cs ++ ds) ≡ words_of cs ++ words_of ds
unfolding words_of
words_append [] ds = refl
words_append (c ∷ cs) ds =
    ap (λ (ws : List ℤ). pos (length c) ∷ (c ++ ws)) (words_append cs ds)
    ∙ ap (λ (ws : List ℤ). pos (length c) ∷ ws) (sym (append_assoc c (words_of cs) (words_of ds)))

pub clauses-words-append : (cs : List (List ℤ)) (ws : List ℤ) → clauses_of (words_of cs ++ ws) ≡ cs ++ clauses_of ws
unfolding words_of
clauses-words-append [] ws = refl
clauses-words-append (c ∷ cs) ws =
    let tail = words_of cs ++ ws in
    clauses-cons (pos (length c)) (c ++ words_of cs ++ ws)
    ∙ rw (append_assoc c (words_of cs) ws, take-append_seam c tail, drop-append_seam c tail, clauses-words-append cs ws)

pub clauses-words : (cs : List (List ℤ)) → clauses_of (words_of cs) ≡ cs
clauses-words cs =
    ap clauses_of (sym (append-nil (words_of cs))) ∙ clauses-words-append cs [] ∙ ap (λ (ds : List (List ℤ)). cs ++ ds) clauses-nil ∙ append-nil cs

pub well-cut-words : (v : ℕ) (cs : List (List ℤ)) → all has_literal cs ≡ true → all (all (is_literal v)) cs ≡ true
    → well_cut_words v (words_of cs) ≡ true
unfolding words_of all
well-cut-words v [] s e = well-cut-nil v
well-cut-words v (c ∷ cs) s e =
    let tail = words_of cs in
    well-cut-cons v (pos (length c)) (c ++ tail)
    ∙ rw (take-append_seam c tail, drop-append_seam c tail)
    (and_both (is_count (length (c ++ tail)) (pos (length c))) (all (is_literal v) c && well_cut_words v tail)
    (is-between 1 (length (c ++ tail)) (length c)
    (leb-true 1 (length c) (and_left (has_literal c) (all has_literal cs) s))
    (omega (arith, length-append c tail)))
    (and_both (all (is_literal v) c) (well_cut_words v tail)
    (and_left (all (is_literal v) c) (all (all (is_literal v)) cs) e)
    (well-cut-words v cs
    (and_right (has_literal c) (all has_literal cs) s)
    (and_right (all (is_literal v) c) (all (all (is_literal v)) cs) e))))

pub words-list : (v : ℕ) (cs : List (List ℤ)) → 1 ≤ v → v ≤ 16000 → length (words_of cs) ≤ 2147483647
    → all has_literal cs ≡ true → all (all (is_literal v)) cs ≡ true → is_list v (words_of cs) ≡ true
words-list v cs l h k s e = list-cut v (words_of cs) l h k ∙ well-cut-words v cs s e

-- a list that is well cut is the words of its clauses
pub words-clauses : (v r : ℕ) (ws : List ℤ) → length ws ≤ r → well_cut v r ws ≡ true → words_of (cut r ws) ≡ ws
unfolding cut well_cut words_of
words-clauses v zero [] h e = refl
words-clauses v zero (count ∷ ws) h e = absurd (not-suc-le-zero h)
words-clauses v (suc r) [] h e = refl
words-clauses v (suc r) (count ∷ ws) h e =
    let n = nat_abs count in
    let c = and_left (is_count (length ws) count) (all (is_literal v) (take n ws) && well_cut v r (drop n ws)) e in
    let s = and_right (is_count (length ws) count) (all (is_literal v) (take n ws) && well_cut v r (drop n ws)) e in
    let i = words-clauses v r (drop n ws) (omega (arith, length-drop n ws)) (and_right (all (is_literal v) (take n ws)) (well_cut v r (drop n ws)) s) in
    let l : length (take n ws) ≡ n = length-take-le n ws (count-high (length ws) count c) in
    rw (l, i, take-append-drop n ws, ← count_word (length ws) count c)

pub list-clauses : (v : ℕ) (ws : List ℤ) → is_list v ws ≡ true → words_of (clauses_of ws) ≡ ws
list-clauses v ws e = words-clauses v (length ws) ws (le_refl (length ws)) (list-well-cut v ws e)
