-- Where the clauses and their literals stand in a list of words.
use mathlib.Core.Path.{◌≡◌, refl, sym, ◌∙◌, ap}
use mathlib.Core.List.{List, [], ◌∷◌, ◌++◌, append-nil}
use Prim.Native.Nat.{ℕ, zero, suc, ◌+◌, ◌<◌, ◌≤◌}
use native.Mathlib.Omega.{arith}
use lib.IntN.{ℤ, pos, nat_abs}
use lib.ListN.{length, get_or, take, drop, length-append, take-append-drop, get_or-append}
use lib.Seq.{length-take-le, drop-append-add, get_or-append-add, take-append_seam}
use Rattle.clause_list.specs.ClauseList.{cut, clauses_of, words_of}
use Rattle.clause_list.proofs.Laws.{clauses-words}
use Rattle.search_rules.specs.Held.{InRange}
use Rattle.search_rules.specs.Inner.{AllIn, FineIn, Fine}
use Rattle.search_rules.proofs.Ranges.{Ranged}
use Rattle.search_index.specs.Index.{clause_at, head_of}

-- the words of a well-cut list are those of its clauses
words-cut : (v rounds : ℕ) (ws : List ℤ) → FineIn v rounds ws → words_of (cut rounds ws) ≡ ws
unfolding FineIn cut words_of
words-cut v zero ws h = sym h
words-cut v (suc rounds) [] h = refl
words-cut v (suc rounds) (w ∷ ws) h =
    rw (length-take-le (nat_abs w) ws h.1, words-cut v rounds (drop (nat_abs w) ws) h.3, take-append-drop (nat_abs w) ws, ← h.0) refl

pub words_are : (v : ℕ) (list : List ℤ) → Fine v list → list ≡ words_of (clauses_of list)
unfolding Fine
words_are v list h = sym (words-cut v (length list) list h)

pub head-zero : (clauses : List (List ℤ)) → head_of clauses 0 ≡ 0
unfolding head_of
head-zero [] = refl
head-zero (clause ∷ clauses) = refl

-- from the head of a clause on
pub at_head : (clauses : List (List ℤ)) (c : ℕ) → c < length clauses
    → drop (head_of clauses c) (words_of clauses) ≡ pos (length (clause_at clauses c)) ∷
    (clause_at clauses c ++ drop (head_of clauses (suc c)) (words_of clauses))
unfolding head_of words_of
at_head [] c l = absurd (omega arith)
at_head (clause ∷ clauses) zero l =
    ap (λ (r : List ℤ). pos (length clause) ∷ (clause ++ r))
    (sym (drop-append-add clause (words_of clauses) (head_of clauses 0) ∙ rw (head-zero clauses) refl))
at_head (clause ∷ clauses) (suc c) l =
    drop-append-add clause (words_of clauses) (head_of clauses c) ∙ at_head clauses c (omega arith)
    ∙ ap (λ (r : List ℤ). pos (length (clause_at clauses c)) ∷ (clause_at clauses c ++ r))
    (sym (drop-append-add clause (words_of clauses) (head_of clauses (suc c))))

-- the count's word
pub count_at : (clauses : List (List ℤ)) (c : ℕ) → c < length clauses
    → get_or (words_of clauses) (head_of clauses c) (pos 0) ≡ pos (length (clause_at clauses c))
unfolding head_of words_of
count_at [] c l = absurd (omega arith)
count_at (clause ∷ clauses) zero l = refl
count_at (clause ∷ clauses) (suc c) l = get_or-append-add clause (words_of clauses) (head_of clauses c) (pos 0) ∙ count_at clauses c (omega arith)

-- a literal's word
pub literal-at : (clauses : List (List ℤ)) (c k : ℕ) → c < length clauses → k < length (clause_at clauses c)
    → get_or (words_of clauses) (suc (head_of clauses c + k)) (pos 0) ≡ get_or (clause_at clauses c) k (pos 0)
unfolding head_of words_of
literal-at [] c k l h = absurd (omega arith)
literal-at (clause ∷ clauses) zero k l h =
    let e : 0 + k ≡ k = omega arith in rw e (get_or-append clause (words_of clauses) (pos 0) k h)
literal-at (clause ∷ clauses) (suc c) k l h =
    let e : suc (length clause + head_of clauses c) + k ≡ length clause + suc (head_of clauses c + k) = omega arith in
    rw e (get_or-append-add clause (words_of clauses) (suc (head_of clauses c + k)) (pos 0) ∙ literal-at clauses c k (omega arith) h)

-- a clause ends within the words
pub head-high : (clauses : List (List ℤ)) (c : ℕ) → c < length clauses
    → head_of clauses c + suc (length (clause_at clauses c)) ≤ length (words_of clauses)
unfolding head_of words_of
head-high [] c l = absurd (omega arith)
head-high (clause ∷ clauses) zero l = omega (arith, length-append clause (words_of clauses))
head-high (clause ∷ clauses) (suc c) l = omega (arith, length-append clause (words_of clauses), head-high clauses c (omega arith))

pub head_step : (clauses : List (List ℤ)) (c : ℕ) → c < length clauses → head_of clauses (suc c) ≡ head_of clauses c + suc (length (clause_at clauses c))
unfolding head_of
head_step [] c l = absurd (omega arith)
head_step (clause ∷ []) zero l = omega arith
head_step (clause ∷ (d ∷ clauses)) zero l = omega arith
head_step (clause ∷ clauses) (suc c) l = omega (arith, head_step clauses c (omega arith))

pub head-all : (clauses : List (List ℤ)) → head_of clauses (length clauses) ≡ length (words_of clauses)
unfolding head_of words_of
head-all [] = refl
head-all (clause ∷ clauses) = omega (arith, length-append clause (words_of clauses), head-all clauses)

-- a literal of a clause names a variable
pub clause-ranged : (v : ℕ) (clauses : List (List ℤ)) (c : ℕ) → Ranged v clauses → c < length clauses → AllIn v (clause_at clauses c)
unfolding Ranged
clause-ranged v [] c h l = absurd (omega arith)
clause-ranged v (clause ∷ clauses) zero h l = h.0
clause-ranged v (clause ∷ clauses) (suc c) h l = clause-ranged v clauses c h.1 (omega arith)

pub literal-ranged : (v : ℕ) (clause : List ℤ) (k : ℕ) → AllIn v clause → k < length clause → InRange v (get_or clause k (pos 0))
unfolding AllIn
literal-ranged v [] k h l = absurd (omega arith)
literal-ranged v (x ∷ clause) zero h l = h.0
literal-ranged v (x ∷ clause) (suc k) h l = literal-ranged v clause k h.1 (omega arith)

-- one clause by itself
pub one-words : (clause : List ℤ) → words_of (clause ∷ []) ≡ pos (length clause) ∷ clause
unfolding words_of
one-words clause = ap (λ (r : List ℤ). pos (length clause) ∷ r) (append-nil clause)

pub part-is : (clauses : List (List ℤ)) (c : ℕ) → c < length clauses
    → take (suc (length (clause_at clauses c))) (drop (head_of clauses c) (words_of clauses)) ≡ words_of (clause_at clauses c ∷ [])
part-is clauses c l =
    rw (at_head clauses c l) (ap (λ (r : List ℤ). pos (length (clause_at clauses c)) ∷ r) (take-append_seam (clause_at clauses c) _))
    ∙ sym (one-words (clause_at clauses c))

pub part-clauses : (clause : List ℤ) → clauses_of (words_of (clause ∷ [])) ≡ clause ∷ []
part-clauses clause = clauses-words (clause ∷ [])

pub clauses-few : (clauses : List (List ℤ)) → length clauses ≤ length (words_of clauses)
unfolding words_of
clauses-few [] = omega arith
clauses-few (clause ∷ clauses) = omega (arith, length-append clause (words_of clauses), clauses-few clauses)

pub clauses-within : (v : ℕ) (list : List ℤ) → Fine v list → length (clauses_of list) ≤ length list
clauses-within v list h = omega (arith, ap length (words_are v list h), clauses-few (clauses_of list))
