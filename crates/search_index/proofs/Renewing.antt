-- What stands for a clause when the value of a variable that it names has changed.
use mathlib.Core.Path.{◌≡◌, refl, sym, ◌∙◌, ap, subst}
use mathlib.Core.Bool.{Bool, true, false, cond}
use mathlib.Core.List.{List}
use Prim.Native.Nat.{ℕ, suc, ◌+◌, ◌-◌, ◌<◌, ◌≤◌}
use native.Mathlib.Omega.{arith}
use lib.IntN.{ℤ, pos}
use lib.ListN.{length, get_or, set}
use Rattle.clause_list.specs.ClauseList.{clauses_of, words_of}
use Rattle.literal.specs.Words.{is_positive}
use Rattle.search_rules.specs.Rules.{place_of}
use Rattle.search_rules.specs.Held.{InRange}
use Rattle.search_rules.specs.Inner.{Fine}
use Rattle.search_rules.proofs.Ranges.{ranged}
use Rattle.search_rules.proofs.Found.{place-below}
use Rattle.search_index.specs.Index.{limit, clause_at, head_of, owner_at, head_at, Chains, Apart, literal_weight, byte_says, weight_of}
use Rattle.search_index.specs.Index.{mixed}
use Rattle.search_index.specs.Index.{Stands, weighed, Stood, was-weighed, was-looked, Due}
use Rattle.search_index.proofs.Touching.{word_in}
use Rattle.search_index.proofs.WeightCode.{weighs-above, weighs-below}
use Rattle.search_index.proofs.Weighing.{weight-change, weight-low, weight-high, weight-some}
use Rattle.search_index.proofs.Words.{words_are, literal-at, clause-ranged, literal-ranged, head-high}

-- what stood for a clause below all statuses was its weight
was-weight : (values : List ℕ) (clause : List ℤ) (w : ℕ) → w < mixed → Stood values clause w → Apart clause × (w ≡ weight_of values clause)
was-weight values clause w h (was-weighed a e) = (a, e)
was-weight values clause w h (was-looked b) = absurd (omega (arith, h, b))

module _ (list : List ℤ) (values : List ℕ) (fine : Fine (length values) list) (gains : List ℕ) (i w : ℕ)
    (d : Due (clauses_of list) values gains i w) where
  abbrev p : ℕ
  p = d.p

  abbrev was : ℕ
  was = d.was

  abbrev clauses : List (List ℤ)
  clauses = clauses_of list

  abbrev clause : List ℤ
  clause = clause_at clauses d.spot.c

  abbrev word : ℤ
  word = get_or list i (pos 0)

  words : list ≡ words_of clauses
  words = words_are (length values) list fine

  pub word-within : i < length list
  word-within = omega (arith, ap length words, word_in clauses p i d.spot)

  pub word-is : word ≡ get_or clause d.spot.k (pos 0)
  word-is =
      ap (λ (ws : List ℤ). get_or ws i (pos 0)) words ∙ ap (λ (n : ℕ). get_or (words_of clauses) n (pos 0)) d.spot.word
      ∙ literal-at clauses d.spot.c d.spot.k d.spot.within d.spot.inside

  word-range : InRange (length values) word
  word-range =
      subst (InRange (length values)) (sym word-is)
      (literal-ranged (length values) clause d.spot.k
      (clause-ranged (length values) clauses d.spot.c (ranged (length values) list fine) d.spot.within) d.spot.inside)

  place_is : place_of word ≡ p
  place_is = ap place_of word-is ∙ d.spot.names

  pub place-low : p < length values
  place-low = omega (arith, sym place_is, place-below (length values) word word-range)

  -- the clause is weighed
  module _ (plain : w < mixed) (short : length list ≤ limit) where
    stood : Apart clause × (w ≡ weight_of (set values p was) clause)
    stood = was-weight _ clause w plain d.stood

    -- the word's weight was a, and is b
    a : ℕ
    a = literal_weight (byte_says was word)

    b : ℕ
    b = literal_weight (byte_says (get_or values p 0) word)

    a-is : a ≡ literal_weight (byte_says was (get_or clause d.spot.k (pos 0)))
    unfolding a
    a-is = ap (λ l. literal_weight (byte_says was l)) word-is

    b-is : b ≡ literal_weight (byte_says (get_or values p 0) (get_or clause d.spot.k (pos 0)))
    unfolding b
    b-is = ap (λ l. literal_weight (byte_says (get_or values p 0) l)) word-is

    taken : suc a ≤ w
    taken = omega (arith, a-is, stood.1, weight-low values p was d.spot.k clause place-low d.spot.inside d.spot.names)

    changed : weight_of values clause + a ≡ w + b
    changed =
        omega (arith, a-is, b-is, stood.1, weight-change values p was d.spot.k clause place-low stood.0 d.spot.inside d.spot.names)

    high : weight_of values clause < 32768
    high = omega (arith, weight-high values clause, head-high clauses d.spot.c d.spot.within, ap length words, short)

    -- the literal as the machine has it, its sign, and what its weight changes by
    module _ (z : ℤ) (e : z ≡ word) (n : ℕ) (sign : n ≡ cond (is_positive z) 1 0) where
      gained : (t : Bool) → is_positive z ≡ t → get_or gains n 0 + a ≡ 2 + b
      unfolding a b
      gained true t =
          let m : n ≡ 1 = sign ∙ ap (λ t. cond t 1 0) t in
          omega (
            arith,
            ap (λ k. get_or gains k 0) m,
            d.changed.positive,
            weighs-above was z word e word-range.0 t,
            weighs-above (get_or values p 0) z word e word-range.0 t,
          )
      gained false t =
          let m : n ≡ 0 = sign ∙ ap (λ t. cond t 1 0) t in
          omega (
            arith,
            ap (λ k. get_or gains k 0) m,
            d.changed.negative,
            weighs-below was z word e word-range.0 t,
            weighs-below (get_or values p 0) z word e word-range.0 t,
          )

      gain : get_or gains n 0 + a ≡ 2 + b
      gain = gained (is_positive z) refl

      low : (t : Bool) → n ≡ cond t 1 0 → n < 2
      low true q = omega (arith, q)
      low false q = omega (arith, q)

      pub sign_low : n < 2
      sign_low = low (is_positive z) sign

      pub gain-fits : w + get_or gains n 0 < 65536
      gain-fits = omega (arith, gain, changed, high, taken)

      pub gain-high : 2 ≤ w + get_or gains n 0
      gain-high = omega (arith, gain, changed, taken, weight-some values clause)

      pub renewed-stands : Stands values clause (w + get_or gains n 0 - 2)
      renewed-stands = weighed stood.0 (omega (arith, gain, changed, taken))

  -- the clause's head, as the code finds it
  pub head-found : (chains : List ℕ) → Chains clauses chains → (o h : ℕ) → o ≡ owner_at chains i → h ≡ head_at chains o
      → (h ≡ head_of clauses d.spot.c)
  head-found chains x o h e z =
      z ∙ ap (head_at chains) (e ∙ x.linked.chained.owner_is p i d.spot (word_in clauses p i d.spot))
      ∙ x.heads d.spot.c d.spot.within

  pub owner-within : (chains : List ℕ) → Chains clauses chains → (o : ℕ) → o ≡ owner_at chains i → o < length clauses
  owner-within chains x o e =
      omega (arith, e, x.linked.chained.owner_is p i d.spot (word_in clauses p i d.spot), d.spot.within)
