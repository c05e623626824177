-- Each operator's gates are right: over matrices of literals that mean matrices of flags, what they give means what the evaluation gives.
use mathlib.Core.Path.{◌≡◌, refl, sym, ap, ◌∙◌, subst, subst₂}
use mathlib.Core.Bool.{Bool, true, false, ◌||◌, cond}
use mathlib.Core.List.{List, [], ◌∷◌, map}
use Prim.Native.Nat.{ℕ, zero, suc, ◌+◌, ◌*◌}
use lib.Dec.{eqb}
use lib.ListN.{length, get_or}
use Rattle.prelude.specs.Tests.{all, any}
use Rattle.prelude.proofs.Laws.{all_map}
use Rattle.literal.specs.Literals.{Literal}
use Rattle.relational.specs.declared.Binary.{Binary}
use Rattle.relational.specs.declared.Unary.{Unary}
use Rattle.relational.specs.declared.Comparison.{Comparison}
use Rattle.relational.specs.declared.Connective.{Connective}
use Rattle.relational.specs.declared.Binary.TheVariants.{Union as union, Intersection as intersection}
use Rattle.relational.specs.declared.Binary.TheVariants.{Difference as difference, Join as join, Product as product}
use Rattle.relational.specs.declared.Unary.TheVariants.{Inverse as inverse, Closure as closure}
use Rattle.relational.specs.declared.Comparison.TheVariants.{Equal as equal, Within as within}
use Rattle.relational.specs.declared.Connective.TheVariants.{Conjunction as conjunction, Disjunction as disjunction}
use Rattle.relational.specs.declared.Connective.TheVariants.{Implication as implication, Equivalence as equivalence}
use Rattle.relational.specs.Matrices.{upto, Place, places, rounds, Matrix, set_of, relation_of, size, same_size, join_columns, join_places}
use Rattle.relational.specs.Matrices.{join_size, product_places, product_size, matched, middles, crossed, inverted}
use Rattle.relational.specs.Evaluation as e
use Rattle.clauses_rules.specs.Builder.{Builder, ◌>>=◌, ◌<$>◌, each}
use Rattle.clauses_rules.specs.Gates.{or, and}
use Rattle.clauses_rules.specs.Translation.{Two, absent, either, both, without, implies, same, join_cells, translate_binary, round_of}
use Rattle.clauses_rules.specs.Translation.{after_rounds, translate_unary, translate_comparison, translate_connective}
use Rattle.clauses_rules.proofs.Build.{Extends, extends-refl, Right, Means, Pairwise, nothing, more, Mean, One, means-extends}
use Rattle.clauses_rules.proofs.Build.{mean-extends, right-return, right-map, right-bind, right-each, right-list}
use Rattle.clauses_rules.proofs.Connect as c
use Rattle.clauses_rules.proofs.Connect.{every, means-opposite, means-at, right_or, right-and, right-or-two, right-and-two}
use Rattle.clauses_rules.proofs.Connect.{right-iff}

-- ---- two literals
pub record Both (a : List Bool) (t : Two) (u : Bool × Bool) : Type 0 where
  pub left : Means u.0 a t.0
  pub right : Means u.1 a t.1

pub both-extends : {a b : List Bool} {t : Two} {u : Bool × Bool} → Extends a b → Both a t u → Both b t u
both-extends e h = record { left = means-extends e h.left; right = means-extends e h.right }

-- a step over two literals that gives what f gives over their values
abbrev pub RightTwo : (Two → Builder Literal) → (Bool × Bool → Bool) → Type 0
RightTwo step f = (a : List Bool) → One a → (t : Two) (u : Bool × Bool) → Both a t u → Right a (step t (length a)) (Means (f u))

pub right-either : RightTwo either e.either
right-either a o t u h = right-or-two a o h.left h.right

pub right-both : RightTwo both e.both
right-both a o t u h = right-and-two a o h.left h.right

pub right-without : RightTwo without e.without
right-without a o t u h = right-and-two a o h.left (means-opposite h.right)

pub right-implies : RightTwo implies e.implies
right-implies a o t u h = right-or-two a o (means-opposite h.left) h.right

pub right-same : RightTwo same e.same
right-same a o t u h = right-iff a o h.left h.right

pub right-twos : (step : Two → Builder Literal) (f : Bool × Bool → Bool) → RightTwo step f
    → (a : List Bool) → One a → {ts : List Two} {us : List (Bool × Bool)} → Pairwise (Both a) ts us
    → Right a (each step ts (length a)) (Mean (map f us))
right-twos step f h a o p =
    right-each (Both a) step f a (λ b e t u q. h b (means-extends e o) t u (both-extends e q)) p a (extends-refl a)

pub pairwise-maps : {X Y Z : Type 0} {R : Y → Z → Type 0} (f : X → Y) (g : X → Z) → ((x : X) → R (f x) (g x))
    → (xs : List X) → Pairwise R (map f xs) (map g xs)
pairwise-maps f g h [] = nothing
pairwise-maps f g h (x ∷ xs) = more (h x) (pairwise-maps f g h xs)

-- ---- matrices
-- the size of a matrix, with other cells
abbrev pub sized : {A B : Type 0} → Matrix A → List B → Matrix B
sized m cells = record { arity = m.arity; rows = m.rows; columns = m.columns; cells = cells }

pub record MeansMatrix (m : Matrix Bool) (a : List Bool) (p : Matrix Literal) : Type 0 where
  pub sizes : p ≡ sized m p.cells
  pub cells : Mean m.cells a p.cells

pub matrix-extends : {a b : List Bool} {m : Matrix Bool} {p : Matrix Literal} → Extends a b → MeansMatrix m a p → MeansMatrix m b p
matrix-extends e h = record { sizes = h.sizes; cells = mean-extends e h.cells }

module _ (a : List Bool) (o : One a) (m n : Matrix Bool) (ls ks : List Literal) (p : Mean m.cells a ls) (q : Mean n.cells a ks) where
  both_at : (i j : ℕ)
      → Both a (get_or ls i absent, get_or ks j absent) (get_or m.cells i false, get_or n.cells j false)
  both_at i j = record { left = means-at o p i; right = means-at o q j }

  matched-mean : Pairwise (Both a) (matched absent (sized m ls) (sized n ks)) (matched false m n)
  matched-mean = pairwise-maps _ _ (λ i. both_at i i) (upto (size m))

  middles-mean : (t : Place) → Pairwise (Both a) (middles absent (sized m ls) (sized n ks) t) (middles false m n t)
  middles-mean t = pairwise-maps _ _ (λ k. both_at (t.0 * m.columns + k) (k * join_columns n + t.1)) (upto m.columns)

  crossed-mean : Pairwise (Both a) (crossed absent (sized m ls) (sized n ks)) (crossed false m n)
  crossed-mean = pairwise-maps _ _ (λ t. both_at t.0 t.1) (product_places m n)

pub some-map : {X : Type 0} (f : X → Bool) (xs : List X) → c.some (map f xs) ≡ any f xs
unfolding any
some-map f [] = refl
some-map f (x ∷ xs) = ap (λ (b : Bool). f x || b) (some-map f xs)

pub every_map : {X : Type 0} (f : X → Bool) (xs : List X) → every (map f xs) ≡ all f xs
every_map f xs = all_map (λ (b : Bool). b) f xs

right-join-cell : (a : List Bool) → One a → (ts : List Two) (us : List (Bool × Bool)) → Pairwise (Both a) ts us
    → Right a ((each both ts >>= or) (length a)) (Means (any e.both us))
right-join-cell a o ts us h =
    rw (← some-map e.both us)
    (right-bind a (each both ts) or (Mean (map e.both us)) (Means (c.some (map e.both us))) (right-twos both e.both right-both a o h)
    λ b f ls q. right_or b (means-extends f o) q)

-- the size of a join does not look at the cells
join-sized : (m n : Matrix Bool) (ls ks cells : List Literal) (ms : List Bool)
    → join_size (sized m ls) (sized n ks) cells ≡ sized (join_size m n ms) cells
join-sized m n ls ks cells ms = go (eqb (m.arity + n.arity) 4)
  where
    go : (b : Bool)
        → cond b (relation_of m.rows (join_columns n) cells) (set_of (m.rows * join_columns n) cells)
        ≡ sized (cond b (relation_of m.rows (join_columns n) ms) (set_of (m.rows * join_columns n) ms)) cells
    go true = refl
    go false = refl

join_cells_lem : {A : Type 0} (m n : Matrix A) (ms : List A) → (join_size m n ms).cells ≡ ms
join_cells_lem m n ms = go (eqb (m.arity + n.arity) 4)
  where
    go : (b : Bool) → (cond b (relation_of m.rows (join_columns n) ms) (set_of (m.rows * join_columns n) ms)).cells ≡ ms
    go true = refl
    go false = refl

module _ (a : List Bool) (o : One a) (m n : Matrix Bool) (ls ks : List Literal) (p : Mean m.cells a ls) (q : Mean n.cells a ks) where
  right-matched : (step : Two → Builder Literal) (f : Bool × Bool → Bool) → RightTwo step f
      → Right a ((same_size (sized m ls) <$> each step (matched absent (sized m ls) (sized n ks))) (length a))
      (MeansMatrix (same_size m (map f (matched false m n))))
  right-matched step f h =
      right-map a (same_size (sized m ls)) (each step (matched absent (sized m ls) (sized n ks))) (Mean (map f (matched false m n))) _
      (right-twos step f h a o (matched-mean a o m n ls ks p q)) λ b e cells r. record { sizes = refl; cells = r }

  right-join-cells : Right a (join_cells (sized m ls) (sized n ks) (length a)) (Mean (e.join_cells m n))
  right-join-cells =
      right-list (λ t. each both (middles absent (sized m ls) (sized n ks) t) >>= or) (λ t. any e.both (middles false m n t)) a
      (λ b f t.
      right-join-cell b (means-extends f o) (middles absent (sized m ls) (sized n ks) t) (middles false m n t)
      (middles-mean b (means-extends f o) m n ls ks (mean-extends f p) (mean-extends f q) t))
      (join_places m n)

  right-binary-sized : (k : Binary) → Right a (translate_binary k (sized m ls) (sized n ks) (length a)) (MeansMatrix (e.value_binary k m n))
  right-binary-sized union = right-matched either e.either right-either
  right-binary-sized intersection = right-matched both e.both right-both
  right-binary-sized difference = right-matched without e.without right-without
  right-binary-sized join =
      right-map a (join_size (sized m ls) (sized n ks)) (join_cells (sized m ls) (sized n ks)) (Mean (e.join_cells m n)) _ right-join-cells
      λ b f cells r.
      record {
        sizes =
            join-sized m n ls ks cells (e.join_cells m n)
            ∙ ap (sized (join_size m n (e.join_cells m n))) (sym (join_cells_lem (sized m ls) (sized n ks) cells));
        cells = rw (join_cells_lem m n (e.join_cells m n), join_cells_lem (sized m ls) (sized n ks) cells) r;
      }
  right-binary-sized product =
      right-map a (product_size (sized m ls) (sized n ks)) (each both (crossed absent (sized m ls) (sized n ks)))
      (Mean (map e.both (crossed false m n))) _
      (right-twos both e.both right-both a o (crossed-mean a o m n ls ks p q)) λ b f cells r. record { sizes = refl; cells = r }

-- ---- the laws, one for each group of operators
pub right-binary : (k : Binary) (a : List Bool) → One a → (m n : Matrix Bool) (p q : Matrix Literal)
    → MeansMatrix m a p → MeansMatrix n a q
    → Right a (translate_binary k p q (length a)) (MeansMatrix (e.value_binary k m n))
right-binary k a o m n p q g h =
    subst₂ (λ (x y : Matrix Literal). Right a (translate_binary k x y (length a)) (MeansMatrix (e.value_binary k m n)))
    (sym g.sizes) (sym h.sizes) (right-binary-sized a o m n p.cells q.cells g.cells h.cells k)

pub right-round : (a : List Bool) → One a → (m : Matrix Bool) (p : Matrix Literal) → MeansMatrix m a p
    → Right a (round_of p (length a)) (MeansMatrix (e.round_of m))
right-round a o m p h =
    right-bind a (translate_binary join p p) (translate_binary union p) (MeansMatrix (e.value_binary join m m)) (MeansMatrix (e.round_of m))
    (right-binary join a o m m p p h h)
    λ b f q g. right-binary union b (means-extends f o) m (e.value_binary join m m) p q (matrix-extends f h) g

right-rounds : (k : ℕ) (a : List Bool) → One a → (m : Matrix Bool) (p : Matrix Literal) → MeansMatrix m a p
    → Right a (after_rounds k p (length a)) (MeansMatrix (e.after_rounds k m))
unfolding after_rounds
right-rounds zero a o m p h = right-return a p (MeansMatrix m) h
right-rounds (suc k) a o m p h =
    right-bind a (after_rounds k p) round_of (MeansMatrix (e.after_rounds k m)) (MeansMatrix (e.after_rounds (suc k) m))
    (right-rounds k a o m p h) λ b f q g. right-round b (means-extends f o) (e.after_rounds k m) q g

inverted-means : (a : List Bool) → One a → (m : Matrix Bool) (ls : List Literal) → Mean m.cells a ls
    → MeansMatrix (inverted false m) a (inverted absent (sized m ls))
inverted-means a o m ls h =
    record {
      sizes = refl;
      cells = pairwise-maps _ _ (λ t. means-at o h (t.1 * m.columns + t.0)) (places m.columns m.rows);
    }

pub right-unary : (k : Unary) (a : List Bool) → One a → (m : Matrix Bool) (p : Matrix Literal) → MeansMatrix m a p
    → Right a (translate_unary k p (length a)) (MeansMatrix (e.value_unary k m))
right-unary inverse a o m p h =
    right-return a (inverted absent p) (MeansMatrix (inverted false m))
    (subst (λ (x : Matrix Literal). MeansMatrix (inverted false m) a (inverted absent x)) (sym h.sizes)
    (inverted-means a o m p.cells h.cells))
right-unary closure a o m p h =
    subst (λ (n : ℕ). Right a (after_rounds (rounds n) p (length a)) (MeansMatrix (e.value_unary closure m)))
    (sym (ap (λ (x : Matrix Literal). x.rows) h.sizes)) (right-rounds (rounds m.rows) a o m p h)

pub right-all : (step : Two → Builder Literal) (f : Bool × Bool → Bool) → RightTwo step f
    → (a : List Bool) → One a → {ts : List Two} {us : List (Bool × Bool)} → Pairwise (Both a) ts us
    → Right a ((each step ts >>= and) (length a)) (Means (all f us))
right-all step f r a o {ts} {us} h =
    rw (← every_map f us)
    (right-bind a (each step ts) and (Mean (map f us)) (Means (every (map f us))) (right-twos step f r a o h)
    λ b g ls q. right-and b (means-extends g o) q)

right-comparison-sized : (k : Comparison) (a : List Bool) → One a → (m n : Matrix Bool) (ls ks : List Literal)
    → Mean m.cells a ls → Mean n.cells a ks
    → Right a (translate_comparison k (sized m ls) (sized n ks) (length a)) (Means (e.truth_comparison k m n))
right-comparison-sized equal a o m n ls ks p q = right-all same e.same right-same a o (matched-mean a o m n ls ks p q)
right-comparison-sized within a o m n ls ks p q = right-all implies e.implies right-implies a o (matched-mean a o m n ls ks p q)

pub right-comparison : (k : Comparison) (a : List Bool) → One a → (m n : Matrix Bool) (p q : Matrix Literal)
    → MeansMatrix m a p → MeansMatrix n a q
    → Right a (translate_comparison k p q (length a)) (Means (e.truth_comparison k m n))
right-comparison k a o m n p q g h =
    subst₂ (λ (x y : Matrix Literal). Right a (translate_comparison k x y (length a)) (Means (e.truth_comparison k m n)))
    (sym g.sizes) (sym h.sizes) (right-comparison-sized k a o m n p.cells q.cells g.cells h.cells)

pub right-connective : (k : Connective) (a : List Bool) → One a → (x y : Bool) (p q : Literal) → Means x a p → Means y a q
    → Right a (translate_connective k (p, q) (length a)) (Means (e.truth_connective k x y))
right-connective conjunction a o x y p q g h = right-both a o (p, q) (x, y) record { left = g; right = h }
right-connective disjunction a o x y p q g h = right-either a o (p, q) (x, y) record { left = g; right = h }
right-connective implication a o x y p q g h = right-implies a o (p, q) (x, y) record { left = g; right = h }
right-connective equivalence a o x y p q g h = right-same a o (p, q) (x, y) record { left = g; right = h }
