-- A test of how many cells are true (some, none, at most one) as gates over their literals.
use mathlib.Core.Bool.{Bool, not}
use mathlib.Core.List.{List, ◌++◌, map}
use lib.ListN.{length}
use Rattle.literal.specs.Literals.{Literal, opposite}
use Rattle.relational.specs.declared.Test.{Test}
use Rattle.relational.specs.declared.Quantifier.{Quantifier}
use Rattle.relational.specs.declared.Binary.TheVariants.{Intersection as intersection}
use Rattle.relational.specs.declared.Comparison.TheVariants.{Within as within}
use Rattle.relational.specs.declared.Test.TheVariants.{Some as some, None as none, Lone as lone}
use Rattle.relational.specs.declared.Quantifier.TheVariants.{All as for-all, Some as for_some}
use Rattle.relational.specs.Matrices.{pairs, Matrix}
use Rattle.relational.specs.Evaluation.{value_binary, truth_test, truth_quantifier}
use Rattle.relational.proofs.Counts.{not_both, some-count, none-count, pairs-count}
use Rattle.clauses_rules.specs.Gates.{or}
use Rattle.clauses_rules.specs.Translation.{Two, apart, translate_binary, translate_test, translate_quantifier}
use Rattle.clauses_rules.proofs.Build.{Right, Means, Pairwise, nothing, more, Mean, One, means-extends}
use Rattle.clauses_rules.proofs.Build.{right-map, right-bind}
use Rattle.clauses_rules.proofs.Connect as c
use Rattle.clauses_rules.proofs.Connect.{means-opposite, right_or, right-or-two}
use Rattle.clauses_rules.proofs.Operators.{Both, RightTwo, right-all, MeansMatrix, right-binary}
use Rattle.clauses_rules.proofs.Operators.{right-comparison}

-- ---- pairs of literals mean pairs of flags
pub pairwise_append : {X Y : Type 0} {R : X → Y → Type 0} {xs us : List X} {ys vs : List Y}
    → Pairwise R xs ys → Pairwise R us vs → Pairwise R (xs ++ us) (ys ++ vs)
pairwise_append nothing q = q
pairwise_append (more r p) q = more r (pairwise_append p q)

with_each : {a : List Bool} {m : Bool} {l : Literal} {ms : List Bool} {ls : List Literal} → Means m a l → Mean ms a ls
    → Pairwise (Both a) (map {B = Two} (λ k. (l, k)) ls) (map {B = Bool × Bool} (λ n. (m, n)) ms)
with_each p nothing = nothing
with_each p (more q qs) = more (record { left = p; right = q }) (with_each p qs)

pub pairs-mean : {a : List Bool} {ms : List Bool} {ls : List Literal} → Mean ms a ls → Pairwise (Both a) (pairs ls) (pairs ms)
pairs-mean nothing = nothing
pairs-mean (more p ps) = pairwise_append (with_each p ps) (pairs-mean ps)

right-apart : RightTwo apart not_both
right-apart a o t u h = right-or-two a o (means-opposite h.left) (means-opposite h.right)

pub right-test : (k : Test) (a : List Bool) → One a → (ms : List Bool) (ls : List Literal) → Mean ms a ls
    → Right a (translate_test k ls (length a)) (Means (truth_test k ms))
right-test some a o ms ls h = rw (← some-count ms) (right_or a o h)
right-test none a o ms ls h =
    rw (← none-count ms)
    (right-map a opposite (or ls) (Means (c.some ms)) (Means (not (c.some ms))) (right_or a o h) λ b e l q. means-opposite q)
right-test lone a o ms ls h = rw (← pairs-count ms) (right-all apart not_both right-apart a o (pairs-mean h))

-- over the atoms of a set
pub right-quantifier : (k : Quantifier) (a : List Bool) → One a → (m n : Matrix Bool) (p q : Matrix Literal)
    → MeansMatrix m a p → MeansMatrix n a q
    → Right a (translate_quantifier k p q (length a)) (Means (truth_quantifier k m n))
right-quantifier for-all a o m n p q g h = right-comparison within a o m n p q g h
right-quantifier for_some a o m n p q g h =
    right-bind a (translate_binary intersection p q) (λ b. translate_test some b.cells)
    (MeansMatrix (value_binary intersection m n))
    (Means (truth_test some (value_binary intersection m n).cells)) (right-binary intersection a o m n p q g h)
    λ b e r s. right-test some b (means-extends e o) (value_binary intersection m n).cells r.cells s.cells
