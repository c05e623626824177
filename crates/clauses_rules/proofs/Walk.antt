-- The walk is right: for every tree and environment its literals mean the values of the evaluation.
use mathlib.Core.Path.{◌≡◌, refl, subst}
use mathlib.Core.Bool.{Bool, true, false, not, cond}
use mathlib.Core.List.{List, [], ◌∷◌, map}
use Prim.Native.Nat.{ℕ, zero, suc}
use lib.Dec.{eqb}
use lib.ListN.{length, get_or}
use Rattle.literal.specs.Literals.{Literal, opposite}
use Rattle.sheet_rules.specs.Blocks.{Sheet, byte, scope, is_bounded, sort_of}
use Rattle.relational.specs.Trees.{Expression, leaf, binary, unary, comprehension, Formula, comparison, test}
use Rattle.relational.specs.Trees.{negation, connective, quantified, Tree, expression, formula, broken}
use Rattle.relational.specs.declared.Leaf.{Leaf}
use Rattle.relational.specs.declared.Leaf.TheVariants.{Relation as relation, Variable as variable, Atoms as atoms}
use Rattle.relational.specs.declared.Leaf.TheVariants.{Identity as identity}
use Rattle.relational.specs.declared.Binary.TheVariants.{Intersection as intersection}
use Rattle.relational.specs.Cells.{member_cell, first_cell, cells_of}
use Rattle.relational.specs.Meaning.{Environment, bind}
use Rattle.relational.specs.Matrices.{from, upto, places, Place, Matrix, member, leaf_matrix}
use Rattle.relational.specs.Evaluation as v
use Rattle.relational.specs.Evaluation.{member_at, flag_at, value_leaf, atoms_of, value_of, truth_of, truth_of_tree}
use Rattle.relational.specs.Evaluation.{value_binary, value_unary, truth_comparison}
use Rattle.relational.specs.Evaluation.{truth_test, truth_connective}
use Rattle.clauses_rules.specs.Builder.{Builder, ◌>>=◌, each}
use Rattle.clauses_rules.specs.Translation.{constant, absent, literal_at, translate, translate_formula, translate_tree, translate_binary}
use Rattle.clauses_rules.specs.Translation.{translate_unary, translate_comparison, translate_test, translate_connective}
use Rattle.clauses_rules.specs.Translation.{translate_quantifier, range, bodies}
use Rattle.clauses_rules.proofs.Build.{Extends, Right, Means, Mean, One, means-extends, mean-extends, right-return, right-map}
use Rattle.clauses_rules.proofs.Build.{right-bind}
use Rattle.clauses_rules.proofs.Build.{right-two, right-list}
use Rattle.clauses_rules.proofs.Connect.{means-opposite, means-at}
use Rattle.clauses_rules.proofs.Operators.{MeansMatrix, matrix-extends, pairwise-maps, right-binary, right-unary, right-comparison}
use Rattle.clauses_rules.proofs.Operators.{right-connective}
use Rattle.clauses_rules.proofs.Counts.{right-test, right-quantifier}

-- an instance as flags: a byte 1 is true
abbrev pub flags : List ℕ → List Bool
flags instance = map (λ (b : ℕ). eqb b 1) instance

pub flag_at_lem : (instance : List ℕ) (i : ℕ) → get_or (flags instance) i false ≡ eqb (byte instance i) 1
flag_at_lem [] i = refl
flag_at_lem (b ∷ bs) zero = refl
flag_at_lem (b ∷ bs) (suc i) = flag_at_lem bs i

pub means-constant : {a : List Bool} → One a → (b : Bool) → Means b a (constant b)
means-constant o true = o
means-constant o false = means-opposite o

module _ (sheet : Sheet) (instance : List ℕ) (cells : List Literal) where
  -- what the walk rests on: variable 1, and the cells' literals mean the instance
  pub record Ready (a : List Bool) : Type 0 where
    pub one : One a
    pub given : Mean (flags instance) a cells

  pub ready-extends : {a b : List Bool} → Extends a b → Ready a → Ready b
  ready-extends e r = record { one = means-extends e r.one; given = mean-extends e r.given }

  pub means-cell : {a : List Bool} → Ready a → (i : ℕ) → Means (flag_at sheet instance i) a (literal_at sheet cells i)
  means-cell {a} r i = subst (λ (m : Bool). Means m a (literal_at sheet cells i)) (flag_at_lem instance i) (means-at r.one r.given i)

  -- the literal of an atom that a sort can have
  pub means-member : {a : List Bool} → Ready a → (k i : ℕ)
      → Means (member_at sheet instance k i) a (member sheet (literal_at sheet cells) constant k i)
  means-member {a} r k i = go (is_bounded sheet k)
    where
      go : (b : Bool) → Means (cond b (flag_at sheet instance (member_cell sheet k i)) true) a
          (cond b (literal_at sheet cells (member_cell sheet k i)) (constant true))
      go true = means-cell r (member_cell sheet k i)
      go false = r.one

  means-diagonal : {a : List Bool} → Ready a → (k : ℕ) (t : Place)
      → Means (cond (eqb t.0 t.1) (member_at sheet instance k t.0) false) a
      (cond (eqb t.0 t.1) (member sheet (literal_at sheet cells) constant k t.0) (constant false))
  means-diagonal {a} r k t = go (eqb t.0 t.1)
    where
      go : (b : Bool) → Means (cond b (member_at sheet instance k t.0) false) a
          (cond b (member sheet (literal_at sheet cells) constant k t.0) (constant false))
      go true = means-member r k t.0
      go false = means-constant r.one false

  means-leaf : (l : Leaf) (k : ℕ) (env : Environment) {a : List Bool} → Ready a
      → MeansMatrix (value_leaf sheet instance l k env) a (leaf_matrix sheet (literal_at sheet cells) constant l k env)
  means-leaf relation k env r =
      record { sizes = refl; cells = pairwise-maps _ _ (λ i. means-cell r i) (from (first_cell sheet k) (cells_of sheet k)) }
  means-leaf variable k env r =
      record { sizes = refl; cells = pairwise-maps _ _ (λ (i : ℕ). means-constant r.one (eqb i (env k))) (atoms_of sheet instance k) }
  means-leaf atoms k env r =
      record { sizes = refl; cells = pairwise-maps _ _ (λ (i : ℕ). means-member r k i) (upto (scope sheet k)) }
  means-leaf identity k env r =
      record {
        sizes = refl;
        cells = pairwise-maps _ _ (λ (t : Place). means-diagonal r k t) (places (scope sheet k) (scope sheet k));
      }

  -- two operands, then a step over both
  right-operands : {A C : Type 0} (a : List Bool) (s t : Builder A) {P Q : List Bool → A → Type 0}
      (then : A → A → Builder C) (S : List Bool → C → Type 0)
      → ((b c : List Bool) (x : A) → Extends b c → P b x → P c x)
      → Ready a
      → Right a (s (length a)) P
      → ((b : List Bool) → Ready b → Right b (t (length b)) Q)
      → ((b : List Bool) → One b → (x y : A) → P b x → Q b y → Right b (then x y (length b)) S)
      → Right a ((s >>= λ x. t >>= λ y. then x y) (length a)) S
  right-operands a s t {P} {Q} then S keeps r g h j =
      right-two a s t then P Q S keeps g (λ b e. h b (ready-extends e r)) λ b e x y p q. j b (means-extends e r.one) x y p q

  matrix-keeps : (m : Matrix Bool) (b c : List Bool) (p : Matrix Literal) → Extends b c → MeansMatrix m b p → MeansMatrix m c p
  matrix-keeps m b c p e h = matrix-extends e h

  -- a binder's body, atom by atom
  right-bodies : (body : ℕ → Builder Literal) (truth : ℕ → Bool) (a : List Bool)
      → ((v : ℕ) (b : List Bool) → Extends a b → Right b (body v (length b)) (Means (truth v)))
      → (vs : List ℕ) → Right a (each body vs (length a)) (Mean (map truth vs))
  right-bodies body truth a h vs = right-list body truth a (λ b e v. h v b e) vs

  mutual
    unfolding translate value_of

    pub right-translate : (t : Expression) (env : Environment) (a : List Bool) → Ready a
        → Right a (translate sheet cells t env (length a)) (MeansMatrix (value_of sheet instance t env))
    right-translate (leaf l k) env a r = right-return a _ (MeansMatrix (value_leaf sheet instance l k env)) (means-leaf l k env r)
    right-translate (binary k s t) env a r =
        right-operands a (translate sheet cells s env) (translate sheet cells t env) (translate_binary k)
        (MeansMatrix (value_binary k (value_of sheet instance s env) (value_of sheet instance t env)))
        (matrix-keeps (value_of sheet instance s env)) r
        (right-translate s env a r) (λ b z. right-translate t env b z)
        λ b o p q g h. right-binary k b o (value_of sheet instance s env) (value_of sheet instance t env) p q g h
    right-translate (unary k t) env a r =
        right-bind a (translate sheet cells t env) (translate_unary k)
        (MeansMatrix (value_of sheet instance t env)) (MeansMatrix (value_unary k (value_of sheet instance t env)))
        (right-translate t env a r) λ b e p g. right-unary k b (means-extends e r.one) (value_of sheet instance t env) p g
    right-translate (comprehension x f) env a r =
        right-bind a (each (λ v. translate_formula sheet cells f (bind env x v)) (atoms_of sheet instance x))
        (λ ls. translate_binary intersection (range sheet cells x env) (bodies sheet cells x ls))
        (Mean (map (λ v. truth_of sheet instance f (bind env x v)) (atoms_of sheet instance x)))
        (MeansMatrix (value_of sheet instance (comprehension x f) env))
        (right-bodies (λ v. translate_formula sheet cells f (bind env x v)) (λ v. truth_of sheet instance f (bind env x v)) a
        (λ v b e. right-translate-formula f (bind env x v) b (ready-extends e r)) (atoms_of sheet instance x))
        λ b e ls q. right-binary intersection b (means-extends e r.one) (v.range sheet instance x env)
        (v.bodies sheet instance x (λ w. truth_of sheet instance f (bind env x w))) (range sheet cells x env)
        (bodies sheet cells x ls)
        (means-leaf atoms (sort_of sheet x) env (ready-extends e r)) record { sizes = refl; cells = q }

    pub right-translate-formula : (f : Formula) (env : Environment) (a : List Bool) → Ready a
        → Right a (translate_formula sheet cells f env (length a)) (Means (truth_of sheet instance f env))
    right-translate-formula (comparison k s t) env a r =
        right-operands a (translate sheet cells s env) (translate sheet cells t env) (translate_comparison k)
        (Means (truth_comparison k (value_of sheet instance s env) (value_of sheet instance t env)))
        (matrix-keeps (value_of sheet instance s env)) r
        (right-translate s env a r) (λ b z. right-translate t env b z)
        λ b o p q g h. right-comparison k b o (value_of sheet instance s env) (value_of sheet instance t env) p q g h
    right-translate-formula (test k t) env a r =
        right-bind a (translate sheet cells t env) (λ p. translate_test k p.cells)
        (MeansMatrix (value_of sheet instance t env)) (Means (truth_test k (value_of sheet instance t env).cells))
        (right-translate t env a r) λ b e p g. right-test k b (means-extends e r.one) (value_of sheet instance t env).cells p.cells g.cells
    right-translate-formula (negation f) env a r =
        right-map a opposite (translate_formula sheet cells f env) (Means (truth_of sheet instance f env)) (Means (not (truth_of sheet instance f env)))
        (right-translate-formula f env a r) λ b e l q. means-opposite q
    right-translate-formula (connective k f g) env a r =
        right-operands a (translate_formula sheet cells f env) (translate_formula sheet cells g env) (λ p q. translate_connective k (p, q))
        (Means (truth_connective k (truth_of sheet instance f env) (truth_of sheet instance g env)))
        (λ b c l e m. means-extends e m) r
        (right-translate-formula f env a r) (λ b z. right-translate-formula g env b z)
        λ b o p q m n. right-connective k b o (truth_of sheet instance f env) (truth_of sheet instance g env) p q m n
    right-translate-formula (quantified k x f) env a r =
        right-bind a (each (λ v. translate_formula sheet cells f (bind env x v)) (atoms_of sheet instance x))
        (λ ls. translate_quantifier k (range sheet cells x env) (bodies sheet cells x ls))
        (Mean (map (λ v. truth_of sheet instance f (bind env x v)) (atoms_of sheet instance x)))
        (Means (truth_of sheet instance (quantified k x f) env))
        (right-bodies (λ v. translate_formula sheet cells f (bind env x v)) (λ v. truth_of sheet instance f (bind env x v)) a
        (λ v b e. right-translate-formula f (bind env x v) b (ready-extends e r)) (atoms_of sheet instance x))
        λ b e ls q. right-quantifier k b (means-extends e r.one) (v.range sheet instance x env)
        (v.bodies sheet instance x (λ w. truth_of sheet instance f (bind env x w))) (range sheet cells x env)
        (bodies sheet cells x ls)
        (means-leaf atoms (sort_of sheet x) env (ready-extends e r)) record { sizes = refl; cells = q }

  pub right-tree : (t : Tree) (a : List Bool) → Ready a
      → Right a (translate_tree sheet cells t (length a)) (Means (truth_of_tree sheet instance t))
  right-tree (expression e) a r = right-return a absent (Means false) (means-opposite r.one)
  right-tree (formula f) a r = right-translate-formula f (λ x. 0) a r
  right-tree broken a r = right-return a absent (Means false) (means-opposite r.one)
